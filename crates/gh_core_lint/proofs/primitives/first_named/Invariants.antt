use Rattle.std.proofs.Common.{◌≡◌, map, drop}
use Rattle.gh_core.specs.Primitives as p
use Rattle.gh_core_lint.specs.Stops.{entry_of}
use Rattle.gh_core_lint.proofs.primitives.first_named.Given as goal

abbrev pub invariant-loop-name : goal.invariant-loop-name
invariant-loop-name l = p.named (map entry_of l.table) l.origin ≡ p.named (map entry_of (drop l.name-index l.table)) l.origin
