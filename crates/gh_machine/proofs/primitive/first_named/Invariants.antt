use Rattle.std.proofs.Common.{◌≡◌, map, drop}
use Rattle.gh_core.specs.Primitives as p
use Rattle.gh_machine.specs.Values.{entry_of}
use Rattle.gh_machine.proofs.primitive.first_named.Given as goal

abbrev pub invariant-loop-name : goal.invariant-loop-name
invariant-loop-name l = p.named (map entry_of l.table) l.origin ≡ p.named (map entry_of (drop l.name-index l.table)) l.origin
