use Rattle.std.proofs.Common.{◌≡◌, map, drop}
use Rattle.gh_limits.specs.Bound.{joined}
use Rattle.gh_limits.specs.Inside.{names_at}
use Rattle.gh_limits.specs.Seen.{keeps}
use Rattle.gh_limits.proofs.clauses.see_decls.Given as goal

abbrev pub invariant-loop-item : goal.invariant-loop-item
invariant-loop-item l = keeps l.initial.seen.items (joined (map names_at l.decls)) ≡ keeps l.seen.items (joined (map names_at (drop l.item-index l.decls)))
