use Rattle.std.proofs.Common.{◌≡◌, ◌++◌, map, take}
use Rattle.gh_modules.specs.Summaries.{next_constr}
use Rattle.gh_modules.proofs.defined.add_constrs.Given as goal

abbrev pub invariant-loop-next : goal.invariant-loop-next
invariant-loop-next l = l.list ≡ l.initial.list ++ map (next_constr l.owner) (take l.next-index l.constrs)
