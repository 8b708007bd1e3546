use Rattle.std.proofs.Common.{◌≡◌, ◌++◌, map, take}
use Rattle.gh_declarations.specs.Tops.{a_constr}
use Rattle.gh_declarations.proofs.tops.add_constrs.Given as goal

abbrev pub invariant-loop-next : goal.invariant-loop-next
invariant-loop-next l = l.list ≡ l.initial.list ++ map a_constr (take l.next-index l.constrs)
