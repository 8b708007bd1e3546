use Rattle.std.proofs.Common.{◌≡◌, ◌++◌, map, take}
use Rattle.gh_declarations.specs.Tops.{given_value}
use Rattle.gh_declarations.proofs.tops.add_given.Given as goal

abbrev pub invariant-loop-name : goal.invariant-loop-name
invariant-loop-name l = l.list ≡ l.initial.list ++ map given_value (take l.name-index l.ids)
