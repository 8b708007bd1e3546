use Rattle.std.proofs.Common.{◌≡◌, map, drop}
use Rattle.gh_core.specs.Typing.{code_of, type_of}
use Rattle.gh_adapt.specs.Typed.{to_case_code}
use Rattle.gh_adapt.proofs.out_of.to_case.Given as goal

abbrev pub invariant-loop-at : goal.invariant-loop-at
invariant-loop-at l = code_of l.made ≡ to_case_code (map type_of l.arguments) (type_of l.ty) (drop l.at l.constructors)
