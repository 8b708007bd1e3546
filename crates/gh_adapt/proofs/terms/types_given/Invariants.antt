use Rattle.std.proofs.Common.{◌≡◌, map, drop}
use Rattle.gh_core.specs.Typing.{code_of, type_of}
use Rattle.gh_adapt.specs.Typed.{types_given}
use Rattle.gh_adapt.proofs.terms.types_given.Given as goal

abbrev pub invariant-loop-ty : goal.invariant-loop-ty
invariant-loop-ty l = types_given (code_of l.made) (map type_of (drop l.ty-index l.types)) ≡ types_given (code_of l.initial.made) (map type_of l.types)
