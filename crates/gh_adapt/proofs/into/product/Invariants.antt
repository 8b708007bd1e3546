use Rattle.std.proofs.Common.{◌≡◌, map, drop}
use Rattle.gh_core.specs.Typing.{code_of, type_of}
use Rattle.gh_adapt.specs.Typed.{product_code}
use Rattle.gh_adapt.proofs.into.product.Given as goal

abbrev pub invariant-loop-at : goal.invariant-loop-at
invariant-loop-at l = code_of l.made ≡ product_code (map type_of l.arguments) l.at (drop l.at l.fields)
