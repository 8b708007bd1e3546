use Rattle.std.proofs.Common.{◌≡◌, map, take}
use Rattle.gh_core.specs.Typing.{type_of}
use Rattle.gh_adapt.specs.Untyped.{first_type}
use Rattle.gh_adapt.proofs.at_base.lefts.Given as goal

abbrev pub invariant-loop-left : goal.invariant-loop-left
invariant-loop-left l = map type_of l.made ≡ map first_type (take l.left-index l.types)
