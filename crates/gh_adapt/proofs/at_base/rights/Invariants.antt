use Rattle.std.proofs.Common.{◌≡◌, map, take}
use Rattle.gh_core.specs.Typing.{type_of}
use Rattle.gh_adapt.specs.Untyped.{second_type}
use Rattle.gh_adapt.proofs.at_base.rights.Given as goal

abbrev pub invariant-loop-right : goal.invariant-loop-right
invariant-loop-right l = map type_of l.made ≡ map second_type (take l.right-index l.types)
