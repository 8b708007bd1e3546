use Rattle.std.proofs.Common.{◌≡◌, map, take}
use Rattle.gh_core.specs.Typing.{type_of}
use Rattle.gh_adapt.specs.Typed.{branch_of, from_branches}
use Rattle.gh_adapt.proofs.into.alternatives.Given as goal

abbrev pub invariant-loop-index : goal.invariant-loop-index
invariant-loop-index l = map branch_of l.made ≡ from_branches (map type_of l.arguments) l.layers 0 (take l.index l.constructors)
