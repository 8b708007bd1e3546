use Rattle.std.proofs.Common.{◌≡◌, map, take}
use Rattle.gh_core.specs.Typing.{code_of, type_of}
use Rattle.gh_adapt.specs.Typed.{branch_of}
use Rattle.gh_adapt.specs.TypedPairs.{rebuilding_branch}
use Rattle.gh_adapt.proofs.bimap.rebuilding.Given as goal

abbrev pub invariant-loop-con : goal.invariant-loop-con
invariant-loop-con l = map branch_of l.made ≡ map (rebuilding_branch l.way (map type_of l.left) (map type_of l.right) (map code_of l.pairs) l.count) (take l.con-index l.constructors)
