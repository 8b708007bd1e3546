use Rattle.std.proofs.Common.{◌≡◌, map, take}
use Rattle.gh_core.specs.Typing.{type_of}
use Rattle.gh_kind_index.specs.KindIndex.{each_applied, variables_from}
use Rattle.gh_kind_index.proofs.binders.each_applied.Given as goal

abbrev pub invariant-loop-i : goal.invariant-loop-i
invariant-loop-i l = map type_of l.made ≡ each_applied (map type_of (take l.i l.types)) (variables_from l.level l.i)
