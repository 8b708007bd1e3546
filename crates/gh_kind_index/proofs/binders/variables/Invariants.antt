use Rattle.std.proofs.Common.{◌≡◌, map}
use Rattle.gh_core.specs.Typing.{type_of}
use Rattle.gh_kind_index.specs.KindIndex.{variables_from}
use Rattle.gh_kind_index.proofs.binders.variables.Given as goal

abbrev pub invariant-loop-i : goal.invariant-loop-i
invariant-loop-i l = map type_of l.made ≡ variables_from l.level l.i
