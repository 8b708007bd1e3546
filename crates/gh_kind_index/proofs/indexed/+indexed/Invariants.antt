use Rattle.std.proofs.Common.{◌≡◌, map, drop}
use Rattle.gh_core.specs.Typing.{type_of, arrows}
use Rattle.gh_kind_index.specs.KindIndex.{asked, indexed}
use Rattle.gh_kind_index.proofs.indexed.+indexed.Given as goal

abbrev pub invariant-loop-i : goal.invariant-loop-i
invariant-loop-i l =
    type_of l.made ≡ arrows (asked l.functions (indexed l.functions (map type_of l.others) l.from) l.inside (map type_of l.given) (drop l.i l.dependencies)) (type_of l.initial.made)
