use Rattle.std.proofs.Common.{◌≡◌, map, drop}
use Rattle.gh_core.specs.Typing.{type_of}
use Rattle.gh_kind_index.specs.Levels.{above_all}
use Rattle.gh_kind_index.proofs.above.above_all.Given as goal

abbrev pub invariant-loop-at : goal.invariant-loop-at
invariant-loop-at l = l.level ≡ above_all (map type_of (drop l.at l.types))
