use Rattle.std.proofs.Common.{map, take}
use Rattle.gh_core_lint.specs.Kinds.{AreStars}
use Rattle.gh_core_lint.specs.Types.{type_at}
use Rattle.gh_core_lint.proofs.compound.all_values.Given as goal

abbrev pub invariant-loop-place : goal.invariant-loop-place
invariant-loop-place l = AreStars l.known.decls.now l.kinds (map type_at (take l.place l.types))
