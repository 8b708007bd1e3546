use Rattle.std.proofs.Common.{◌≡◌, length}
use Rattle.gh_kind_unify.proofs.build.stars.Given as goal

abbrev pub invariant-loop-at : goal.invariant-loop-at
invariant-loop-at l = length l.made.items ≡ l.at
