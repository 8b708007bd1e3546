use Rattle.std.proofs.Common.{◌≡◌, drop}
use Rattle.gh_match.specs.Numbers.{bodies_above}
use Rattle.gh_match.proofs.numbers.bodies_above.Given as goal

abbrev pub invariant-loop-at : goal.invariant-loop-at
invariant-loop-at l = l.most ≡ bodies_above (drop l.at l.bodies)
