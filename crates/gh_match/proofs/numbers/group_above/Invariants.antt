use Rattle.std.proofs.Common.{◌≡◌, drop}
use Rattle.gh_match.specs.Numbers.{group_above}
use Rattle.gh_match.proofs.numbers.group_above.Given as goal

abbrev pub invariant-loop-at : goal.invariant-loop-at
invariant-loop-at l = l.most ≡ group_above (drop l.at l.bindings)
