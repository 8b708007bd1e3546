use Rattle.std.proofs.Common.{◌≡◌, drop}
use Rattle.gh_match.specs.Numbers.{groups_above}
use Rattle.gh_match.proofs.numbers.groups_above.Given as goal

abbrev pub invariant-loop-at : goal.invariant-loop-at
invariant-loop-at l = l.most ≡ groups_above (drop l.at l.groups)
