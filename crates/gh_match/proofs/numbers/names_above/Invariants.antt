use Rattle.std.proofs.Common.{◌≡◌, drop}
use Rattle.gh_match.specs.Numbers.{names_above}
use Rattle.gh_match.proofs.numbers.names_above.Given as goal

abbrev pub invariant-loop-at : goal.invariant-loop-at
invariant-loop-at l = l.most ≡ names_above (drop l.at l.names)
