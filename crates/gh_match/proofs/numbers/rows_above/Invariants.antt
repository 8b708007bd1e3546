use Rattle.std.proofs.Common.{◌≡◌, drop}
use Rattle.gh_match.specs.Numbers.{rows_above}
use Rattle.gh_match.proofs.numbers.rows_above.Given as goal

abbrev pub invariant-loop-at : goal.invariant-loop-at
invariant-loop-at l = l.most ≡ rows_above (drop l.at l.rows)
