use Rattle.std.proofs.Common.{◌≡◌, ◌++◌, ◌+◌, ℕ}
use Rattle.gh_match.specs.Compiled.{numbers}
use Rattle.gh_match.proofs.tests.numbers.Given as goal

abbrev pub invariant-loop-at : goal.invariant-loop-at
invariant-loop-at l = (n : ℕ) → l.at + n ≡ l.count → l.made ++ numbers (l.from + l.at) n ≡ numbers l.from l.count
