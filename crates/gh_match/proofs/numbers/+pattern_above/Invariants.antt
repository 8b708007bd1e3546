use Rattle.std.proofs.Common.{◌≡◌, drop}
use Rattle.gh_kernel.specs.Reading.{patterns_of}
use Rattle.gh_match.specs.Numbers.{pats_above}
use Rattle.gh_match.proofs.numbers.+pattern_above.Given as goal

abbrev pub invariant-patterns_above-loop-at : goal.invariant-patterns_above-loop-at
invariant-patterns_above-loop-at l = l.most ≡ pats_above (patterns_of (drop l.at l.patterns))
