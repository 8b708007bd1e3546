use Rattle.std.proofs.Common.{◌≡◌, ◌++◌, ◌+◌, drop}
use Rattle.gh_kernel.specs.Reading.{patterns_of}
use Rattle.gh_match.specs.Compiled.{gains, tests_pats}
use Rattle.gh_match.proofs.tests.+flatten.Given as goal

abbrev pub invariant-add_patterns-loop-pattern : goal.invariant-add_patterns-loop-pattern
invariant-add_patterns-loop-pattern l =
    (l.tests ++ tests_pats (patterns_of (drop l.pattern-index l.patterns)) l.at l.after ≡ l.initial.tests ++ tests_pats (patterns_of l.patterns) l.subject l.free)
    × (l.after + gains (patterns_of (drop l.pattern-index l.patterns)) ≡ l.free + gains (patterns_of l.patterns))
