use Rattle.std.proofs.Common.{◌≡◌, ◌-◌}
use Rattle.gh_tree.specs.Read.{comma_next}
use Rattle.gh_tree.specs.ReadPatterns.{arg, pat_part, pat_parts}
use Rattle.gh_tree.specs.Read.{many}
use Rattle.gh_tree.proofs.Loops.{with_front}
use Rattle.gh_parse_patterns.proofs.patterns.Reader.pat_parts.Given as goal

abbrev pub invariant-loop-turn : goal.invariant-loop-turn
invariant-loop-turn g l = pat_parts (arg l.self.depth) l.fn.tokens ≡ with_front l.found (many comma_next (pat_part (arg l.self.depth)) (l._turn-end - l._turn) l.tokens)
