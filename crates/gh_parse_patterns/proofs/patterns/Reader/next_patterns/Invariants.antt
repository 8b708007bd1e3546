use Rattle.std.proofs.Common.{◌≡◌, ◌-◌}
use Rattle.gh_tree.specs.ReadNames.{con_op_next}
use Rattle.gh_tree.specs.ReadPatterns.{arg, next_pattern, next_patterns}
use Rattle.gh_tree.specs.Read.{many}
use Rattle.gh_tree.proofs.Loops.{with_front}
use Rattle.gh_parse_patterns.proofs.patterns.Reader.next_patterns.Given as goal

abbrev pub invariant-loop-turn : goal.invariant-loop-turn
invariant-loop-turn g l = next_patterns (arg l.self.depth) l.fn.tokens ≡ with_front l.found (many con_op_next (next_pattern (arg l.self.depth)) (l._turn-end - l._turn) l.tokens)
