use Rattle.std.proofs.Common.{◌≡◌, ◌-◌}
use Rattle.gh_parse_exps.specs.Exps.{knot}
use Rattle.gh_parse_exps.specs.Exps.{next_operands, next_operand}
use Rattle.gh_parse_exps.specs.Ops.{goes_on}
use Rattle.gh_tree.specs.Read.{many}
use Rattle.gh_tree.proofs.Loops.{with_front}
use Rattle.gh_parse_exps.proofs.reader.Reader.next_operands.Given as goal

abbrev pub invariant-loop-turn : goal.invariant-loop-turn
invariant-loop-turn g l = (next_operands (knot l.self.depth)) l.fn.tokens ≡ with_front l.found (many goes_on (next_operand (knot l.self.depth)) (l._turn-end - l._turn) l.tokens)
