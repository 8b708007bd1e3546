use Rattle.std.proofs.Common.{rules, arith, length, ap}
use Rattle.std.proofs.lemmas.Grind.{common_steps}
use Rattle.gh_tree.specs.ReadNames.{con_op_next}
use Rattle.gh_tree.specs.ReadPatterns.{arg, next_pattern, next_patterns}
use Rattle.gh_tree.proofs.Loops.{begin, more, stops, ends}
use Rattle.gh_reader.specs.Reads.{Fails}
use Rattle.gh_reader.proofs.Loop.{fails_at}
use Rattle.gh_parse_patterns.proofs.patterns.Reader.next_patterns.Goals as goal

pub loop-turn-init : goal.loop-turn-init
unfolding next_patterns
loop-turn-init g c = begin con_op_next (next_pattern (arg c.args.self.now.depth)) _ c.new-found.result c.args.tokens.now (ap length c.rest-turn-end.ensures) c.new-found.ensures

pub loop-turn-preserved : goal.loop-turn-preserved
loop-turn-preserved g c =
    rw c.in_ok-push.ensures.ok (more con_op_next (next_pattern (arg c.args.self.now.depth)) _ _ c.loop-turn._turn c.loop-turn.found c.in_ok-next_pattern.field-0 c.loop-turn.tokens c.next_pattern.new.tokens c.loop-turn-test.true (search rules) (search rules) c.loop-turn.invariant)

pub returns-then-not-con_op_next : goal.returns-then-not-con_op_next
returns-then-not-con_op_next g c = stops con_op_next (next_pattern (arg c.args.self.now.depth)) _ _ c.loop-turn.found c.loop-turn.tokens (search rules) c.loop-turn.invariant

pub returns-in_err-next_pattern : goal.returns-in_err-next_pattern
returns-in_err-next_pattern g c =
    let e : Fails c.in_err-next_pattern.field-0.0 (next_patterns (arg c.args.self.now.depth) c.args.tokens.now) =
    fails_at con_op_next (next_pattern (arg c.args.self.now.depth)) c.in_err-next_pattern.field-0.0 _ _ c.loop-turn._turn c.loop-turn.found c.loop-turn.tokens c.loop-turn-test.true (search rules) c.loop-turn.invariant c.in_err-next_pattern.ensures in
    first_of (search rules, grind (arith, common_steps))

pub returns : goal.returns
returns g c = ends con_op_next (next_pattern (arg c.args.self.now.depth)) _ _ c.loop-turn._turn c.loop-turn.found c.loop-turn.tokens c.loop-turn-test.false c.loop-turn.invariant
