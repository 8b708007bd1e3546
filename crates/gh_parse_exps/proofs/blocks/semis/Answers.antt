use Rattle.std.proofs.Common.{rules, arith, length, ap}
use Rattle.std.proofs.lemmas.Grind.{common_steps}
use Rattle.gh_parse_exps.specs.Marks.{semis, semi}
use Rattle.gh_parse_exps.specs.Marks.{semi_next}
use Rattle.gh_tree.proofs.Loops.{begin, more, stops, ends}
use Rattle.gh_reader.specs.Reads.{Fails}
use Rattle.gh_reader.proofs.Loop.{fails_at}
use Rattle.gh_parse_exps.proofs.blocks.semis.Goals as goal

pub loop-turn-init : goal.loop-turn-init
unfolding semis
loop-turn-init c = begin semi_next semi _ c.new-found.result c.args.tokens.now (ap length c.rest-turn-end.ensures) c.new-found.ensures

pub loop-turn-preserved : goal.loop-turn-preserved
loop-turn-preserved c =
    rw c.in_ok-push.ensures.ok (more semi_next semi _ _ c.loop-turn._turn c.loop-turn.found c.in_ok-semi.field-0 c.loop-turn.tokens c.semi.new.tokens c.loop-turn-test.true (search rules) (search rules) c.loop-turn.invariant)

pub returns-then-not-is_semi : goal.returns-then-not-is_semi
returns-then-not-is_semi c = stops semi_next semi _ _ c.loop-turn.found c.loop-turn.tokens (search rules) c.loop-turn.invariant

pub returns-in_err-semi : goal.returns-in_err-semi
returns-in_err-semi c =
    let e : Fails c.in_err-semi.field-0.0 (semis c.args.tokens.now) =
    fails_at semi_next semi c.in_err-semi.field-0.0 _ _ c.loop-turn._turn c.loop-turn.found c.loop-turn.tokens c.loop-turn-test.true (search rules) c.loop-turn.invariant c.in_err-semi.ensures in
    first_of (search rules, grind (arith, common_steps))

pub returns : goal.returns
returns c = ends semi_next semi _ _ c.loop-turn._turn c.loop-turn.found c.loop-turn.tokens c.loop-turn-test.false c.loop-turn.invariant
