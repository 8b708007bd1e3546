use Rattle.std.proofs.Common.{rules, length, ap}
use Rattle.gh_tree.specs.Read.{commas, comma_next, next}
use Rattle.gh_tree.proofs.Loops.{begin, more, stops, ends}
use Rattle.gh_reader.proofs.marks.commas.Goals as goal

pub loop-turn-init : goal.loop-turn-init
unfolding commas
loop-turn-init c = begin comma_next next _ c.new-found.result c.args.tokens.now (ap length c.rest-turn-end.ensures) c.new-found.ensures

pub loop-turn-preserved : goal.loop-turn-preserved
loop-turn-preserved c =
    rw c.in_ok-push.ensures.ok (more comma_next next _ _ c.loop-turn._turn c.loop-turn.found c.take.result c.loop-turn.tokens c.take.new.self c.loop-turn-test.true (search rules) (search rules) c.loop-turn.invariant)

pub returns-then-not-is_comma : goal.returns-then-not-is_comma
returns-then-not-is_comma c = stops comma_next next _ _ c.loop-turn.found c.loop-turn.tokens (search rules) c.loop-turn.invariant

pub returns : goal.returns
returns c = ends comma_next next _ _ c.loop-turn._turn c.loop-turn.found c.loop-turn.tokens c.loop-turn-test.false c.loop-turn.invariant
