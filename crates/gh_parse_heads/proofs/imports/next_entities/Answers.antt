use Rattle.std.proofs.Common.{rules, arith, length, ap}
use Rattle.std.proofs.lemmas.Grind.{common_steps}
use Rattle.gh_tree.specs.ReadExports.{goes_on}
use Rattle.gh_parse_heads.specs.Imports.{next_entity, next_entities}
use Rattle.gh_tree.proofs.Loops.{begin, more, stops, ends}
use Rattle.gh_reader.specs.Reads.{Fails}
use Rattle.gh_reader.proofs.Loop.{fails_at}
use Rattle.gh_parse_heads.proofs.imports.next_entities.Goals as goal

pub loop-turn-init : goal.loop-turn-init
unfolding next_entities
loop-turn-init c = begin goes_on next_entity _ c.new-found.result c.args.tokens.now (ap length c.rest-turn-end.ensures) c.new-found.ensures

pub loop-turn-preserved : goal.loop-turn-preserved
loop-turn-preserved c =
    rw c.in_ok-push.ensures.ok (more goes_on next_entity _ _ c.loop-turn._turn c.loop-turn.found c.in_ok-next_entity.field-0 c.loop-turn.tokens c.next_entity.new.tokens c.loop-turn-test.true (search rules) (search rules) c.loop-turn.invariant)

pub returns-then-not-goes_on : goal.returns-then-not-goes_on
returns-then-not-goes_on c = stops goes_on next_entity _ _ c.loop-turn.found c.loop-turn.tokens (search rules) c.loop-turn.invariant

pub returns-in_err-next_entity : goal.returns-in_err-next_entity
returns-in_err-next_entity c =
    let e : Fails c.in_err-next_entity.field-0.0 (next_entities c.args.tokens.now) =
    fails_at goes_on next_entity c.in_err-next_entity.field-0.0 _ _ c.loop-turn._turn c.loop-turn.found c.loop-turn.tokens c.loop-turn-test.true (search rules) c.loop-turn.invariant c.in_err-next_entity.ensures in
    first_of (search rules, grind (arith, common_steps))

pub returns : goal.returns
returns c = ends goes_on next_entity _ _ c.loop-turn._turn c.loop-turn.found c.loop-turn.tokens c.loop-turn-test.false c.loop-turn.invariant
