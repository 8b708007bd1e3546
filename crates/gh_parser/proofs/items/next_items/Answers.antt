use Rattle.std.proofs.Common.{rules, arith, length}
use Rattle.std.proofs.lemmas.Grind.{common_steps}
use Rattle.gh_parser.specs.Gives.{Fails}
use Rattle.gh_parser.specs.Parse.{others_of}
use Rattle.gh_parser.proofs.Loop.{more, part_fails, closes, runs_out, refused_fails}
use Rattle.gh_parser.proofs.items.next_items.Goals as goal

pub returns-in-Closed : goal.returns-in-Closed
returns-in-Closed c = closes 2000 _ _ c.loop-turn.before c.loop-turn.last c.in-Closed.close c.loop-turn.found c.loop-turn.tokens (search rules) c.loop-turn.invariant

pub returns-in_err-part-in-Parted : goal.returns-in_err-part-in-Parted
returns-in_err-part-in-Parted c =
    let e : Fails c.in_err-part-in-Parted.field-0.0 (others_of 2000 (length c.args.tokens.now) c.args.tops c.args.end c.args.tokens.now) =
    part_fails 2000 _ c.loop-turn._turn c.in_err-part-in-Parted.field-0.0 _ c.loop-turn.before c.loop-turn.last c.in-Parted.mark c.loop-turn.found c.loop-turn.tokens c.loop-turn-test.true (search rules) c.in_err-part-in-Parted.ensures.value c.loop-turn.invariant in
    first_of (search rules, grind (arith, common_steps))

pub loop-turn-preserved : goal.loop-turn-preserved
loop-turn-preserved c =
    rw c.in_ok-push-in-Parted.ensures.ok (more 2000 _ c.loop-turn._turn _ c.loop-turn.before c.tops_behind-before.result c.loop-turn.last c.in-Parted.mark c.in_ok-part-in-Parted.part c.loop-turn.found c.loop-turn.tokens c.next_part.new.tokens c.loop-turn-test.true (search rules) c.in_ok-part-in-Parted.ensures.value c.in_ok-part-in-Parted.ensures.rest c.tops_behind-before.ensures c.loop-turn.invariant)

pub returns-in-Closed-last : goal.returns-in-Closed-last
returns-in-Closed-last c = closes 2000 _ _ c.loop-turn.before c.loop-turn.last c.in-Closed-last.close c.loop-turn.found c.loop-turn.tokens (search rules) c.loop-turn.invariant

pub returns-in-Parted-last : goal.returns-in-Parted-last
returns-in-Parted-last c =
    refused_fails c.no_parse.result c.loop-turn.tokens _ (search rules)
    (runs_out 2000 _ c.loop-turn._turn _ c.loop-turn.before c.loop-turn.last c.in-Parted-last.field-0 c.loop-turn.found c.loop-turn.tokens c.loop-turn-test.false (search rules) c.loop-turn.invariant)
