use Rattle.std.proofs.Common.{rules, arith, length, ap}
use Rattle.std.proofs.lemmas.Grind.{common_steps}
use Rattle.gh_parse_exps.specs.Exps.{knot}
use Rattle.gh_parse_exps.specs.Exps.{aexps, aexp}
use Rattle.gh_parse_exps.specs.Exps.{begins_aexp}
use Rattle.gh_tree.proofs.Loops.{begin, more, stops, ends}
use Rattle.gh_reader.specs.Reads.{Fails}
use Rattle.gh_reader.proofs.Loop.{fails_at}
use Rattle.gh_parse_exps.proofs.reader.Reader.aexps.Goals as goal

pub loop-turn-init : goal.loop-turn-init
unfolding aexps
loop-turn-init g c = begin begins_aexp (aexp (knot c.args.self.now.depth)) _ c.new-found.result c.args.tokens.now (ap length c.rest-turn-end.ensures) c.new-found.ensures

pub loop-turn-preserved : goal.loop-turn-preserved
loop-turn-preserved g c =
    rw c.in_ok-found-in-Ok.ensures (more begins_aexp (aexp (knot c.args.self.now.depth)) _ _ c.loop-turn._turn c.loop-turn.found c.in-Ok.arg c.loop-turn.tokens c.aexp.new.tokens c.loop-turn-test.true (search rules) (search rules) c.loop-turn.invariant)

pub returns-then-not-begins_aexp : goal.returns-then-not-begins_aexp
returns-then-not-begins_aexp g c = stops begins_aexp (aexp (knot c.args.self.now.depth)) _ _ c.loop-turn.found c.loop-turn.tokens (search rules) c.loop-turn.invariant

pub returns-in-Err : goal.returns-in-Err
returns-in-Err g c =
    let e : Fails c.in-Err.stop ((aexps (knot c.args.self.now.depth)) c.args.tokens.now) =
    fails_at begins_aexp (aexp (knot c.args.self.now.depth)) c.in-Err.stop _ _ c.loop-turn._turn c.loop-turn.found c.loop-turn.tokens c.loop-turn-test.true (search rules) c.loop-turn.invariant c.in-Err.ensures in
    first_of (search rules, grind (arith, common_steps))

pub returns : goal.returns
returns g c = ends begins_aexp (aexp (knot c.args.self.now.depth)) _ _ c.loop-turn._turn c.loop-turn.found c.loop-turn.tokens c.loop-turn-test.false c.loop-turn.invariant
