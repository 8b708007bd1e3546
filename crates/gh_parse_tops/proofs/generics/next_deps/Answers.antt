use Rattle.std.proofs.Common.{rules, arith, length, ap}
use Rattle.std.proofs.lemmas.Grind.{common_steps}
use Rattle.gh_parse_tops.specs.Generics.{next_deps, next_dep}
use Rattle.gh_tree.specs.Read.{comma_next}
use Rattle.gh_tree.proofs.Loops.{begin, more, stops, ends}
use Rattle.gh_reader.specs.Reads.{Fails}
use Rattle.gh_reader.proofs.Loop.{fails_at}
use Rattle.gh_parse_tops.proofs.generics.next_deps.Goals as goal

pub loop-turn-init : goal.loop-turn-init
unfolding next_deps
loop-turn-init c = begin comma_next next_dep _ c.new-found.result c.args.tokens.now (ap length c.rest-turn-end.ensures) c.new-found.ensures

pub loop-turn-preserved : goal.loop-turn-preserved
loop-turn-preserved c =
    rw c.in_ok-push.ensures.ok (more comma_next next_dep _ _ c.loop-turn._turn c.loop-turn.found c.in_ok-next_dep.field-0 c.loop-turn.tokens c.next_dep.new.tokens c.loop-turn-test.true (search rules) (search rules) c.loop-turn.invariant)

pub returns-then-not-is_comma : goal.returns-then-not-is_comma
returns-then-not-is_comma c = stops comma_next next_dep _ _ c.loop-turn.found c.loop-turn.tokens (search rules) c.loop-turn.invariant

pub returns-in_err-next_dep : goal.returns-in_err-next_dep
returns-in_err-next_dep c =
    let e : Fails c.in_err-next_dep.field-0.0 (next_deps c.args.tokens.now) =
    fails_at comma_next next_dep c.in_err-next_dep.field-0.0 _ _ c.loop-turn._turn c.loop-turn.found c.loop-turn.tokens c.loop-turn-test.true (search rules) c.loop-turn.invariant c.in_err-next_dep.ensures in
    first_of (search rules, grind (arith, common_steps))

pub returns : goal.returns
returns c = ends comma_next next_dep _ _ c.loop-turn._turn c.loop-turn.found c.loop-turn.tokens c.loop-turn-test.false c.loop-turn.invariant
