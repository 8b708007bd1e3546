use Rattle.std.proofs.Common.{rules, arith, length, ap}
use Rattle.std.proofs.lemmas.Grind.{common_steps}
use Rattle.gh_tree.specs.ReadTypes.{type_expr}
use Rattle.gh_parse_tops.specs.Tops.{next_constrs, next_constr}
use Rattle.gh_parse_exps.specs.Marks.{bar_next}
use Rattle.gh_tree.proofs.Loops.{begin, more, stops, ends}
use Rattle.gh_reader.specs.Reads.{Fails}
use Rattle.gh_reader.proofs.Loop.{fails_at}
use Rattle.gh_parse_tops.proofs.constrs.next_constrs.Goals as goal

pub loop-turn-init : goal.loop-turn-init
unfolding next_constrs
loop-turn-init c = begin bar_next (next_constr (type_expr c.args.depth)) _ c.new-found.result c.args.tokens.now (ap length c.rest-turn-end.ensures) c.new-found.ensures

pub loop-turn-preserved : goal.loop-turn-preserved
loop-turn-preserved c =
    rw c.in_ok-push.ensures.ok (more bar_next (next_constr (type_expr c.args.depth)) _ _ c.loop-turn._turn c.loop-turn.found c.in_ok-next_constr.field-0 c.loop-turn.tokens c.next_constr.new.tokens c.loop-turn-test.true (search rules) (search rules) c.loop-turn.invariant)

pub returns-then-not-is_bar : goal.returns-then-not-is_bar
returns-then-not-is_bar c = stops bar_next (next_constr (type_expr c.args.depth)) _ _ c.loop-turn.found c.loop-turn.tokens (search rules) c.loop-turn.invariant

pub returns-in_err-next_constr : goal.returns-in_err-next_constr
returns-in_err-next_constr c =
    let e : Fails c.in_err-next_constr.field-0.0 ((next_constrs (type_expr c.args.depth)) c.args.tokens.now) =
    fails_at bar_next (next_constr (type_expr c.args.depth)) c.in_err-next_constr.field-0.0 _ _ c.loop-turn._turn c.loop-turn.found c.loop-turn.tokens c.loop-turn-test.true (search rules) c.loop-turn.invariant c.in_err-next_constr.ensures in
    first_of (search rules, grind (arith, common_steps))

pub returns : goal.returns
returns c = ends bar_next (next_constr (type_expr c.args.depth)) _ _ c.loop-turn._turn c.loop-turn.found c.loop-turn.tokens c.loop-turn-test.false c.loop-turn.invariant
