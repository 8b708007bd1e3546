use Rattle.std.proofs.Common.{rules, arith, length, ap}
use Rattle.std.proofs.lemmas.Grind.{common_steps}
use Rattle.gh_tree.specs.Read.{comma_next}
use Rattle.gh_tree.specs.ReadTypes.{type_part, type_parts, type_expr}
use Rattle.gh_tree.proofs.Loops.{begin, more, stops, ends}
use Rattle.gh_reader.specs.Reads.{Fails}
use Rattle.gh_reader.proofs.Loop.{fails_at}
use Rattle.gh_parse_types.proofs.types.Reader.type_parts.Goals as goal

pub loop-turn-init : goal.loop-turn-init
unfolding type_parts
loop-turn-init g c = begin comma_next (type_part (type_expr c.args.self.now.depth)) _ c.new-found.result c.args.tokens.now (ap length c.rest-turn-end.ensures) c.new-found.ensures

pub loop-turn-preserved : goal.loop-turn-preserved
loop-turn-preserved g c =
    rw c.in_ok-push.ensures.ok (more comma_next (type_part (type_expr c.args.self.now.depth)) _ _ c.loop-turn._turn c.loop-turn.found c.in_ok-type_part.field-0 c.loop-turn.tokens c.type_part.new.tokens c.loop-turn-test.true (search rules) (search rules) c.loop-turn.invariant)

pub returns-then-not-is_comma : goal.returns-then-not-is_comma
returns-then-not-is_comma g c = stops comma_next (type_part (type_expr c.args.self.now.depth)) _ _ c.loop-turn.found c.loop-turn.tokens (search rules) c.loop-turn.invariant

pub returns-in_err-type_part : goal.returns-in_err-type_part
returns-in_err-type_part g c =
    let e : Fails c.in_err-type_part.field-0.0 (type_parts (type_expr c.args.self.now.depth) c.args.tokens.now) =
    fails_at comma_next (type_part (type_expr c.args.self.now.depth)) c.in_err-type_part.field-0.0 _ _ c.loop-turn._turn c.loop-turn.found c.loop-turn.tokens c.loop-turn-test.true (search rules) c.loop-turn.invariant c.in_err-type_part.ensures in
    first_of (search rules, grind (arith, common_steps))

pub returns : goal.returns
returns g c = ends comma_next (type_part (type_expr c.args.self.now.depth)) _ _ c.loop-turn._turn c.loop-turn.found c.loop-turn.tokens c.loop-turn-test.false c.loop-turn.invariant
