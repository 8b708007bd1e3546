use Rattle.std.proofs.Common.{rules, arith, length, ap}
use Rattle.std.proofs.lemmas.Grind.{common_steps}
use Rattle.gh_tree.specs.ReadTypes.{begins_arg, arg_type, arg_types, type_expr}
use Rattle.gh_tree.proofs.Loops.{begin, more, stops, ends}
use Rattle.gh_reader.specs.Reads.{Fails}
use Rattle.gh_reader.proofs.Loop.{fails_at}
use Rattle.gh_parse_types.proofs.types.Reader.arg_types.Goals as goal

pub loop-turn-init : goal.loop-turn-init
unfolding arg_types
loop-turn-init g c = begin begins_arg (arg_type (type_expr c.args.self.now.depth)) _ c.new-found.result c.args.tokens.now (ap length c.rest-turn-end.ensures) c.new-found.ensures

pub loop-turn-preserved : goal.loop-turn-preserved
loop-turn-preserved g c =
    rw c.in_ok-push.ensures.ok (more begins_arg (arg_type (type_expr c.args.self.now.depth)) _ _ c.loop-turn._turn c.loop-turn.found c.in_ok-arg_type.field-0 c.loop-turn.tokens c.arg_type.new.tokens c.loop-turn-test.true (search rules) (search rules) c.loop-turn.invariant)

pub returns-then-not-begins_arg : goal.returns-then-not-begins_arg
returns-then-not-begins_arg g c = stops begins_arg (arg_type (type_expr c.args.self.now.depth)) _ _ c.loop-turn.found c.loop-turn.tokens (search rules) c.loop-turn.invariant

pub returns-in_err-arg_type : goal.returns-in_err-arg_type
returns-in_err-arg_type g c =
    let e : Fails c.in_err-arg_type.field-0.0 (arg_types (type_expr c.args.self.now.depth) c.args.tokens.now) =
    fails_at begins_arg (arg_type (type_expr c.args.self.now.depth)) c.in_err-arg_type.field-0.0 _ _ c.loop-turn._turn c.loop-turn.found c.loop-turn.tokens c.loop-turn-test.true (search rules) c.loop-turn.invariant c.in_err-arg_type.ensures in
    first_of (search rules, grind (arith, common_steps))

pub returns : goal.returns
returns g c = ends begins_arg (arg_type (type_expr c.args.self.now.depth)) _ _ c.loop-turn._turn c.loop-turn.found c.loop-turn.tokens c.loop-turn-test.false c.loop-turn.invariant
