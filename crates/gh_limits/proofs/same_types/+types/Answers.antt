use Rattle.std.proofs.Common.{arith, sym, ◌∙◌}
use Rattle.gh_limits.specs.SameTypes.{same_arg_type, same_arrow, same_type_part}
use Rattle.gh_limits.proofs.SameAt.{arrow_at, type_part_at}
use Rattle.gh_limits.proofs.Sames.{lengths_differ, stops, goes}
use Rattle.gh_limits.proofs.same_types.+types.Goals as goal

pub same_arg_types-returns-then-a-b : goal.same_arg_types-returns-then-a-b
same_arg_types-returns-then-a-b t c = lengths_differ same_arg_type c.args.a.now c.args.b.now c.if-a-b.true

pub same_arrows-returns-then-a-b : goal.same_arrows-returns-then-a-b
same_arrows-returns-then-a-b t c = lengths_differ same_arrow c.args.a.now c.args.b.now c.if-a-b.true

pub same_type_parts-returns-then-a-b : goal.same_type_parts-returns-then-a-b
same_type_parts-returns-then-a-b t c = lengths_differ same_type_part c.args.a.now c.args.b.now c.if-a-b.true

pub same_arrows-returns-then-not-same_btype : goal.same_arrows-returns-then-not-same_btype
same_arrows-returns-then-not-same_btype t c =
    stops same_arrow c.args.a.now c.args.b.now c.loop-i.i c.index-a-i.result c.index-b-i.result c.same_btype.result (omega arith) (omega arith)
    (c.same_btype.ensures ∙ sym (arrow_at _ _)) c.if-not-same_btype.true c.loop-i.invariant

pub same_arrows-loop-i-preserved : goal.same_arrows-loop-i-preserved
same_arrows-loop-i-preserved t c =
    goes same_arrow c.args.a.now c.args.b.now c.loop-i.i c.index-a-i.result c.index-b-i.result c.same_btype.result (omega arith) (omega arith)
    (c.same_btype.ensures ∙ sym (arrow_at _ _)) c.if-not-same_btype.false c.loop-i.invariant

pub same_type_parts-returns-then-not-same_type : goal.same_type_parts-returns-then-not-same_type
same_type_parts-returns-then-not-same_type t c =
    stops same_type_part c.args.a.now c.args.b.now c.loop-i.i c.index-a-i.result c.index-b-i.result c.same_type.result (omega arith) (omega arith)
    (c.same_type.ensures ∙ sym (type_part_at _ _)) c.if-not-same_type.true c.loop-i.invariant

pub same_type_parts-loop-i-preserved : goal.same_type_parts-loop-i-preserved
same_type_parts-loop-i-preserved t c =
    goes same_type_part c.args.a.now c.args.b.now c.loop-i.i c.index-a-i.result c.index-b-i.result c.same_type.result (omega arith) (omega arith)
    (c.same_type.ensures ∙ sym (type_part_at _ _)) c.if-not-same_type.false c.loop-i.invariant
