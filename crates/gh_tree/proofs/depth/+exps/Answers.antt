use Rattle.std.proofs.Common.{arith, sym, ap, ◌∙◌}
use Rattle.gh_tree.specs.Depth.{capped, capped_sum, aexp_depth, alt_guard_depth, alt_item_depth, decl_item_depth, guard_depth, next_operand_depth, part_depth, redef_item_depth}
use Rattle.gh_tree.proofs.Capped.{push_deepest}
use Rattle.gh_tree.proofs.DepthAt.{next_operand_at, redef_item_at, decl_item_at, alt_item_at, part_at, redef_at}
use Rattle.gh_tree.proofs.depth.+exps.Goals as goal

pub next_operands_depth-loop-part-preserved : goal.next_operands_depth-loop-part-preserved
next_operands_depth-loop-part-preserved t c =
    push_deepest next_operand_depth c.args.parts.now c.loop-part.part-index c.loop-part.most c.greater-most.result c.operand_depth.result c.part-item.result
    (omega arith) c.part-item.is (c.operand_depth.ensures ∙ sym (next_operand_at c.part-item.result)) c.loop-part.invariant c.greater-most.ensures

pub aexps_depth-loop-part-preserved : goal.aexps_depth-loop-part-preserved
aexps_depth-loop-part-preserved t c =
    push_deepest aexp_depth c.args.parts.now c.loop-part.part-index c.loop-part.most c.greater-most.result c.aexp_depth.result c.part-item.result
    (omega arith) c.part-item.is c.aexp_depth.ensures c.loop-part.invariant c.greater-most.ensures

pub redef_items_depth-loop-part-preserved : goal.redef_items_depth-loop-part-preserved
redef_items_depth-loop-part-preserved t c =
    push_deepest redef_item_depth c.args.parts.now c.loop-part.part-index c.loop-part.most c.greater-most.result c.above.result c.part-item.result
    (omega arith) c.part-item.is (c.above.ensures ∙ ap (λ d. capped_sum (capped 1) d) c.exp_depth.ensures ∙ sym (redef_at _) ∙ sym (redef_item_at c.part-item.result)) c.loop-part.invariant c.greater-most.ensures

pub decl_items_depth-loop-part-preserved : goal.decl_items_depth-loop-part-preserved
decl_items_depth-loop-part-preserved t c =
    push_deepest decl_item_depth c.args.parts.now c.loop-part.part-index c.loop-part.most c.greater-most.result c.decl_depth.result c.part-item.result
    (omega arith) c.part-item.is (c.decl_depth.ensures ∙ sym (decl_item_at c.part-item.result)) c.loop-part.invariant c.greater-most.ensures

pub alt_items_depth-loop-part-preserved : goal.alt_items_depth-loop-part-preserved
alt_items_depth-loop-part-preserved t c =
    push_deepest alt_item_depth c.args.parts.now c.loop-part.part-index c.loop-part.most c.greater-most.result c.alt_depth.result c.part-item.result
    (omega arith) c.part-item.is (c.alt_depth.ensures ∙ sym (alt_item_at c.part-item.result)) c.loop-part.invariant c.greater-most.ensures

pub guards_depth-loop-part-preserved : goal.guards_depth-loop-part-preserved
guards_depth-loop-part-preserved t c =
    push_deepest guard_depth c.args.parts.now c.loop-part.part-index c.loop-part.most c.greater-most.result c.guard_depth.result c.part-item.result
    (omega arith) c.part-item.is c.guard_depth.ensures c.loop-part.invariant c.greater-most.ensures

pub alt_guards_depth-loop-part-preserved : goal.alt_guards_depth-loop-part-preserved
alt_guards_depth-loop-part-preserved t c =
    push_deepest alt_guard_depth c.args.parts.now c.loop-part.part-index c.loop-part.most c.greater-most.result c.alt_guard_depth.result c.part-item.result
    (omega arith) c.part-item.is c.alt_guard_depth.ensures c.loop-part.invariant c.greater-most.ensures

pub exp_parts_depth-loop-part-preserved : goal.exp_parts_depth-loop-part-preserved
exp_parts_depth-loop-part-preserved t c =
    push_deepest part_depth c.args.parts.now c.loop-part.part-index c.loop-part.most c.greater-most.result c.exp_depth.result c.part-item.result
    (omega arith) c.part-item.is (c.exp_depth.ensures ∙ sym (part_at c.part-item.result)) c.loop-part.invariant c.greater-most.ensures
