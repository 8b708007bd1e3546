use Rattle.std.proofs.Common.{arith, sym, ◌∙◌}
use Rattle.gh_tree.specs.Depth.{arg_type_depth, arrow_depth, type_part_depth}
use Rattle.gh_tree.proofs.Capped.{push_deepest}
use Rattle.gh_tree.proofs.DepthAt.{arrow_at, type_part_at}
use Rattle.gh_tree.proofs.depth.+types.Goals as goal

pub arrows_depth-loop-part-preserved : goal.arrows_depth-loop-part-preserved
arrows_depth-loop-part-preserved t c =
    push_deepest arrow_depth c.args.parts.now c.loop-part.part-index c.loop-part.most c.greater-most.result c.btype_depth.result c.part-item.result
    (omega arith) c.part-item.is (c.btype_depth.ensures ∙ sym (arrow_at c.part-item.result)) c.loop-part.invariant c.greater-most.ensures

pub arg_types_depth-loop-part-preserved : goal.arg_types_depth-loop-part-preserved
arg_types_depth-loop-part-preserved t c =
    push_deepest arg_type_depth c.args.parts.now c.loop-part.part-index c.loop-part.most c.greater-most.result c.arg_type_depth.result c.part-item.result
    (omega arith) c.part-item.is c.arg_type_depth.ensures c.loop-part.invariant c.greater-most.ensures

pub type_parts_depth-loop-part-preserved : goal.type_parts_depth-loop-part-preserved
type_parts_depth-loop-part-preserved t c =
    push_deepest type_part_depth c.args.parts.now c.loop-part.part-index c.loop-part.most c.greater-most.result c.type_depth.result c.part-item.result
    (omega arith) c.part-item.is (c.type_depth.ensures ∙ sym (type_part_at c.part-item.result)) c.loop-part.invariant c.greater-most.ensures
