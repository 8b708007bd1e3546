use Rattle.std.proofs.Common.{arith, sym, ◌∙◌}
use Rattle.gh_tree.specs.Depth.{arg_pattern_depth, next_pattern_depth, pat_part_depth}
use Rattle.gh_tree.proofs.Capped.{push_deepest}
use Rattle.gh_tree.proofs.DepthAt.{next_pattern_at, pat_part_at}
use Rattle.gh_tree.proofs.depth.+patterns.Goals as goal

pub next_patterns_depth-loop-part-preserved : goal.next_patterns_depth-loop-part-preserved
next_patterns_depth-loop-part-preserved t c =
    push_deepest next_pattern_depth c.args.parts.now c.loop-part.part-index c.loop-part.most c.greater-most.result c.pat_operand_depth.result c.part-item.result
    (omega arith) c.part-item.is (c.pat_operand_depth.ensures ∙ sym (next_pattern_at c.part-item.result)) c.loop-part.invariant c.greater-most.ensures

pub arg_patterns_depth-loop-part-preserved : goal.arg_patterns_depth-loop-part-preserved
arg_patterns_depth-loop-part-preserved t c =
    push_deepest arg_pattern_depth c.args.parts.now c.loop-part.part-index c.loop-part.most c.greater-most.result c.arg_pattern_depth.result c.part-item.result
    (omega arith) c.part-item.is c.arg_pattern_depth.ensures c.loop-part.invariant c.greater-most.ensures

pub pat_parts_depth-loop-part-preserved : goal.pat_parts_depth-loop-part-preserved
pat_parts_depth-loop-part-preserved t c =
    push_deepest pat_part_depth c.args.parts.now c.loop-part.part-index c.loop-part.most c.greater-most.result c.pattern_depth.result c.part-item.result
    (omega arith) c.part-item.is (c.pattern_depth.ensures ∙ sym (pat_part_at c.part-item.result)) c.loop-part.invariant c.greater-most.ensures
