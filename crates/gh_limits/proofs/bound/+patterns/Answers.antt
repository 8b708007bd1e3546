use Rattle.std.proofs.Common.{arith, sym, ap, ◌∙◌}
use Rattle.gh_limits.specs.Bound.{arg_pattern_names, next_pattern_names, pat_part_names}
use Rattle.gh_limits.specs.Seen.{keeps}
use Rattle.gh_limits.proofs.BoundAt.{next_pattern_at, pat_part_at}
use Rattle.gh_limits.proofs.Seen.{see_more}
use Rattle.gh_limits.proofs.bound.+patterns.Goals as goal

pub see_arg_patterns-loop-part-preserved : goal.see_arg_patterns-loop-part-preserved
see_arg_patterns-loop-part-preserved t c =
    see_more arg_pattern_names c.args.parts.now c.loop-part.part-index c.part-item.result c.args.seen.now.items c.loop-part.seen.items c.see_arg_pattern.new.seen.items (omega arith) c.part-item.is c.loop-part.invariant c.see_arg_pattern.ensures

pub see_next_patterns-loop-part-preserved : goal.see_next_patterns-loop-part-preserved
see_next_patterns-loop-part-preserved t c =
    see_more next_pattern_names c.args.parts.now c.loop-part.part-index c.part-item.result c.args.seen.now.items c.loop-part.seen.items c.see_operand.new.seen.items (omega arith) c.part-item.is c.loop-part.invariant (c.see_operand.ensures ∙ ap (keeps c.loop-part.seen.items) (sym (next_pattern_at _)))

pub see_parts-loop-part-preserved : goal.see_parts-loop-part-preserved
see_parts-loop-part-preserved t c =
    see_more pat_part_names c.args.parts.now c.loop-part.part-index c.part-item.result c.args.seen.now.items c.loop-part.seen.items c.see_pattern.new.seen.items (omega arith) c.part-item.is c.loop-part.invariant (c.see_pattern.ensures ∙ ap (keeps c.loop-part.seen.items) (sym (pat_part_at _)))
