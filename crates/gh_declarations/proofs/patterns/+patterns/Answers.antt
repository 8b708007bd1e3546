use Rattle.std.proofs.Common.{◌++◌, sym, ap, ◌∙◌, arith}
use Rattle.gh_declarations.specs.Patterns.{arg_pattern_variables, pat_operand_variables, next_pattern_variables, pat_part_variables}
use Rattle.gh_declarations.proofs.PatternsAt.{arg_pattern_wild, arg_pattern_con, arg_pattern_int, arg_pattern_char, arg_pattern_str, pat_operand_negative, next_pattern_at, pat_part_at}
use Rattle.gh_declarations.proofs.Steps.{stays, flat_more}
use Rattle.gh_declarations.proofs.patterns.+patterns.Goals as goal

pub add_arg_pattern-returns-in-Wild : goal.add_arg_pattern-returns-in-Wild
add_arg_pattern-returns-in-Wild t c = stays _ _ (ap arg_pattern_variables c.in-Wild.is ∙ arg_pattern_wild _)

pub add_arg_pattern-returns-in-Con : goal.add_arg_pattern-returns-in-Con
add_arg_pattern-returns-in-Con t c = stays _ _ (ap arg_pattern_variables c.in-Con.is ∙ arg_pattern_con _)

pub add_arg_pattern-returns-in-Int : goal.add_arg_pattern-returns-in-Int
add_arg_pattern-returns-in-Int t c = stays _ _ (ap arg_pattern_variables c.in-Int.is ∙ arg_pattern_int _ _)

pub add_arg_pattern-returns-in-Char : goal.add_arg_pattern-returns-in-Char
add_arg_pattern-returns-in-Char t c = stays _ _ (ap arg_pattern_variables c.in-Char.is ∙ arg_pattern_char _ _)

pub add_arg_pattern-returns-in-Str : goal.add_arg_pattern-returns-in-Str
add_arg_pattern-returns-in-Str t c = stays _ _ (ap arg_pattern_variables c.in-Str.is ∙ arg_pattern_str _ _)

pub add_operand-returns-in-Negative : goal.add_operand-returns-in-Negative
add_operand-returns-in-Negative t c = stays _ _ (ap pat_operand_variables c.in-Negative.is ∙ pat_operand_negative _ _ _ _)

pub add_next_patterns-loop-part-preserved : goal.add_next_patterns-loop-part-preserved
add_next_patterns-loop-part-preserved t c =
    flat_more next_pattern_variables c.args.parts.now c.loop-part.part-index c.part-item.result c.args.names.now c.loop-part.names c.add_operand.new.names
    (omega arith) c.part-item.is c.loop-part.invariant
    (c.in_ok-add_operand.ensures ∙ ap (λ l. c.loop-part.names ++ l) (sym (next_pattern_at c.part-item.result)))

pub add_parts-loop-part-preserved : goal.add_parts-loop-part-preserved
add_parts-loop-part-preserved t c =
    flat_more pat_part_variables c.args.parts.now c.loop-part.part-index c.part-item.result c.args.names.now c.loop-part.names c.add_pattern.new.names
    (omega arith) c.part-item.is c.loop-part.invariant
    (c.in_ok-add_pattern.ensures ∙ ap (λ l. c.loop-part.names ++ l) (sym (pat_part_at c.part-item.result)))
