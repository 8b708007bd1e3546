use Rattle.std.proofs.Common.{◌++◌, sym, ap, ◌∙◌, arith}
use Rattle.gh_resolve_names.proofs.Loops.{more_joined, stays}
use Rattle.gh_resolve_patterns.specs.Variables.{next_vars_of, arg_vars_of, operand_vars_of, part_vars_of}
use Rattle.gh_resolve_patterns.proofs.VariablesAt.{next_vars_at, part_vars_at, arg_vars_wild, arg_vars_con, arg_vars_int, arg_vars_char, arg_vars_str, operand_vars_negative}
use Rattle.gh_resolve_patterns.proofs.variables.+variables.Goals as goal

pub add_argument-returns-in-Wild : goal.add_argument-returns-in-Wild
add_argument-returns-in-Wild t c = stays _ _ (ap arg_vars_of c.in-Wild.is ∙ arg_vars_wild _)

pub add_argument-returns-in-Con : goal.add_argument-returns-in-Con
add_argument-returns-in-Con t c = stays _ _ (ap arg_vars_of c.in-Con.is ∙ arg_vars_con _)

pub add_argument-returns-in-Int : goal.add_argument-returns-in-Int
add_argument-returns-in-Int t c = stays _ _ (ap arg_vars_of c.in-Int.is ∙ arg_vars_int _ _)

pub add_argument-returns-in-Char : goal.add_argument-returns-in-Char
add_argument-returns-in-Char t c = stays _ _ (ap arg_vars_of c.in-Char.is ∙ arg_vars_char _ _)

pub add_argument-returns-in-Str : goal.add_argument-returns-in-Str
add_argument-returns-in-Str t c = stays _ _ (ap arg_vars_of c.in-Str.is ∙ arg_vars_str _ _)

pub add_operand-returns-in-Negative : goal.add_operand-returns-in-Negative
add_operand-returns-in-Negative t c = stays _ _ (ap operand_vars_of c.in-Negative.is ∙ operand_vars_negative _ _ _ _)

pub add_next_patterns-loop-node-preserved : goal.add_next_patterns-loop-node-preserved
add_next_patterns-loop-node-preserved t c =
    more_joined next_vars_of c.args.nodes.now c.loop-node.node-index c.node-item.result _ c.loop-node.list c.add_operand.new.list
    (omega arith) c.node-item.is c.loop-node.invariant (c.in_ok-add_operand.ensures ∙ ap (λ y. c.loop-node.list ++ y) (sym (next_vars_at c.node-item.result)))

pub add_arguments-loop-node-preserved : goal.add_arguments-loop-node-preserved
add_arguments-loop-node-preserved t c =
    more_joined arg_vars_of c.args.nodes.now c.loop-node.node-index c.node-item.result _ c.loop-node.list c.add_argument.new.list
    (omega arith) c.node-item.is c.loop-node.invariant c.in_ok-add_argument.ensures

pub add_parts-loop-node-preserved : goal.add_parts-loop-node-preserved
add_parts-loop-node-preserved t c =
    more_joined part_vars_of c.args.nodes.now c.loop-node.node-index c.node-item.result _ c.loop-node.list c.add_pattern.new.list
    (omega arith) c.node-item.is c.loop-node.invariant (c.in_ok-add_pattern.ensures ∙ ap (λ y. c.loop-node.list ++ y) (sym (part_vars_at c.node-item.result)))
