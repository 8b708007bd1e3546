use Rattle.std.proofs.Common.{◌++◌, sym, ap, ◌∙◌, arith}
use Rattle.gh_resolve_names.proofs.Loops.{more_joined, stays}
use Rattle.gh_resolve_types.specs.TypeVariables.{arrow_vars_of, arg_vars_of, type_part_vars_of}
use Rattle.gh_resolve_types.proofs.VariablesAt.{arrow_vars_at, type_part_vars_at, arg_vars_con, arg_vars_unit, arg_vars_nolist, arg_vars_noarrow, arg_vars_notuple}
use Rattle.gh_resolve_types.proofs.variables.+variables.Goals as goal

pub add_arg_type-returns-in-Con : goal.add_arg_type-returns-in-Con
add_arg_type-returns-in-Con t c = stays _ _ (ap arg_vars_of c.in-Con.is ∙ arg_vars_con _)

pub add_arg_type-returns-in-Unit : goal.add_arg_type-returns-in-Unit
add_arg_type-returns-in-Unit t c = stays _ _ (ap arg_vars_of c.in-Unit.is ∙ arg_vars_unit _ _ _)

pub add_arg_type-returns-in-NoList : goal.add_arg_type-returns-in-NoList
add_arg_type-returns-in-NoList t c = stays _ _ (ap arg_vars_of c.in-NoList.is ∙ arg_vars_nolist _ _ _)

pub add_arg_type-returns-in-NoArrow : goal.add_arg_type-returns-in-NoArrow
add_arg_type-returns-in-NoArrow t c = stays _ _ (ap arg_vars_of c.in-NoArrow.is ∙ arg_vars_noarrow _ _ _ _)

pub add_arg_type-returns-in-NoTuple : goal.add_arg_type-returns-in-NoTuple
add_arg_type-returns-in-NoTuple t c = stays _ _ (ap arg_vars_of c.in-NoTuple.is ∙ arg_vars_notuple _ _ _ _)

pub add_arrows-loop-node-preserved : goal.add_arrows-loop-node-preserved
add_arrows-loop-node-preserved t c =
    more_joined arrow_vars_of c.args.nodes.now c.loop-node.node-index c.node-item.result _ c.loop-node.list c.add_btype.new.list
    (omega arith) c.node-item.is c.loop-node.invariant (c.in_ok-add_btype.ensures ∙ ap (λ y. c.loop-node.list ++ y) (sym (arrow_vars_at c.node-item.result)))

pub add_arg_types-loop-node-preserved : goal.add_arg_types-loop-node-preserved
add_arg_types-loop-node-preserved t c =
    more_joined arg_vars_of c.args.nodes.now c.loop-node.node-index c.node-item.result _ c.loop-node.list c.add_arg_type.new.list
    (omega arith) c.node-item.is c.loop-node.invariant c.in_ok-add_arg_type.ensures

pub add_parts-loop-node-preserved : goal.add_parts-loop-node-preserved
add_parts-loop-node-preserved t c =
    more_joined type_part_vars_of c.args.nodes.now c.loop-node.node-index c.node-item.result _ c.loop-node.list c.add_type.new.list
    (omega arith) c.node-item.is c.loop-node.invariant (c.in_ok-add_type.ensures ∙ ap (λ y. c.loop-node.list ++ y) (sym (type_part_vars_at c.node-item.result)))
