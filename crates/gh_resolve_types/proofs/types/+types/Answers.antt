use Rattle.std.proofs.Common.{◌∷◌, ◌++◌, [], sym, ap, ◌∙◌, arith}
use Rattle.gh_resolve_names.specs.Misuses.{least}
use Rattle.gh_resolve_names.proofs.Loops.{more_trees, more_misuses}
use Rattle.gh_resolve_types.specs.Types.{arrow_out, arg_type_out, type_part_out}
use Rattle.gh_resolve_types.proofs.TypesAt.{arrow_at_tree, arrow_at_misuses, type_part_at_tree, type_part_at_misuses}
use Rattle.gh_resolve_types.proofs.types.+types.Goals as goal

pub arrows-loop-node-preserved : goal.arrows-loop-node-preserved
arrows-loop-node-preserved t c = record {
  value = more_trees (arrow_out c.args.context.now) (c.args.names.now, 0) c.args.nodes.now c.loop-node.node-index c.node-item.result _ c.loop-node.list c.add.new.list
      (omega arith) c.node-item.is c.loop-node.invariant.value (c.in_ok-add.ensures.ok ∙ ap (λ y. c.loop-node.list ++ y ∷ []) (c.in_ok-made.ensures.value ∙ sym (arrow_at_tree c.args.context.now c.args.names.now 0 c.node-item.result)));
  found = more_misuses (arrow_out c.args.context.now) (c.args.names.now, 0) c.args.nodes.now c.loop-node.node-index c.node-item.result _ c.loop-node.found c.btype.new.found
      (omega arith) c.node-item.is c.loop-node.invariant.found (c.in_ok-made.ensures.found ∙ ap (least c.loop-node.found) (sym (arrow_at_misuses c.args.context.now c.args.names.now 0 c.node-item.result)));
}

pub arg_types-loop-node-preserved : goal.arg_types-loop-node-preserved
arg_types-loop-node-preserved t c = record {
  value = more_trees (arg_type_out c.args.context.now) (c.args.names.now, 0) c.args.nodes.now c.loop-node.node-index c.node-item.result _ c.loop-node.list c.add.new.list
      (omega arith) c.node-item.is c.loop-node.invariant.value (c.in_ok-add.ensures.ok ∙ ap (λ y. c.loop-node.list ++ y ∷ []) c.in_ok-made.ensures.value);
  found = more_misuses (arg_type_out c.args.context.now) (c.args.names.now, 0) c.args.nodes.now c.loop-node.node-index c.node-item.result _ c.loop-node.found c.arg_type.new.found
      (omega arith) c.node-item.is c.loop-node.invariant.found c.in_ok-made.ensures.found;
}

pub parts-loop-node-preserved : goal.parts-loop-node-preserved
parts-loop-node-preserved t c = record {
  value = more_trees (type_part_out c.args.context.now) (c.args.names.now, 0) c.args.nodes.now c.loop-node.node-index c.node-item.result _ c.loop-node.list c.add.new.list
      (omega arith) c.node-item.is c.loop-node.invariant.value (c.in_ok-add.ensures.ok ∙ ap (λ y. c.loop-node.list ++ y ∷ []) (c.in_ok-made.ensures.value ∙ sym (type_part_at_tree c.args.context.now c.args.names.now 0 c.node-item.result)));
  found = more_misuses (type_part_out c.args.context.now) (c.args.names.now, 0) c.args.nodes.now c.loop-node.node-index c.node-item.result _ c.loop-node.found c.type_expr.new.found
      (omega arith) c.node-item.is c.loop-node.invariant.found (c.in_ok-made.ensures.found ∙ ap (least c.loop-node.found) (sym (type_part_at_misuses c.args.context.now c.args.names.now 0 c.node-item.result)));
}
