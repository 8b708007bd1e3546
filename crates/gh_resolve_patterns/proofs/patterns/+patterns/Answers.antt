use Rattle.std.proofs.Common.{◌∷◌, ◌++◌, [], sym, ap, ◌∙◌, arith}
use Rattle.gh_resolve_names.specs.Misuses.{least}
use Rattle.gh_resolve_names.proofs.Loops.{more_trees, more_misuses}
use Rattle.gh_resolve_patterns.specs.Patterns.{next_pattern_out, arg_pattern_out, pat_part_out}
use Rattle.gh_resolve_patterns.proofs.PatternsAt.{pat_part_at_tree, pat_part_at_misuses}
use Rattle.gh_resolve_patterns.proofs.patterns.+patterns.Goals as goal

pub next_patterns-loop-node-preserved : goal.next_patterns-loop-node-preserved
next_patterns-loop-node-preserved t c = record {
  value = more_trees (next_pattern_out c.args.context.now) c.args.locals.now c.args.nodes.now c.loop-node.node-index c.node-item.result _ c.loop-node.list c.add.new.list
      (omega arith) c.node-item.is c.loop-node.invariant.value (c.in_ok-add.ensures.ok ∙ ap (λ y. c.loop-node.list ++ y ∷ []) c.in_ok-made.ensures.value);
  found = more_misuses (next_pattern_out c.args.context.now) c.args.locals.now c.args.nodes.now c.loop-node.node-index c.node-item.result _ c.loop-node.found c.next_pattern.new.found
      (omega arith) c.node-item.is c.loop-node.invariant.found c.in_ok-made.ensures.found;
}

pub arg_patterns-loop-node-preserved : goal.arg_patterns-loop-node-preserved
arg_patterns-loop-node-preserved t c = record {
  value = more_trees (arg_pattern_out c.args.context.now) c.args.locals.now c.args.nodes.now c.loop-node.node-index c.node-item.result _ c.loop-node.list c.add.new.list
      (omega arith) c.node-item.is c.loop-node.invariant.value (c.in_ok-add.ensures.ok ∙ ap (λ y. c.loop-node.list ++ y ∷ []) c.in_ok-made.ensures.value);
  found = more_misuses (arg_pattern_out c.args.context.now) c.args.locals.now c.args.nodes.now c.loop-node.node-index c.node-item.result _ c.loop-node.found c.arg_pattern.new.found
      (omega arith) c.node-item.is c.loop-node.invariant.found c.in_ok-made.ensures.found;
}

pub parts-loop-node-preserved : goal.parts-loop-node-preserved
parts-loop-node-preserved t c = record {
  value = more_trees (pat_part_out c.args.context.now) c.args.locals.now c.args.nodes.now c.loop-node.node-index c.node-item.result _ c.loop-node.list c.add.new.list
      (omega arith) c.node-item.is c.loop-node.invariant.value (c.in_ok-add.ensures.ok ∙ ap (λ y. c.loop-node.list ++ y ∷ []) (c.in_ok-made.ensures.value ∙ sym (pat_part_at_tree c.args.context.now c.args.locals.now c.node-item.result)));
  found = more_misuses (pat_part_out c.args.context.now) c.args.locals.now c.args.nodes.now c.loop-node.node-index c.node-item.result _ c.loop-node.found c.pattern.new.found
      (omega arith) c.node-item.is c.loop-node.invariant.found (c.in_ok-made.ensures.found ∙ ap (least c.loop-node.found) (sym (pat_part_at_misuses c.args.context.now c.args.locals.now c.node-item.result)));
}
