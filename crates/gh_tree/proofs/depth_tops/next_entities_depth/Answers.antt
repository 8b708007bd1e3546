use Rattle.std.proofs.Common.{arith, ℕ}
use Rattle.gh_tree.specs.Depth.{entity_depth}
use Rattle.gh_tree.specs.declared.tops.NextEntity.{NextEntity}
use Rattle.gh_tree.proofs.Capped.{push_deepest}
use Rattle.gh_tree.proofs.depth_tops.next_entities_depth.Goals as goal

pub loop-part-preserved : goal.loop-part-preserved
loop-part-preserved c =
    let f : NextEntity → ℕ = λ x. entity_depth x.entity in
    push_deepest f c.args.parts.now c.loop-part.part-index c.loop-part.most c.greater-most.result c.entity_depth.result c.part-item.result
    (omega arith) c.part-item.is c.entity_depth.ensures c.loop-part.invariant c.greater-most.ensures
