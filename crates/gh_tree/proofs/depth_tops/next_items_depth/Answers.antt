use Rattle.std.proofs.Common.{arith, ℕ}
use Rattle.gh_tree.specs.Depth.{item_depth}
use Rattle.gh_tree.specs.declared.module_tree.NextItem.{NextItem}
use Rattle.gh_tree.proofs.Capped.{push_deepest}
use Rattle.gh_tree.proofs.depth_tops.next_items_depth.Goals as goal

pub loop-part-preserved : goal.loop-part-preserved
loop-part-preserved c =
    let f : NextItem → ℕ = λ x. item_depth x.item in
    push_deepest f c.args.parts.now c.loop-part.part-index c.loop-part.most c.greater-most.result c.item_depth.result c.part-item.result
    (omega arith) c.part-item.is c.item_depth.ensures c.loop-part.invariant c.greater-most.ensures
