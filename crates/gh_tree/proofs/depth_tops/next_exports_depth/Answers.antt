use Rattle.std.proofs.Common.{arith, ℕ}
use Rattle.gh_tree.specs.Depth.{export_depth}
use Rattle.gh_tree.specs.declared.tops.NextExport.{NextExport}
use Rattle.gh_tree.proofs.Capped.{push_deepest}
use Rattle.gh_tree.proofs.depth_tops.next_exports_depth.Goals as goal

pub loop-part-preserved : goal.loop-part-preserved
loop-part-preserved c =
    let f : NextExport → ℕ = λ x. export_depth x.export in
    push_deepest f c.args.parts.now c.loop-part.part-index c.loop-part.most c.greater-most.result c.export_depth.result c.part-item.result
    (omega arith) c.part-item.is c.export_depth.ensures c.loop-part.invariant c.greater-most.ensures
