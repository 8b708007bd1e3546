use Rattle.std.proofs.Common.{arith, ℕ}
use Rattle.gh_tree.specs.Depth.{constr_depth}
use Rattle.gh_tree.specs.declared.tops.NextConstr.{NextConstr}
use Rattle.gh_tree.proofs.Capped.{push_deepest}
use Rattle.gh_tree.proofs.depth_tops.next_constrs_depth.Goals as goal

pub loop-part-preserved : goal.loop-part-preserved
loop-part-preserved c =
    let f : NextConstr → ℕ = λ x. constr_depth x.constr in
    push_deepest f c.args.parts.now c.loop-part.part-index c.loop-part.most c.greater-most.result c.constr_depth.result c.part-item.result
    (omega arith) c.part-item.is c.constr_depth.ensures c.loop-part.invariant c.greater-most.ensures
