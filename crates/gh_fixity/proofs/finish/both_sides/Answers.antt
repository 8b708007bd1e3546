use Rattle.std.proofs.Common.{ap, ◌∙◌, Some}
use Rattle.std.specs.Prelude.{length}
use Rattle.gh_fixity.specs.Built.{pat_nodes, no_pattern, left_child, right_child}
use Rattle.gh_fixity.specs.Finish.{lhs_signs}
use Rattle.gh_fixity.proofs.Finishing.{from_settled}
use Rattle.gh_fixity.proofs.finish.both_sides.Goals as goal

pub returns-clause-left : goal.returns-clause-left
returns-clause-left c =
    from_settled pat_nodes no_pattern left_child c.args.tops.now c.args.state.now.locals c.args.parts c.as_slice-3.result.now (lhs_signs c.args.parts c.args.op c.args.others)
    (Some c.in_ok-place.place) (Some (length c.args.parts)) c.in_ok-tree.tree c.children-first.result.0 c.in_ok-left.left
    (c.as_slice-3.ensures ∙ c.in_ok-list.ensures ∙ (λ i. lhs_signs (c.as_slice.ensures i) c.args.op (c.as_slice-2.ensures i))) (ap Some c.in_ok-place.ensures)
    c.in_ok-tree.ensures.tree c.children-first.ensures.left c.in_ok-left.ensures

pub returns-clause-right : goal.returns-clause-right
returns-clause-right c =
    from_settled pat_nodes no_pattern right_child c.args.tops.now c.args.state.now.locals c.args.others c.as_slice-3.result.now (lhs_signs c.args.parts c.args.op c.args.others)
    (Some c.in_ok-place.place) (Some (length c.args.parts)) c.in_ok-tree.tree c.children-first.result.1 c.in_ok-right.right
    (c.as_slice-3.ensures ∙ c.in_ok-list.ensures ∙ (λ i. lhs_signs (c.as_slice.ensures i) c.args.op (c.as_slice-2.ensures i))) (ap Some c.in_ok-place.ensures)
    c.in_ok-tree.ensures.tree c.children-first.ensures.right c.in_ok-right.ensures
