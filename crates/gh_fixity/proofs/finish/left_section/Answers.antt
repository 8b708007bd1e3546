use Rattle.std.proofs.Common.{ap, ◌∙◌, Some}
use Rattle.std.specs.Prelude.{length}
use Rattle.gh_fixity.specs.Built.{op_nodes, no_operands, left_child}
use Rattle.gh_fixity.specs.Finish.{left_signs}
use Rattle.gh_fixity.proofs.Growing.{if_ok}
use Rattle.gh_fixity.proofs.Finishing.{from_settled, left_at}
use Rattle.gh_fixity.proofs.finish.left_section.Goals as goal

pub returns-in_ok-tree-in-List-clause-value : goal.returns-in_ok-tree-in-List-clause-value
returns-in_ok-tree-in-List-clause-value c =
    if_ok c.operands_from.result
    (λ node h. from_settled op_nodes no_operands left_child c.args.tops.now c.args.state.now.locals c.in-List.parts c.as_slice-in-List.result.now (left_signs c.in-List.parts c.args.op)
    (Some c.in_ok-place-in-List.place) (Some (length c.in-List.parts)) c.in_ok-tree-in-List.tree c.left_child.result node
    (c.as_slice-in-List.ensures ∙ c.in_ok-list-in-List.ensures ∙ ap (λ ps. left_signs ps c.args.op) c.as_slice.ensures) (ap Some c.in_ok-place-in-List.ensures) c.in_ok-tree-in-List.ensures.tree c.left_child.ensures h
    ∙ left_at c.args.tops.now c.args.state.now.locals c.args.walked c.in-List.parts c.args.op c.in-List.is)
    c.operands_from.ensures
