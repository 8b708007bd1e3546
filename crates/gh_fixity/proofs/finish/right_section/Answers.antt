use Rattle.std.proofs.Common.{refl, ap, ◌∙◌, Some}
use Rattle.gh_fixity.specs.Built.{op_nodes, no_operands, right_child}
use Rattle.gh_fixity.specs.Finish.{right_signs}
use Rattle.gh_fixity.proofs.Growing.{if_ok}
use Rattle.gh_fixity.proofs.Finishing.{from_settled, right_at}
use Rattle.gh_fixity.proofs.finish.right_section.Goals as goal

pub returns-in_ok-tree-in-List-clause-value : goal.returns-in_ok-tree-in-List-clause-value
returns-in_ok-tree-in-List-clause-value c =
    if_ok c.operands_from.result
    (λ node h. from_settled op_nodes no_operands right_child c.args.tops.now c.args.state.now.locals c.in-List.parts c.as_slice-in-List.result.now (right_signs c.args.op c.in-List.parts)
    (Some 1) (Some 1) c.in_ok-tree-in-List.tree c.right_child.result node
    (c.as_slice-in-List.ensures ∙ c.in_ok-list-in-List.ensures ∙ ap (right_signs c.args.op) c.as_slice.ensures) refl c.in_ok-tree-in-List.ensures.tree c.right_child.ensures h
    ∙ right_at c.args.tops.now c.args.state.now.locals c.args.walked c.in-List.parts c.args.op c.in-List.is)
    c.operands_from.ensures
