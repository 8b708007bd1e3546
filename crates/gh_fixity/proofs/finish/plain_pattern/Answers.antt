use Rattle.std.proofs.Common.{refl, ap, ◌∙◌, None}
use Rattle.gh_fixity.specs.Built.{pat_nodes, no_pattern}
use Rattle.gh_fixity.specs.Finish.{signs}
use Rattle.gh_fixity.proofs.Growing.{if_ok}
use Rattle.gh_fixity.proofs.Finishing.{from_settled, pattern_at}
use Rattle.gh_fixity.proofs.finish.plain_pattern.Goals as goal

pub returns-in_ok-tree-in-List-clause-value : goal.returns-in_ok-tree-in-List-clause-value
returns-in_ok-tree-in-List-clause-value c =
    if_ok c.pattern_from.result
    (λ node h. from_settled pat_nodes no_pattern (λ t. t) c.args.tops.now c.args.state.now.locals c.in-List.parts c.as_slice-in-List.result.now (signs c.in-List.parts)
    None None c.in_ok-tree-in-List.tree c.in_ok-tree-in-List.tree node
    (c.as_slice-in-List.ensures ∙ c.in_ok-list-in-List.ensures ∙ ap signs c.as_slice.ensures) refl c.in_ok-tree-in-List.ensures.tree (λ items. refl) h
    ∙ pattern_at c.args.tops.now c.args.state.now.locals c.args.walked c.in-List.parts c.in-List.is)
    c.pattern_from.ensures
