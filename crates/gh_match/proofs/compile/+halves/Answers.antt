use Rattle.std.proofs.Common.{◌++◌, ap, ◌∙◌}
use Rattle.std.proofs.lemmas.List.{take-append-drop}
use Rattle.gh_core.specs.Typing.{a_lam, an_app, code_of, type_of}
use Rattle.gh_match.proofs.Codes.{if_ok}
use Rattle.gh_match.proofs.Trees.{leaf_half, node_half}
use Rattle.gh_match.proofs.compile.+halves.Goals as goal

pub returns-then-rows-eq1 : goal.returns-then-rows-eq1
returns-then-rows-eq1 t c =
    if_ok c.row_term.result _ _
    (λ made e. leaf_half (type_of c.args.answer.now) c.args.subject c.args.free c.args.fail c.args.rows.now c.index-rows-0.result c.args.levels (code_of made) c.if-rows-eq1.true c.index-rows-0.is e)
    c.row_term.ensures

pub returns : goal.returns
returns t c =
    if_ok c.apply.result _ _
    (λ made e. node_half (type_of c.args.answer.now) c.args.subject c.args.free c.args.fail c.args.rows.now _ _ c.args.levels c.in_ok-below.below c.in_ok-after.after (code_of c.in_ok-first.first) (code_of c.in_ok-second.second) (code_of made)
    ((λ i. c.split_at.ensures.front i ++ c.split_at.ensures.back i) ∙ take-append-drop _ c.args.rows.now) c.in_ok-below.ensures c.in_ok-after.ensures c.in_ok-first.ensures c.in_ok-second.ensures
    (e ∙ ap (λ f. an_app f (code_of c.in_ok-second.second)) (c.in_ok-bound.ensures ∙ ap (λ s. a_lam c.args.free (type_of s) (code_of c.in_ok-first.first)) c.in_ok-ty.ensures)))
    c.apply.ensures
