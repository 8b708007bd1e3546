use Rattle.std.proofs.Common.{◌∙◌, ap, ◌++◌, ◌∷◌, []}
use Rattle.gh_unify.proofs.Tables.{solved_made}
use Rattle.gh_unify.proofs.table.solved.Goals as goal

pub returns : goal.returns
returns c =
    solved_made c.args.kept.now c.loop-variable.made.items c.push.new.self c.args.number c.args.term.now c.in_ok-share.field-0 c.in_ok-term.term
    c.index-kept-at.result c.index-kept-at-2.result c.loop-variable.variable-index c.requires c.loop-variable-test.false c.loop-variable.invariant
    (c.in_ok-push.ensures.ok ∙ ap (λ xs. xs ++ (c.args.number, c.in_ok-share.field-0) ∷ []) c.new-by.ensures) c.in_ok-share.ensures c.in_ok-term.ensures
