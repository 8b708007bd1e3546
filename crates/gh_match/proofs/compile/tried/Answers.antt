use Rattle.std.proofs.Common.{ap, ◌∙◌}
use Rattle.gh_core.specs.Typing.{a_lam, code_of, type_of}
use Rattle.gh_match.specs.Numbers.{first_made}
use Rattle.gh_match.proofs.Codes.{if_ok}
use Rattle.gh_match.proofs.Trees.{whole_tree}
use Rattle.gh_match.proofs.compile.tried.Goals as goal

pub returns : goal.returns
returns c =
    if_ok c.applied.result _ _
    (λ made e. whole_tree (type_of c.args.answer.now) (first_made c.args.rows.now (code_of c.args.otherwise)) c.in_ok-first.first c.in_ok-subject.subject c.in_ok-free.free c.args.rows.now c.args.scrutinees.now c.args.patterns.now
    (code_of c.args.otherwise) (code_of c.in_ok-last.last) (code_of c.in_ok-tree.tree) (code_of c.in_ok-bound.bound) (code_of c.in_ok-body.body) (code_of c.in_ok-call.call) (code_of made)
    (c.in_ok-first.ensures ∙ ap (λ o. first_made c.args.rows.now (code_of o)) c.get.ensures) c.in_ok-subject.ensures c.in_ok-free.ensures c.in_ok-tree.ensures c.in_ok-bound.ensures
    (c.in_ok-body.ensures ∙ ap (λ s. a_lam c.in_ok-first.first (type_of s) (code_of c.in_ok-bound.bound)) c.in_ok-ty.ensures) c.in_ok-last.ensures c.in_ok-call.ensures e)
    c.applied.ensures
