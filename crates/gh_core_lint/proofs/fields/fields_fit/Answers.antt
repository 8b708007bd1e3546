use Rattle.std.proofs.Common.{ap, get_or, length, sym, subst, ◌∙◌, arith}
use Rattle.gh_core_lint.proofs.Fitting.{decl_one, decls_more, DeclFits}
use Rattle.gh_core_lint.proofs.Nodes.{never}
use Rattle.gh_core_lint.proofs.fields.fields_fit.Goals as goal

pub returns-then-not-branch : goal.returns-then-not-branch
returns-then-not-branch c =
    let decls = c.args.known.now.decls.now in
    let decl = c.decl-item.result in
    never (λ w. let yes = c.in_ok-decl_fits.ensures.1 (subst (DeclFits decls)
    (ap (λ l. get_or l c.loop-decl.decl-index decl) (sym c.decls-decl-items.ensures) ∙ sym c.decl-item.is)
    (decl_one decls decls c.loop-decl.decl-index decl (let l = ap length c.decls-decl-items.ensures in omega arith) w)) in
    let no = c.if-not-branch.true in absurd (cc))

pub loop-decl-preserved : goal.loop-decl-preserved
loop-decl-preserved c =
    let decls = c.args.known.now.decls.now in
    let decl = c.decl-item.result in
    decls_more decls decls c.loop-decl.decl-index decl (let l = ap length c.decls-decl-items.ensures in omega arith)
    (c.decl-item.is ∙ ap (λ l. get_or l c.loop-decl.decl-index decl) c.decls-decl-items.ensures) c.loop-decl.invariant
    (c.in_ok-decl_fits.ensures.0 (let yes = c.if-not-branch.false in cc))
