use Rattle.std.proofs.Common.{ap, get_or, length, sym, subst, ◌∙◌, arith}
use Rattle.gh_core_lint.proofs.Fitting.{con_one, cons_more, ConFits}
use Rattle.gh_core_lint.proofs.Nodes.{never}
use Rattle.gh_core_lint.proofs.fields.decl_fits.Goals as goal

pub returns-then-not-branch : goal.returns-then-not-branch
returns-then-not-branch c =
    let decls = c.args.known.now.decls.now in
    let d = c.args.decl.now in
    let con = c.con-item.result in
    never (λ w. let yes = c.in_ok-constructor_fits.ensures.1 (subst (ConFits decls d)
    (ap (λ l. get_or l c.loop-con.con-index con) (sym c.as_slice-con-items.ensures) ∙ sym c.con-item.is)
    (con_one decls d d.constructors c.loop-con.con-index con (let l = ap length c.as_slice-con-items.ensures in omega arith) w)) in
    let no = c.if-not-branch.true in absurd (cc))

pub loop-con-preserved : goal.loop-con-preserved
loop-con-preserved c =
    let d = c.args.decl.now in
    let con = c.con-item.result in
    cons_more c.args.known.now.decls.now d d.constructors c.loop-con.con-index con (let l = ap length c.as_slice-con-items.ensures in omega arith)
    (c.con-item.is ∙ ap (λ l. get_or l c.loop-con.con-index con) c.as_slice-con-items.ensures) c.loop-con.invariant
    (c.in_ok-constructor_fits.ensures.0 (let yes = c.if-not-branch.false in cc))
