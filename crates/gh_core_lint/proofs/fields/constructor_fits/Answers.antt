use Rattle.std.proofs.Common.{[], List, ap, get_or, length, sym, subst, ◌∙◌, arith}
use Rattle.std.specs.Prelude.{reverse, ◌↔◌, IsTrue}
use Rattle.gh_typeterm.specs.declared.kind.Kind.{Kind}
use Rattle.gh_typeterm.specs.declared.kind.Kind.TheVariants as kind
use Rattle.gh_typeterm.specs.declared.ty.TyNode.{TyNode}
use Rattle.gh_core.specs.Typing.{field_type, HasKind}
use Rattle.gh_core_lint.proofs.Fitting.{field_one, fields_more}
use Rattle.gh_core_lint.proofs.Nodes.{never}
use Rattle.gh_core_lint.proofs.fields.constructor_fits.Goals as goal

pub returns-then-not-branch : goal.returns-then-not-branch
returns-then-not-branch c =
    let decls = c.args.known.now.decls.now in
    let params = c.args.decl.now.params in
    let ty = c.ty-item.result in
    let fits = subst (λ (ks : List Kind). IsTrue c.in_ok-field_fits.field-0 ↔ HasKind decls [] (reverse ks) (field_type (length ks) ty) kind.Star) c.as_slice.ensures c.in_ok-field_fits.ensures in
    never (λ w. let yes = fits.1 (subst (λ (t : TyNode). HasKind decls [] (reverse params) (field_type (length params) t) kind.Star)
    (ap (λ l. get_or l c.loop-ty.ty-index ty) (sym c.as_slice-ty-items.ensures) ∙ sym c.ty-item.is)
    (field_one decls (reverse params) (length params) c.args.con.now.fields c.loop-ty.ty-index ty (let l = ap length c.as_slice-ty-items.ensures in omega arith) w)) in
    let no = c.if-not-branch.true in absurd (cc))

pub loop-ty-preserved : goal.loop-ty-preserved
loop-ty-preserved c =
    let decls = c.args.known.now.decls.now in
    let params = c.args.decl.now.params in
    let ty = c.ty-item.result in
    let fits = subst (λ (ks : List Kind). IsTrue c.in_ok-field_fits.field-0 ↔ HasKind decls [] (reverse ks) (field_type (length ks) ty) kind.Star) c.as_slice.ensures c.in_ok-field_fits.ensures in
    fields_more decls (reverse params) (length params) c.args.con.now.fields c.loop-ty.ty-index ty (let l = ap length c.as_slice-ty-items.ensures in omega arith)
    (c.ty-item.is ∙ ap (λ l. get_or l c.loop-ty.ty-index ty) c.as_slice-ty-items.ensures) c.loop-ty.invariant (fits.0 (let yes = c.if-not-branch.false in cc))
