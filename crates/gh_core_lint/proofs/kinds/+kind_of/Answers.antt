use Rattle.std.proofs.Common.{List, sym, ap, subst, ◌∙◌}
use Rattle.gh_typeterm.specs.declared.kind.Kind.{Kind}
use Rattle.gh_core_lint.specs.Kinds.{round, IsApplied, IsKind}
use Rattle.gh_core_lint.specs.Types.{type_at}
use Rattle.gh_core_lint.proofs.Kinding.{kind_applied, kind_forall, round_Inside}
use Rattle.gh_core_lint.proofs.Nodes.{at-App, at-Forall}
use Rattle.gh_core_lint.proofs.Results.{ok_more}
use Rattle.gh_core_lint.proofs.kinds.+kind_of.Goals as goal

pub returns-in_ok-argument-in-App : goal.returns-in_ok-argument-in-App
returns-in_ok-argument-in-App t c =
    let decls = c.args.known.now.decls.now in
    let ks = c.args.kinds.now in
    let bs = round c.args.inner.now in
    let f = c.in-App.f in
    let x = c.in-App.x in
    let m = c.in_ok-function-in-App.function in
    let n = c.in_ok-argument-in-App.argument in
    ok_more c.applied_kind.result (IsApplied m n) (IsKind decls ks bs (type_at c.args.ty.now))
    (λ o a. kind_applied decls ks bs (type_at f) (type_at x) (type_at c.args.ty.now) m n o (ap type_at (sym c.get.ensures ∙ c.in-App.is) ∙ at-App f x)
    c.in_ok-function-in-App.ensures c.in_ok-argument-in-App.ensures a)
    c.applied_kind.ensures

pub returns-in_ok-body-in-Forall : goal.returns-in_ok-body-in-Forall
returns-in_ok-body-in-Forall t c =
    let decls = c.args.known.now.decls.now in
    let ks = c.args.kinds.now in
    let b = type_at c.in-Forall.body in
    let n = c.in_ok-body-in-Forall.body in
    kind_forall decls ks (round c.args.inner.now) c.in-Forall.kind b (type_at c.args.ty.now) n c.star_only.result
    (ap type_at (sym c.get.ensures ∙ c.in-Forall.is) ∙ at-Forall c.in-Forall.kind c.in-Forall.body)
    (subst (λ (l : List Kind). IsKind decls ks l b n) (round_Inside _ _) c.in_ok-body-in-Forall.ensures) c.star_only.ensures
