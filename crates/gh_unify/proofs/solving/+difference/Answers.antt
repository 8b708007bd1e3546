use Rattle.std.proofs.Common.{◌≡◌, sym, ap, ◌∙◌, subst, Option}
use Rattle.std.specs.Prelude.{MatchOption}
use Rattle.std.proofs.lemmas.Result.{IfOk-weaker}
use Rattle.gh_typeterm.specs.declared.ty.TyNode.{TyNode}
use Rattle.gh_unify.specs.Types.{mono}
use Rattle.gh_unify.specs.Steps.{Differs}
use Rattle.gh_unify.proofs.Reading.{mono-App}
use Rattle.gh_unify.proofs.Steps.{differs_left, found_right}
use Rattle.gh_unify.proofs.solving.+difference.Goals as goal

pub returns-in-Some : goal.returns-in-Some
returns-in-Some t c =
    let f = mono c.in-App-App.f in
    let x = mono c.in-App-App.x in
    let g = mono c.in-App-App.g in
    let y = mono c.in-App-App.y in
    differs_left (mono c.args.a.now) (mono c.args.b.now) f x g y (mono c.in-Some.found.0) (mono c.in-Some.found.1)
    (ap mono (sym c.get.ensures ∙ c.in-App-App.is-0) ∙ mono-App c.in-App-App.f c.in-App-App.x)
    (ap mono (sym c.get-2.ensures ∙ c.in-App-App.is-1) ∙ mono-App c.in-App-App.g c.in-App-App.y)
    (subst (λ (o : Option (TyNode × TyNode)). MatchOption o (f ≡ g) (λ p. Differs f g (mono p.0) (mono p.1))) c.in-Some.is c.in_ok-found.ensures)

pub returns-in-App-App : goal.returns-in-App-App
returns-in-App-App t c =
    let f = mono c.in-App-App.f in
    let x = mono c.in-App-App.x in
    let g = mono c.in-App-App.g in
    let y = mono c.in-App-App.y in
    let a = mono c.args.a.now in
    let b = mono c.args.b.now in
    IfOk-weaker c.difference-in-App-App.result
    (λ found. MatchOption found (x ≡ y) (λ p. Differs x y (mono p.0) (mono p.1)))
    (λ found. MatchOption found (a ≡ b) (λ p. Differs a b (mono p.0) (mono p.1)))
    (λ o. found_right a b f x g y o
    (ap mono (sym c.get.ensures ∙ c.in-App-App.is-0) ∙ mono-App c.in-App-App.f c.in-App-App.x)
    (ap mono (sym c.get-2.ensures ∙ c.in-App-App.is-1) ∙ mono-App c.in-App-App.g c.in-App-App.y)
    (subst (λ (o : Option (TyNode × TyNode)). MatchOption o (f ≡ g) (λ p. Differs f g (mono p.0) (mono p.1))) c.in_default-2.is c.in_ok-found.ensures))
    c.difference-in-App-App.ensures
