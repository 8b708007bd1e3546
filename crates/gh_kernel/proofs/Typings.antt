-- Worked typings.
use Rattle.std.proofs.Common.{◌≡◌, ℕ, true, false, List, [], ◌∷◌, Some, None, refl, sym, ap, ◌∙◌, arith}
use Rattle.gh_base.specs.declared.place.Span.{Span}
use Rattle.gh_core.specs.Terms.{char}
use Rattle.gh_typeterm.specs.declared.kind.Kind.{Kind}
use Rattle.gh_typeterm.specs.declared.kind.Kind.TheVariants.{Star}
use Rattle.gh_unify.specs.Types as ty
use Rattle.gh_unify.specs.Types.{Mono}
use Rattle.gh_kernel.specs.Nodes.{nodes}
use Rattle.gh_kernel.specs.Terms.{Expr, var, lit, lam, app, lets, group, no_group, bind, no_bind}
use Rattle.gh_kernel.specs.Types.{Given, TypeName, arrow, char_type, assigned, monomorphic, local, occurs_in}
use Rattle.gh_kernel.specs.Typing.{Typed, loose, IsTyped}

abbrev place : Span
place = record { file = 1; from = 0; to = 1 }

abbrev noted : Mono → List Mono → Typed
noted t at = record { span = place; ty = t; at = at; kinds = [] }

abbrev nothing_given : Given
nothing_given = record { heads = λ c. None; datatypes = []; functions = [] }

abbrev star : ℕ → Kind
star v = Star

abbrev a : Mono
a = ty.var 0

abbrev id_at : Mono → Mono
id_at t = arrow t t

-- let i = \x -> x in i i 'c': the member quantifies its one variable, and has two instances
abbrev identity_twice : Expr Typed
identity_twice = lets (noted char_type [])
    (group (bind (noted (id_at a) (a ∷ [])) 0 None (lam (noted (id_at a) []) 1 (var (noted a []) 1)) no_bind) no_group)
    (app (noted char_type []) (app (noted (id_at char_type) []) (var (noted (id_at (id_at char_type)) (id_at char_type ∷ [])) 0) (var (noted (id_at char_type) (char_type ∷ [])) 0))
    (lit (noted char_type []) (char 99)))

absurd_names : (k : ℕ) (t : TypeName) → None ≡ Some t → ⊥
absurd_names k t e = cc

pub identity_twice_typed : IsTyped loose nothing_given star 100 [] (λ k. None) identity_twice
identity_twice_typed =
    let good : Unit {0} × Unit {0} = (tt, tt) in (
      ((good, (a, good, (λ h. (good, (refl, refl))), (λ h. (good, refl))), (λ h. (good, refl)), tt), ((refl, ((λ k d h. refl), (λ k d h. λ j t e. absurd (absurd_names j t e))), tt), tt), tt),
      (((λ h. (good, ((tt, refl), refl))), (λ h. (good, ((tt, refl), refl))), (λ h. (good, refl))), (λ h. (good, refl)), (λ h. (good, refl))),
      (λ h. (good, refl)),
    )

-- its nodes: the variable and the function (2), the binding (3), two names and their application (6), the character and the
-- application to it (8), and the `let` (9)
pub identity_twice_nodes : nodes identity_twice ≡ 9
identity_twice_nodes = refl

-- what occurs in the type of a name bound outside is not quantified
pub outer_variable : occurs_in ((local 0, monomorphic (arrow a char_type)) ∷ []) 0 ≡ true
outer_variable = refl

pub quantified_variable : occurs_in ((local 0, record { vars = 0 ∷ []; kinds = Star ∷ []; ty = a }) ∷ []) 0 ≡ false
quantified_variable = refl

pub inst_nothing : (t : Mono) → ty.inst (assigned [] []) t ≡ t
inst_nothing (ty.con c) = refl
inst_nothing (ty.var v) = refl
inst_nothing (ty.app f u) = λ i. ty.app (inst_nothing f i) (inst_nothing u i)
inst_nothing (ty.name k) = refl

pub endless : (t u : Mono) → t ≡ arrow t u → ⊥
endless t u e = let n : ty.nodes t ≡ ty.nodes (arrow t u) = ap ty.nodes e in absurd (omega (arith, n))

-- no notes type \x -> x x
pub self_application : (m o p q : Typed) → IsTyped loose nothing_given star 4 [] (λ k. None) (lam m 0 (app o (var p 0) (var q 0))) → ⊥
self_application m o p q h =
    let first : p.ty ≡ h.0 = (h.2.0 (omega arith)).1.1 ∙ inst_nothing h.0 in
    let second : q.ty ≡ h.0 = (h.2.1 (omega arith)).1.1 ∙ inst_nothing h.0 in
    let both : p.ty ≡ arrow q.ty o.ty = (h.2.2 (omega arith)).1 in
    endless h.0 o.ty (sym first ∙ both ∙ ap (λ t. arrow t o.ty) second)

-- up to its third node it has a typing: only the application fails
pub self_application_before : IsTyped loose nothing_given star 2 [] (λ k. None) (lam (noted a []) 0 (app (noted a []) (var (noted a []) 0) (var (noted a []) 0)))
self_application_before =
    let good : Unit {0} × Unit {0} = (tt, tt) in
    (a, good, ((λ h. (good, (refl, refl))), (λ h. (good, (refl, refl))), (λ h. absurd (omega (arith, h)))), (λ h. absurd (omega (arith, h))))
