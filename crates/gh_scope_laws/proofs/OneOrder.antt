-- There is one order.
use Rattle.std.proofs.Common.{◌≡◌, ◌⊎◌, inl, inr, ℕ, ◌<◌, List, [], ◌∷◌, ◌++◌, refl, sym, ap, subst, ◌∙◌}
use Rattle.std.proofs.lemmas.Bool.{cases_order, false≢true}
use Rattle.gh_scope_laws.specs.Orders.{IsFirst, Orders, OneOrder}

same_first : (g : List (List ℕ)) (before : List ℕ) (a b : ℕ) → IsFirst g before a → IsFirst g before b → a ≡ b
same_first g before a b x y = by (cases_order a b)
  where
    by : (a ≡ b) ⊎ ((a < b) ⊎ (b < a)) → a ≡ b
    by (inl e) = e
    by (inr (inl l)) = absurd (false≢true (sym (y.first a l) ∙ x.is_ready))
    by (inr (inr l)) = absurd (false≢true (sym (x.first b l) ∙ y.is_ready))

same_rest : (g : List (List ℕ)) (before a b : List ℕ) → Orders g before a → Orders g before b → a ≡ b
same_rest g before [] [] x y = refl
same_rest g before [] (f ∷ b) x y = absurd (false≢true (sym (x f y.0.below) ∙ y.0.is_ready))
same_rest g before (f ∷ a) [] x y = absurd (false≢true (sym (y f x.0.below) ∙ x.0.is_ready))
same_rest g before (f ∷ a) (h ∷ b) x y =
    let e = same_first g before f h x.0 y.0 in
    ap (λ l. f ∷ l) (same_rest g (before ++ f ∷ []) a b x.1 (subst (λ k. Orders g (before ++ k ∷ []) b) (sym e) y.1)) ∙ ap (λ k. k ∷ b) e

pub one_order : OneOrder
one_order g a b x y = same_rest g [] a b x y
