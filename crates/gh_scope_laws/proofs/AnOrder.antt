-- What linking takes is an order.
use Rattle.std.proofs.Common.{◌≡◌, ℕ, suc, zero, ◌≤◌, List, [], ◌∷◌, ◌++◌, length, Option, Some, None, refl, sym, ap, subst, ◌∙◌, arith, append_assoc}
use Rattle.gh_scopes.specs.Order.{first_ready, with_ready, taken_from}
use Rattle.gh_scope_laws.specs.Orders.{IsFirst, Orders, IsOrder}
use Rattle.gh_scope_laws.proofs.Ready.{none_ready, first_found, not_taken}
use Rattle.gh_scope_laws.proofs.Untaken.{untaken, most, fewer}

record Ordered (g : List (List ℕ)) (k : ℕ) (before : List ℕ) : Type 0 where
  pub rest : List ℕ
  pub is : taken_from g k before ≡ before ++ rest
  pub orders : Orders g before rest

stays : (g : List (List ℕ)) (before : List ℕ) → first_ready before 0 g ≡ None → (k : ℕ) → taken_from g k before ≡ before
stays g before e zero = refl
stays g before e (suc k) = ap (λ o. taken_from g k (with_ready before o)) e ∙ stays g before e k

append_end : {A : Type 0} (xs : List A) → xs ++ [] ≡ xs
append_end [] = refl
append_end (x ∷ xs) = ap (λ l. x ∷ l) (append_end xs)

ended : (g : List (List ℕ)) (k : ℕ) (before : List ℕ) → first_ready before 0 g ≡ None → Ordered g k before
ended g k before e = record { rest = []; is = stays g before e k ∙ sym (append_end before); orders = none_ready before g e }

one_fewer : (g : List (List ℕ)) (before : List ℕ) (f : ℕ) → IsFirst g before f → untaken before (length g) ≡ suc (untaken (before ++ f ∷ []) (length g))
one_fewer g before f is = fewer before f (length g) is.below (not_taken g before f is)

further : (g : List (List ℕ)) (k : ℕ) (before : List ℕ) (f : ℕ) → first_ready before 0 g ≡ Some f → Ordered g k (before ++ f ∷ []) → Ordered g (suc k) before
further g k before f e ih = record {
  rest = f ∷ ih.rest;
  is = ap (λ o. taken_from g k (with_ready before o)) e ∙ ih.is ∙ append_assoc before (f ∷ []) ih.rest;
  orders = (first_found before g f e, ih.orders);
}

ordered : (g : List (List ℕ)) (k : ℕ) (before : List ℕ) → untaken before (length g) ≤ k → Ordered g k before
ordered g zero before few = by (first_ready before 0 g) refl
  where
    by : (o : Option ℕ) → first_ready before 0 g ≡ o → Ordered g zero before
    by None e = ended g zero before e
    by (Some f) e = absurd (let less = one_fewer g before f (first_found before g f e) in omega (arith, less, few))
ordered g (suc k) before few = by (first_ready before 0 g) refl (ordered g k)
  where
    by : (o : Option ℕ) → first_ready before 0 g ≡ o → ((b : List ℕ) → untaken b (length g) ≤ k → Ordered g k b) → Ordered g (suc k) before
    by None e ih = ended g (suc k) before e
    by (Some f) e ih =
        let less = one_fewer g before f (first_found before g f e) in
        further g k before f e (ih (before ++ f ∷ []) (omega (arith, less, few)))

pub is_order : IsOrder
is_order g =
    let o = ordered g (length g) [] (most [] (length g)) in
    subst (Orders g []) (sym o.is) o.orders
