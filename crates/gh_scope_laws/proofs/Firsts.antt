-- The first that a list gives.
use Rattle.std.proofs.Common.{◌≡◌, ℕ, zero, suc, true, List, [], ◌∷◌, ◌++◌, Option, Some, None, is_some, slice_get, refl, sym, ap, ◌∙◌}
use Rattle.std.specs.Option.{option_or}
use Rattle.std.proofs.lemmas.Bool.{false≢true}
use Rattle.gh_scopes.specs.Graph.{first_some}
use Rattle.gh_scope_laws.proofs.Imported.{some_same}

pub none_both : {A : Type 0} (o p : Option A) → option_or o p ≡ None → (o ≡ None) × (p ≡ None)
none_both None p e = (refl, e)
none_both (Some x) p e = absurd (false≢true (sym (ap is_some e)))

pub none_from : {A : Type 0} (o : Option A) → (is_some o ≡ true → ⊥) → o ≡ None
none_from None h = refl
none_from (Some x) h = absurd (h refl)

or_end : {A : Type 0} (o : Option A) → option_or o None ≡ o
or_end None = refl
or_end (Some x) = refl

or_assoc : {A : Type 0} (o p q : Option A) → option_or (option_or o p) q ≡ option_or o (option_or p q)
or_assoc None p q = refl
or_assoc (Some x) p q = refl

pub first_push : {A B : Type 0} (h : A → Option B) (xs : List A) (x : A) → first_some h (xs ++ x ∷ []) ≡ option_or (first_some h xs) (h x)
first_push h [] x = or_end (h x)
first_push h (y ∷ xs) x = ap (option_or (h y)) (first_push h xs x) ∙ sym (or_assoc (h y) (first_some h xs) (h x))

-- where there is none, no item gives one
pub none_at : {A B : Type 0} (h : A → Option B) (xs : List A) → first_some h xs ≡ None → (f : ℕ) (x : A) → slice_get xs f ≡ Some x → h x ≡ None
none_at h [] e f x is = absurd (false≢true (ap is_some is))
none_at h (y ∷ xs) e zero x is = ap h (sym (some_same y x is)) ∙ (none_both (h y) (first_some h xs) e).0
none_at h (y ∷ xs) e (suc f) x is = none_at h xs (none_both (h y) (first_some h xs) e).1 f x is

pub none_first : {A B : Type 0} (h : A → Option B) (xs : List A) → ((f : ℕ) (x : A) → slice_get xs f ≡ Some x → h x ≡ None) → first_some h xs ≡ None
none_first h [] all = refl
none_first h (x ∷ xs) all = (λ i. option_or (all 0 x refl i) (first_some h xs)) ∙ none_first h xs (λ f y is. all (suc f) y is)
