-- What the loops of the check have shown.
use Rattle.std.proofs.Common.{◌≡◌, ℕ, suc, ◌+◌, ◌<◌, ◌≤◌, ◌⊎◌, inl, inr, List, [], ◌∷◌, length, Some, slice_get, get_or, refl, ap, subst, ◌∙◌, arith}
use Rattle.std.proofs.lemmas.Bool.{cases_lt}
use Rattle.std.proofs.lemmas.Option.{get_or_from_slice_get, slice_get_within}
use Rattle.gh_groups.specs.Grouping.{Ascends}

pub ascends_from : (xs : List ℕ) → ((k : ℕ) → suc k < length xs → get_or xs k 0 < get_or xs (suc k) 0) → Ascends xs
ascends_from [] f = tt
ascends_from (x ∷ []) f = tt
ascends_from (x ∷ (y ∷ ys)) f = (f 0 (omega arith), ascends_from (y ∷ ys) (λ k l. f (suc k) (omega arith)))

-- what holds of each item before a place, and of the item there
pub items_more : {A : Type 0} (P : ℕ → A → Type 0) (xs : List A) (i : ℕ) (d : A) → P i (get_or xs i d) → ((k : ℕ) (v : A) → k < i → slice_get xs k ≡ Some v → P k v)
    → (k : ℕ) (v : A) → k < i + 1 → slice_get xs k ≡ Some v → P k v
items_more {A} P xs i d here before k v l e = by (cases_lt k i)
  where
    by : (k < i) ⊎ (i ≤ k) → P k v
    by (inl c) = before k v c e
    by (inr c) =
        let n : i ≡ k = omega arith in
        let same : get_or xs i d ≡ v = get_or_from_slice_get xs i v d (ap (λ m. slice_get xs m) n ∙ e) in
        subst (λ m. P m v) n (subst (P i) same here)

pub items_all : {A : Type 0} (P : ℕ → A → Type 0) (xs : List A) (i : ℕ) → length xs ≤ i → ((k : ℕ) (v : A) → k < i → slice_get xs k ≡ Some v → P k v)
    → (k : ℕ) (v : A) → slice_get xs k ≡ Some v → P k v
items_all P xs i l f k v e =
    let w = slice_get_within xs k v e in
    f k v (omega (arith, w)) e

pub first_item : (xs : List ℕ) → 0 < length xs → (v : ℕ) × (slice_get xs 0 ≡ Some v)
first_item [] l = absurd (omega arith)
first_item (x ∷ xs) l = (x, refl)
