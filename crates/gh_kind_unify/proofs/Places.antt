-- Places in lists.
use Rattle.std.proofs.Common.{◌≡◌, ◌≢◌, ℕ, zero, suc, ◌<◌, ◌⊎◌, true, false, eqb, List, [], ◌∷◌, ◌++◌, length, set, map, inl, inr, Option, Some, None, MatchOption, slice_get, refl, sym, ap, ◌∙◌, subst, arith}
use Rattle.std.proofs.lemmas.Bool.Decides.{eqb_tells}
use Rattle.gh_groups.specs.Grouping.{Has, AreBelow}
use Rattle.gh_kind_unify.specs.Orders.{singles}

get_left : {A : Type 0} (xs ys : List A) (i : ℕ) (x : A) → slice_get xs i ≡ Some x → slice_get (xs ++ ys) i ≡ Some x
get_left [] ys i x e = absurd (cc)
get_left (a ∷ xs) ys zero x e = e
get_left (a ∷ xs) ys (suc i) x e = get_left xs ys i x e

get_last : {A : Type 0} (xs : List A) (x : A) → slice_get (xs ++ x ∷ []) (length xs) ≡ Some x
get_last [] x = refl
get_last (a ∷ xs) x = get_last xs x

pub has_left : {A : Type 0} (xs ys : List A) (x : A) → Has xs x → Has (xs ++ ys) x
has_left xs ys x h = record { at = h.at; is = get_left xs ys h.at x h.is }

pub has_last : {A : Type 0} (xs : List A) (x : A) → Has (xs ++ x ∷ []) x
has_last xs x = record { at = length xs; is = get_last xs x }

get_some : {A : Type 0} (a x : A) → Some a ≡ Some x → a ≡ x
get_some a x e = cc

pub has_first : {A : Type 0} (x : A) (xs : List A) → Has (x ∷ xs) x
has_first x xs = record { at = 0; is = refl }

pub has_later : {A : Type 0} (y x : A) (xs : List A) → Has xs x → Has (y ∷ xs) x
has_later y x xs h = record { at = suc h.at; is = h.is }

of_place : {A : Type 0} (xs : List A) (y x : A) (i : ℕ) → slice_get (xs ++ y ∷ []) i ≡ Some x → Has xs x ⊎ (x ≡ y)
of_place [] y x zero e = inr (sym (get_some y x e))
of_place [] y x (suc i) e = absurd (cc)
of_place (a ∷ xs) y x zero e = inl (record { at = 0; is = e })
of_place (a ∷ xs) y x (suc i) e = later (of_place xs y x i e)
  where
    later : Has xs x ⊎ (x ≡ y) → Has (a ∷ xs) x ⊎ (x ≡ y)
    later (inl h) = inl (has_later a x xs h)
    later (inr p) = inr p

-- what a list with one more has
pub has_of : {A : Type 0} (xs : List A) (y x : A) → Has (xs ++ y ∷ []) x → Has xs x ⊎ (x ≡ y)
has_of xs y x h = of_place xs y x h.at h.is

pub has_none : {A : Type 0} (x : A) → Has [] x → ⊥
has_none x h = absurd (let e = h.is in cc)

pub has_only : (v w : ℕ) → Has (v ∷ []) w → w ≡ v
has_only v w h = by_either (has_of [] v w h)
  where
    by_either : Has [] w ⊎ (w ≡ v) → w ≡ v
    by_either (inl n) = absurd (has_none w n)
    by_either (inr e) = e

pub below_more : (count : ℕ) (xs : List (ℕ × ℕ)) (x : ℕ × ℕ) → AreBelow count xs → x.0 < count → x.1 < count → AreBelow count (xs ++ x ∷ [])
below_more count [] x b l r = (l, r, tt)
below_more count (y ∷ xs) x b l r = (b.0, b.1, below_more count xs x b.2 l r)

-- lists of one member each
pub single_at : (order : List ℕ) (p : ℕ) (v : ℕ) → slice_get order p ≡ Some v → slice_get (singles order) p ≡ Some (v ∷ [])
single_at [] p v e = absurd (cc)
single_at (x ∷ order) zero v e = ap (λ z. Some (z ∷ [])) (get_some x v e)
single_at (x ∷ order) (suc p) v e = single_at order p v e

pub single_of : (order : List ℕ) (p w : ℕ) (g : List ℕ) → slice_get (singles order) p ≡ Some g → Has g w → slice_get order p ≡ Some w
single_of [] p w g e h = absurd (cc)
single_of (x ∷ order) zero w g e h = ap Some (sym (has_only x w (subst (λ z. Has z w) (sym (get_some (x ∷ []) g e)) h)))
single_of (x ∷ order) (suc p) w g e h = single_of order p w g e h

pub singles_more : (order : List ℕ) (v : ℕ) → singles (order ++ v ∷ []) ≡ singles order ++ (v ∷ []) ∷ []
singles_more [] v = refl
singles_more (x ∷ order) v = ap (λ z. (x ∷ []) ∷ z) (singles_more order v)

pub get_set_same : {A : Type 0} (xs : List A) (i : ℕ) (x : A) → i < length xs → slice_get (set xs i x) i ≡ Some x
get_set_same [] i x l = absurd (omega (arith, l))
get_set_same (a ∷ xs) zero x l = refl
get_set_same (a ∷ xs) (suc i) x l = get_set_same xs i x (omega (arith, l))

pub get_set_other : {A : Type 0} (xs : List A) (i j : ℕ) (x : A) → j ≢ i → slice_get (set xs i x) j ≡ slice_get xs j
get_set_other [] i j x n = refl
get_set_other (a ∷ xs) zero zero x n = absurd (n refl)
get_set_other (a ∷ xs) zero (suc j) x n = refl
get_set_other (a ∷ xs) (suc i) zero x n = refl
get_set_other (a ∷ xs) (suc i) (suc j) x n = get_set_other xs i j x (λ e. n (ap suc e))

pub below_or : (u v : ℕ) → u < suc v → (u < v) ⊎ (u ≡ v)
below_or u v l = by_test (eqb_tells u v)
  where
    by_test : ((eqb u v ≡ true) × (u ≡ v)) ⊎ ((eqb u v ≡ false) × (u ≢ v)) → (u < v) ⊎ (u ≡ v)
    by_test (inl p) = inr p.1
    by_test (inr p) = let n = p.1 in inl (omega (arith, l, n))

-- what is said of an answer that is none, or some
pub none_found : {A : Type 0} (o : Option A) (P : Type 0) (Q : A → Type 0) → o ≡ None → MatchOption o P Q → P
none_found None P Q e m = m
none_found (Some a) P Q e m = absurd (cc)

pub some_found : {A : Type 0} (o : Option A) (a : A) (P : Type 0) (Q : A → Type 0) → o ≡ Some a → MatchOption o P Q → Q a
some_found o a P Q e m = subst (λ z. MatchOption z P Q) e m
