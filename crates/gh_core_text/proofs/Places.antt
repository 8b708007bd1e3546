-- The nearest binder of a number, and lists of binders.
use Rattle.std.proofs.Common.{◌≡◌, ℕ, suc, ◌+◌, ◌==◌, List, [], ◌∷◌, ◌++◌, length, refl, sym, ap, ◌∙◌, Option, Some, None, ◌<◌, get_or, drop, arith, add-one, append_assoc}
use Rattle.std.specs.Prelude.{if◌then◌else◌, take, true, false}
use Rattle.std.proofs.Math.Seq.{take-append_seam, drop-cons}
use Rattle.std.proofs.lemmas.Bool.{eq-eqb, false_from_ne_true, eqb-true}
use Rattle.std.proofs.lemmas.List.{take_more, length-append}
use Rattle.gh_core.specs.Levels.{Scope, backwards, or_here, bound_at}

pub bound_append : (xs : Scope) (b : ℕ × ℕ) (x : ℕ) → bound_at (xs ++ b ∷ []) x ≡ (if b.0 == x then Some b.1 else bound_at xs x)
bound_append [] b x = elim (b.0 == x) as (λ t. or_here None (if t then Some b.1 else None) ≡ (if t then Some b.1 else None)) [ true ↦ refl | false ↦ refl ]
bound_append (y ∷ xs) b x = ap (λ p. or_here p (if y.0 == x then Some y.1 else None)) (bound_append xs b x)
    ∙ (elim (b.0 == x) as (λ t. or_here (if t then Some b.1 else bound_at xs x) (if y.0 == x then Some y.1 else None) ≡ (if t then Some b.1 else or_here (bound_at xs x) (if y.0 == x then Some y.1 else None))) [ true ↦ refl | false ↦ refl ])

-- the binders before those that were added
pub take_back : (xs ys : Scope) (n : ℕ) → n ≡ length xs → take n (xs ++ ys) ≡ xs
take_back xs ys n e = ap (λ k. take k (xs ++ ys)) e ∙ take-append_seam xs ys

one_more : (xs : Scope) (i x : ℕ) (d : ℕ × ℕ) → i < length xs → bound_at (take (i + 1) xs) x ≡ (if (get_or xs i d).0 == x then Some (get_or xs i d).1 else bound_at (take i xs) x)
one_more xs i x d lt = ap (λ ys. bound_at ys x) (take_more xs i d lt) ∙ bound_append (take i xs) (get_or xs i d) x

pub last_hit : (xs : Scope) (i x : ℕ) (d : ℕ × ℕ) (new : Option ℕ) → i < length xs → (get_or xs i d).0 ≡ x → new ≡ Some (get_or xs i d).1 → new ≡ bound_at (take (i + 1) xs) x
last_hit xs i x d new lt hit is =
    is ∙ sym (one_more xs i x d lt ∙ ap (λ t. if t then Some (get_or xs i d).1 else bound_at (take i xs) x) (eq-eqb (get_or xs i d).0 x hit))

pub last_miss : (xs : Scope) (i x : ℕ) (d : ℕ × ℕ) (old new : Option ℕ) → i < length xs → ((get_or xs i d).0 ≡ x → ⊥) → old ≡ bound_at (take i xs) x → new ≡ old → new ≡ bound_at (take (i + 1) xs) x
last_miss xs i x d old new lt miss before is =
    is ∙ before ∙ sym (one_more xs i x d lt ∙ ap (λ t. if t then Some (get_or xs i d).1 else bound_at (take i xs) x) (false_from_ne_true ((get_or xs i d).0 == x) (λ yes. miss (eqb-true (get_or xs i d).0 x yes))))

-- the items from a place on, and the first of them
pub drop_item : {X : Type 0} (xs : List X) (i : ℕ) (x : X) → i < length xs → x ≡ get_or xs i x → drop i xs ≡ x ∷ drop (i + 1) xs
drop_item xs i x lt is = drop-cons xs i x lt ∙ ap (λ y. y ∷ drop (suc i) xs) (sym is) ∙ ap (λ k. x ∷ drop k xs) (sym (add-one i))

-- binders of a list, one more from its end
pub one_back : (old now next : Scope) (level i x : ℕ) (xs : List ℕ) → xs ≡ x ∷ drop 1 xs → now ≡ old ++ backwards (suc level) (drop 1 xs) → next ≡ now ++ (x, level) ∷ [] → next ≡ old ++ backwards level xs
one_back old now next level i x xs is e f =
    f ∙ ap (λ o. o ++ (x, level) ∷ []) e ∙ append_assoc old (backwards (suc level) (drop 1 xs)) ((x, level) ∷ []) ∙ ap (λ ys. old ++ backwards level ys) (sym is)

pub length_backwards : (level : ℕ) (xs : List ℕ) → length (backwards level xs) ≡ length xs
length_backwards level [] = refl
length_backwards level (x ∷ xs) =
    let e = length-append (backwards (suc level) xs) ((x, level) ∷ []) in let h = length_backwards (suc level) xs in omega arith
