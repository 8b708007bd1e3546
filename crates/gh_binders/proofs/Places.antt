-- Binders by place and by number.
use Rattle.std.proofs.Common.{◌≡◌, ℕ, suc, ◌<◌, ◌==◌, Bool, true, false, cond, List, [], ◌∷◌, ◌++◌, length, map, get_or, reverse, refl, sym, ap, ◌∙◌, Option, Some, None, ⊎_elim, arith}
use Rattle.std.proofs.lemmas.Bool.{eq-eqb, eqb-true, eqb-false}
use Rattle.std.proofs.lemmas.Option.{slice_get_past, slice_get-get_or, slice_get_cases}
use Rattle.std.proofs.lemmas.List.{get_or_append_left, length-append, length-map, reverse-reverse, reverse-append, length-reverse}
use Rattle.std.proofs.Math.Seq.{get_or-append_seam}
use Rattle.std.specs.Prelude.{slice_get, ◌≤◌, option_map}
use Rattle.gh_binders.specs.Nearest.{Binds, Entry, place_in, item_at, item_of, bind_of, binds_of}

choice_low : {X : Type 0} (b : Bool) (n x i : ℕ) (bs : Binds X) → (n == x) ≡ b → cond b (Some (length bs)) (place_in bs x) ≡ Some i → (place_in bs x ≡ Some i → i < length bs) → i < suc (length bs)
choice_low true n x i bs t h k = let e : length bs ≡ i = cc in omega arith
choice_low false n x i bs t h k = let l = k h in omega arith

-- a place is below the number of binders
pub place_low : {X : Type 0} (bs : Binds X) (x i : ℕ) → place_in bs x ≡ Some i → i < length bs
place_low [] x i h = absurd (cc)
place_low (b ∷ bs) x i h = choice_low (b.0 == x) b.0 x i bs refl h (place_low bs x i)

not_equal : (i n : ℕ) → i < n → (i == n) ≡ false
not_equal i n lt = elim (i == n) as (λ t. (i == n) ≡ t → (i == n) ≡ false) [ true ↦ (λ h. let e = eqb-true i n h in absurd (omega arith)) | false ↦ (λ h. h) ] refl

choice_found : {X : Type 0} (b : Bool) (x i : ℕ) (y : X) (bs : Binds X) → cond b (Some (length bs)) (place_in bs x) ≡ Some i
    → (place_in bs x ≡ Some i → item_at bs i ≡ item_of bs x) → cond (i == length bs) (Some y) (item_at bs i) ≡ cond b (Some y) (item_of bs x)
choice_found true x i y bs h k = let e : i ≡ length bs = cc in ap (λ t. cond t (Some y) (item_at bs i)) (eq-eqb i (length bs) e)
choice_found false x i y bs h k = ap (λ t. cond t (Some y) (item_at bs i)) (not_equal i (length bs) (place_low bs x i h)) ∙ k h

-- what is known of a number is what is known at its place
pub found_at : {X : Type 0} (bs : Binds X) (x i : ℕ) → place_in bs x ≡ Some i → item_at bs i ≡ item_of bs x
found_at [] x i h = absurd (cc)
found_at (b ∷ bs) x i h = choice_found (b.0 == x) x i b.1 bs h (found_at bs x i)

choice_none : {X : Type 0} (b : Bool) (x : ℕ) (y : X) (bs : Binds X) → cond b (Some (length bs)) (place_in bs x) ≡ None
    → (place_in bs x ≡ None → item_of bs x ≡ None) → cond b (Some y) (item_of bs x) ≡ None
choice_none true x y bs h k = absurd (cc)
choice_none false x y bs h k = k h

pub found_none : {X : Type 0} (bs : Binds X) (x : ℕ) → place_in bs x ≡ None → item_of bs x ≡ None
found_none [] x h = refl
found_none (b ∷ bs) x h = choice_none (b.0 == x) x b.1 bs h (found_none bs x)

abbrev item_in : {X : Type 0} → Entry X → X
item_in e = e.1

-- one element more at the end
snoc_true : {X : Type 0} (xs : List X) (x : X) (p : ℕ) → (p == length xs) ≡ true → slice_get (xs ++ x ∷ []) p ≡ Some x
snoc_true xs x p t =
    let e = eqb-true p (length xs) t in
    let l = length-append xs (x ∷ []) in
    slice_get-get_or (xs ++ x ∷ []) p x (omega arith) ∙ ap (λ i. Some (get_or (xs ++ x ∷ []) i x)) e ∙ ap Some (get_or-append_seam xs x [] x)

snoc_false : {X : Type 0} (xs : List X) (x : X) (p : ℕ) → (p == length xs) ≡ false → slice_get (xs ++ x ∷ []) p ≡ slice_get xs p
snoc_false xs x p t =
    let l = length-append xs (x ∷ []) in
    ⊎_elim
    (λ h. slice_get-get_or (xs ++ x ∷ []) p x (let lt = h.1 in omega arith) ∙ ap Some (get_or_append_left xs (x ∷ []) x p h.1) ∙ sym (slice_get-get_or xs p x h.1))
    (λ h. slice_get_past (xs ++ x ∷ []) p (let le = h.0 in let n = eqb-false p (length xs) t in omega arith) ∙ sym h.1)
    (slice_get_cases xs p).1

snoc : {X : Type 0} (b : Bool) (xs : List X) (x : X) (p : ℕ) → (p == length xs) ≡ b → slice_get (xs ++ x ∷ []) p ≡ cond b (Some x) (slice_get xs p)
snoc true xs x p t = snoc_true xs x p t
snoc false xs x p t = snoc_false xs x p t

mapped_choice : {X : Type 0} (b : Bool) (r : Entry X) (o : Option (Entry X)) (q : Option X) → q ≡ option_map item_in o → cond b (Some r.1) q ≡ option_map item_in (cond b (Some r) o)
mapped_choice true r o q h = refl
mapped_choice false r o q h = h

at_reversed : {X : Type 0} (rs : List (Entry X)) (p : ℕ) → item_at (map bind_of rs) p ≡ option_map item_in (slice_get (reverse rs) p)
at_reversed [] p = refl
at_reversed (r ∷ rs) p =
    ap (λ n. cond (p == n) (Some r.1) (item_at (map bind_of rs) p)) (length-map rs bind_of ∙ sym (length-reverse rs))
    ∙ mapped_choice (p == length (reverse rs)) r (slice_get (reverse rs) p) (item_at (map bind_of rs) p) (at_reversed rs p)
    ∙ ap (option_map item_in) (sym (snoc (p == length (reverse rs)) (reverse rs) r p refl) ∙ ap (λ l. slice_get l p) (sym (reverse-append (r ∷ []) rs)))

abbrev entry_item : {X : Type 0} → List (Entry X) → ℕ → Option X
entry_item es p = option_map item_in (slice_get es p)

-- what is known at a place is in the entry there
entry_at : {X : Type 0} (es : List (Entry X)) (p : ℕ) → item_at (binds_of es) p ≡ entry_item es p
entry_at es p = at_reversed (reverse es) p ∙ ap (λ l. entry_item l p) (reverse-reverse es)

pub entry_read : {X : Type 0} (es : List (Entry X)) (p : ℕ) (e : Entry X) → p < length es → e ≡ get_or es p e → Some e.1 ≡ item_at (binds_of es) p
entry_read es p e lt is = sym (entry_at es p ∙ ap (option_map item_in) (slice_get-get_or es p e lt ∙ ap Some (sym is)))

pub entry_past : {X : Type 0} (es : List (Entry X)) (p : ℕ) → length es ≤ p → None ≡ item_at (binds_of es) p
entry_past es p le = sym (entry_at es p ∙ ap (option_map item_in) (slice_get_past es p le))
