-- Places in a list, and the marks there.
use Rattle.std.proofs.Common.{◌≡◌, ℕ, zero, suc, ◌-◌, ◌<◌, ◌≤◌, Bool, true, false, List, [], ◌∷◌, ◌++◌, length, take, Option, Some, None, if◌then◌else◌, refl, sym, ap, subst, ◌∙◌, slice_get, get_or, length-take-le, arith, ◌⊎◌, inl, inr}
use Rattle.std.proofs.lemmas.Option.{slice_get-get_or}
use Rattle.std.proofs.lemmas.Bool.{cases_lt}
use Rattle.std.proofs.lemmas.Bool.Decides.{nat_tests}
use Rattle.gh_fixity.specs.declared.item.Fixity.{Fixity}
use Rattle.gh_fixity.specs.declared.item.Item.{Item}
use Rattle.gh_fixity.specs.declared.item.Item.TheVariants as item
use Rattle.gh_fixity.specs.declared.item.Arranged.{fold-roll-Arranged}
use Rattle.gh_fixity.specs.declared.item.Arranged.TheOpen.{Arranged-F}
use Rattle.gh_fixity.specs.declared.item.Arranged.TheVariants as arranged
use Rattle.gh_fixity.specs.declared.item.Arranged.TheVariants.{rolls-Leaf}
use Rattle.gh_fixity.specs.Arrangement.{tree_in, tree_step, Tree, leaf, Mark, leaf_at, minus_sign, op_at, marks_from, mark_of, may_be_left, may_be_right, level_in, fixity_in, item_fixity, level_at, in_order}
use Rattle.gh_fixity.specs.Stack.{Open, after_minus, after, open_fixity, applied, reduced, settled, steps, start}
use Rattle.gh_fixity.proofs.Sound.{marks_of, open_marks, HasRead, steps_good}

pub level_read : (xs : List Item) (i : ℕ) (d : Item) (l : Option ℕ) → i < length xs → level_in (item_fixity (get_or xs i d)) ≡ l → level_at xs i ≡ l
level_read xs i d l h e = ap (λ o. level_in (fixity_in o)) (slice_get-get_or xs i d h) ∙ e

pub level_unread : (xs : List Item) (i : ℕ) (d : Item) (l : Option ℕ) → i < length xs → level_at xs i ≡ l → level_in (item_fixity (get_or xs i d)) ≡ l
level_unread xs i d l h e = sym (ap (λ o. level_in (fixity_in o)) (slice_get-get_or xs i d h)) ∙ e

-- what holds of no place from i on, nor of the place before
pub down_more : (P : ℕ → Type 0) (i n : ℕ) → 0 < i → (P (i - 1) → ⊥) → ((p : ℕ) → i ≤ p → p < n → P p → ⊥) → (p : ℕ) → i - 1 ≤ p → p < n → P p → ⊥
down_more P i n some here later p a b h = by (cases_lt p i)
  where
    by : (p < i) ⊎ (i ≤ p) → ⊥
    by (inl c) =
        let e : p ≡ i - 1 = omega arith in
        here (subst P e h)
    by (inr c) = later p c b h

abbrev mark_level : Mark → Option ℕ
mark_level (leaf_at p) = None
mark_level minus_sign = Some 6
mark_level (op_at p f) = Some f.level

-- one of the marks has the level
abbrev pub HasLevel : ℕ → List Mark → Type 0
HasLevel l [] = ⊥
HasLevel l (m ∷ ms) = (mark_level m ≡ Some l) ⊎ HasLevel l ms

has_left : (l : ℕ) (xs ys : List Mark) → HasLevel l xs → HasLevel l (xs ++ ys)
has_left l [] ys h = absurd h
has_left l (m ∷ xs) ys (inl e) = inl e
has_left l (m ∷ xs) ys (inr h) = inr (has_left l xs ys h)

has_right : (l : ℕ) (xs ys : List Mark) → HasLevel l ys → HasLevel l (xs ++ ys)
has_right l [] ys h = h
has_right l (m ∷ xs) ys h = inr (has_right l xs ys h)

item_level : (p : ℕ) (x : Item) → mark_level (mark_of p x) ≡ level_in (item_fixity x)
item_level p (item.Leaf n) = refl
item_level p (item.Minus s) = refl
item_level p (item.Op f s) = refl

pub record HasPlace (xs : List Item) (l : ℕ) : Type 0 where
  pub place : ℕ
  pub within : place < length xs
  pub is : level_at xs place ≡ Some l

has_place : (xs : List Item) (p l : ℕ) → HasLevel l (marks_from p xs) → HasPlace xs l
has_place [] p l h = absurd h
has_place (x ∷ xs) p l (inl e) = record { place = 0; within = omega arith; is = sym (item_level p x) ∙ e }
has_place (x ∷ xs) p l (inr h) =
    let r = has_place xs (suc p) l h in
    record { place = suc r.place; within = omega (arith, r.within); is = r.is }

equal_levels : (f g : Fixity) → may_be_left f g ≡ false → may_be_right g f ≡ false → f.level ≡ g.level
equal_levels f g h k = grind (arith, nat_tests)

open_level : (g : Open) (l : ℕ) → l ≡ (open_fixity g).level → HasLevel l (open_marks g)
open_level after_minus l e = inl (ap Some (sym e))
open_level (after p f t) l e = has_right l (in_order t) (op_at p f ∷ []) (inl (ap Some (sym e)))

-- where an operator clashes, something that is open has its level
stuck_level : (gs : List Open) (t : Tree) (f : Fixity) → reduced gs t f ≡ None → HasLevel f.level (marks_of gs)
stuck_level [] t f e = absurd (cc)
stuck_level (g ∷ gs) t f e = by (λ h. stuck_level gs (applied g t) f h) (may_be_left f (open_fixity g)) (may_be_right (open_fixity g) f) refl refl
  where
    by : (reduced gs (applied g t) f ≡ None → HasLevel f.level (marks_of gs)) → (a b : Bool) → may_be_left f (open_fixity g) ≡ a → may_be_right (open_fixity g) f ≡ b
        → HasLevel f.level (marks_of gs ++ open_marks g)
    by more true b l r = has_left f.level (marks_of gs) (open_marks g) (more (sym (ap (λ x. if x then reduced gs (applied g t) f else settled (g ∷ gs) t f) l) ∙ e))
    by more false true l r =
        let none : Some (g ∷ gs, t) ≡ None =
        sym (ap (λ x. if x then Some (g ∷ gs, t) else None) r) ∙ sym (ap (λ x. if x then reduced gs (applied g t) f else settled (g ∷ gs) t f) l) ∙ e in
        absurd (cc)
    by more false false l r = has_right f.level (marks_of gs) (open_marks g) (open_level g f.level (equal_levels f (open_fixity g) l r))

get_take : (xs : List Item) (n k : ℕ) → k < length (take n xs) → slice_get xs k ≡ slice_get (take n xs) k
get_take [] zero k h = refl
get_take [] (suc n) k h = refl
get_take (x ∷ xs) zero k h = absurd (omega arith)
get_take (x ∷ xs) (suc n) zero h = refl
get_take (x ∷ xs) (suc n) (suc k) h = get_take xs n k (omega arith)

pub stuck_place : (items : List Item) (at : ℕ) (gs : List Open) (q : ℕ) (f : Fixity) → steps start (marks_from 0 (take at items)) ≡ Some (gs, Some q) → at ≤ length items
    → reduced gs (leaf q) f ≡ None → (p : ℕ) × (p < at) × (level_at items p ≡ Some f.level)
stuck_place items at gs q f e b r =
    let U : HasRead (marks_from 0 (take at items)) (gs, Some q) = steps_good (marks_from 0 (take at items)) ([], None) (gs, Some q) e tt in
    let h : HasLevel f.level (marks_from 0 (take at items)) = subst (HasLevel f.level) U.is (has_left f.level (marks_of gs) (leaf_at q ∷ []) (stuck_level gs (leaf q) f r)) in
    let P = has_place (take at items) 0 f.level h in
    let short : length (take at items) ≡ at = length-take-le at items b in
    let low : P.place < at = omega (arith, P.within, short) in
    (P.place, low, ap (λ o. level_in (fixity_in o)) (get_take items at P.place P.within) ∙ P.is)

pub leaf_read : (items : List Item) (p : ℕ) → tree_in items (arranged.Leaf p) ≡ leaf p
leaf_read items p = ap (tree_in items) (sym (rolls-Leaf p)) ∙ fold-roll-Arranged Tree (tree_step items) (Arranged-F.Leaf p)
