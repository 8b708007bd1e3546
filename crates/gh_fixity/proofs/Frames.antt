-- The last frame is the innermost.
use Rattle.std.proofs.Common.{◌≡◌, ℕ, ◌-◌, true, false, List, [], ◌∷◌, ◌++◌, length, Option, Some, None, refl, sym, ap, ◌∙◌, slice_get}
use Rattle.std.proofs.Math.Numerals.{sub-one}
use Rattle.gh_fixity.specs.declared.item.Fixity.{Fixity}
use Rattle.gh_fixity.specs.declared.item.Item.{Item}
use Rattle.gh_fixity.specs.declared.item.Arranged.{Arranged}
use Rattle.gh_fixity.specs.declared.stack.Frame.{Frame}
use Rattle.gh_fixity.specs.declared.stack.Frame.TheVariants as frame
use Rattle.gh_fixity.specs.Arrangement.{may_be_left, may_be_right, or_default, fixity_in, tree_in}
use Rattle.gh_fixity.specs.Stack.{Open, after_minus, after, open_fixity, allows}
use Rattle.gh_fixity.specs.Frames.{open_of, opens, opens_onto, closes_top}

pub opens_onto-push : (items : List Item) (gs : List Open) (xs : List Frame) (x : Frame) → opens_onto items gs (xs ++ x ∷ []) ≡ open_of items x ∷ opens_onto items gs xs
opens_onto-push items gs [] x = refl
opens_onto-push items gs (y ∷ xs) x = opens_onto-push items (open_of items y ∷ gs) xs x

pub opens-push : (items : List Item) (xs : List Frame) (x : Frame) → opens items (xs ++ x ∷ []) ≡ open_of items x ∷ opens items xs
opens-push items xs x = opens_onto-push items [] xs x

abbrev pub top : List Open → Option Open
top [] = None
top (g ∷ gs) = Some g

last_top : (items : List Item) (gs : List Open) (x y : Frame) (xs : List Frame) → slice_get (x ∷ xs) (length xs) ≡ Some y → top (opens_onto items gs (x ∷ xs)) ≡ Some (open_of items y)
last_top items gs x y [] e = ap (λ z. Some (open_of items z)) (some_same x y e)
  where
    some_same : (a b : Frame) → Some a ≡ Some b → a ≡ b
    some_same a b e = cc
last_top items gs x y (z ∷ zs) e = last_top items (open_of items x ∷ gs) z y zs e

closes_from_top : (gs : List Open) (g : Open) (f : Fixity) → top gs ≡ Some g → closes_top gs f ≡ may_be_left f (open_fixity g)
closes_from_top [] g f e = absurd (cc)
closes_from_top (h ∷ gs) g f e = ap (λ k. may_be_left f (open_fixity k)) (same h g e)
  where
    same : (a b : Open) → Some a ≡ Some b → a ≡ b
    same a b e = cc

allows_from_top : (gs : List Open) (g : Open) (f : Fixity) → top gs ≡ Some g → allows gs f ≡ may_be_right (open_fixity g) f
allows_from_top [] g f e = absurd (cc)
allows_from_top (h ∷ gs) g f e = ap (λ k. may_be_right (open_fixity k) f) (same h g e)
  where
    same : (a b : Open) → Some a ≡ Some b → a ≡ b
    same a b e = cc

front : (xs : List Frame) (y : Frame) (items : List Item) → slice_get xs (length xs - 1) ≡ Some y → top (opens items xs) ≡ Some (open_of items y)
front [] y items e = absurd (cc)
front (x ∷ xs) y items e = last_top items [] x y xs (rw sub-one at e)

pub last_closes : (items : List Item) (xs : List Frame) (y : Frame) (f : Fixity) → slice_get xs (length xs - 1) ≡ Some y → may_be_left f (open_fixity (open_of items y)) ≡ closes_top (opens items xs) f
last_closes items xs y f e = sym (closes_from_top (opens items xs) (open_of items y) f (front xs y items e))

pub last_allows : (items : List Item) (xs : List Frame) (y : Frame) (f : Fixity) → slice_get xs (length xs - 1) ≡ Some y → may_be_right (open_fixity (open_of items y)) f ≡ allows (opens items xs) f
last_allows items xs y f e = sym (allows_from_top (opens items xs) (open_of items y) f (front xs y items e))

pub none_closes : (items : List Item) (xs : List Frame) (f : Fixity) → slice_get xs (length xs - 1) ≡ None → closes_top (opens items xs) f ≡ false
none_closes items [] f e = refl
none_closes items (x ∷ xs) f e = absurd (within x xs (rw sub-one at e))
  where
    within : (x : Frame) (xs : List Frame) → slice_get (x ∷ xs) (length xs) ≡ None → ⊥
    within x [] e = cc
    within x (y ∷ ys) e = within y ys e

pub none_allows : (items : List Item) (xs : List Frame) (f : Fixity) → slice_get xs (length xs - 1) ≡ None → allows (opens items xs) f ≡ true
none_allows items [] f e = refl
none_allows items (x ∷ xs) f e = absurd (within x xs (rw sub-one at e))
  where
    within : (x : Frame) (xs : List Frame) → slice_get (x ∷ xs) (length xs) ≡ None → ⊥
    within x [] e = cc
    within x (y ∷ ys) e = within y ys e

pub opens-minus : (items : List Item) (xs : List Frame) → opens items (xs ++ frame.Minus ∷ []) ≡ after_minus ∷ opens items xs
opens-minus items xs = opens-push items xs frame.Minus

pub opens-op : (items : List Item) (xs : List Frame) (p : ℕ) (t : Arranged) (f : Fixity) → or_default (fixity_in (slice_get items p)) ≡ f
    → opens items (xs ++ frame.Op p t ∷ []) ≡ after p f (tree_in items t) ∷ opens items xs
opens-op items xs p t f e = opens-push items xs (frame.Op p t) ∙ ap (λ g. after p g (tree_in items t) ∷ opens items xs) e
