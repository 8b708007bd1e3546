-- Items by their places.
use Rattle.std.proofs.Common.{◌≡◌, ℕ, zero, suc, ◌<◌, List, [], ◌∷◌, length, Some, None, is_some, slice_get, slice_set, refl, ap, arith}
use Rattle.std.proofs.lemmas.Bool.{false≢true}
use Rattle.gh_scope_laws.proofs.Imported.{some_same}

pub set_here : {X : Type 0} (xs : List X) (f : ℕ) (x : X) → f < length xs → slice_get (slice_set xs f x) f ≡ Some x
set_here [] f x lt = absurd (omega (arith, lt))
set_here (y ∷ xs) zero x lt = refl
set_here (y ∷ xs) (suc f) x lt = set_here xs f x (omega (arith, lt))

pub set_there : {X : Type 0} (xs : List X) (f h : ℕ) (x : X) → (f ≡ h → ⊥) → slice_get (slice_set xs f x) h ≡ slice_get xs h
set_there [] f h x ne = refl
set_there (y ∷ xs) zero zero x ne = absurd (ne refl)
set_there (y ∷ xs) zero (suc h) x ne = refl
set_there (y ∷ xs) (suc f) zero x ne = refl
set_there (y ∷ xs) (suc f) (suc h) x ne = set_there xs f h x (λ e. ne (ap suc e))

-- an item that is there
pub record Item {X : Type 0} (xs : List X) (f : ℕ) : Type 0 where
  pub it : X
  pub is : slice_get xs f ≡ Some it

pub item : {X : Type 0} (xs : List X) (f : ℕ) → f < length xs → Item xs f
item [] f lt = absurd (omega (arith, lt))
item (x ∷ xs) zero lt = record { it = x; is = refl }
item (x ∷ xs) (suc f) lt = let i = item xs f (omega (arith, lt)) in record { it = i.it; is = i.is }

pub nowhere : {X : Type 0} (x : X) → None ≡ Some x → ⊥
nowhere x e = false≢true (ap is_some e)

-- lists that have the same items at the same places
pub same_items : {X : Type 0} (xs ys : List X) → length xs ≡ length ys → ((f : ℕ) → f < length xs → slice_get xs f ≡ slice_get ys f) → xs ≡ ys
same_items [] [] e h = refl
same_items [] (y ∷ ys) e h = absurd (omega (arith, e))
same_items (x ∷ xs) [] e h = absurd (omega (arith, e))
same_items (x ∷ xs) (y ∷ ys) e h =
    let one = some_same x y (h 0 (omega arith)) in
    let rest = same_items xs ys (omega (arith, e)) (λ f lt. h (suc f) (omega (arith, lt))) in
    (λ i. one i ∷ rest i)
