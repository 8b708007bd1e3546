-- Loops over lists.
use Rattle.std.proofs.Common.{◌≡◌, ℕ, ◌+◌, ◌<◌, Bool, true, false, cond, ◌||◌, List, [], ◌∷◌, ◌++◌, length, get_or, take, drop, Option, Some, None, refl, sym, ap, ◌∙◌}
use Rattle.std.specs.List.{flat_map, list_any}
use Rattle.std.specs.Option.{option_or}
use Rattle.std.proofs.lemmas.List.{take_more, drop_more, flat_map_more}
use Rattle.gh_scopes.specs.Graph.{first_some}

pub front_more : {X : Type 0} (xs : List X) (i : ℕ) (x : X) → i < length xs → x ≡ get_or xs i x → take (i + 1) xs ≡ take i xs ++ x ∷ []
front_more xs i x lt at = take_more xs i x lt ∙ ap (λ y. take i xs ++ y ∷ []) (sym at)

pub rest_more : {X : Type 0} (xs : List X) (i : ℕ) (x : X) → i < length xs → x ≡ get_or xs i x → drop i xs ≡ x ∷ drop (i + 1) xs
rest_more xs i x lt at = drop_more xs i x lt ∙ ap (λ y. y ∷ drop (i + 1) xs) (sym at)

-- one more piece
pub flat_more : {X A : Type 0} (f : X → List A) (xs : List X) (i : ℕ) (x : X) (before now after : List A)
    → i < length xs → x ≡ get_or xs i x → now ≡ before ++ flat_map f (take i xs) → after ≡ now ++ f x → after ≡ before ++ flat_map f (take (i + 1) xs)
flat_more f xs i x before now after lt at is more =
    more ∙ ap (λ l. l ++ f x) is ∙ flat_map_more f before (take i xs) x ∙ ap (λ l. before ++ flat_map f l) (sym (front_more xs i x lt at))

-- the first of a list, one item further
pub first_more : {X B : Type 0} (f : X → Option B) (xs : List X) (i : ℕ) (x : X) (whole : Option B)
    → i < length xs → x ≡ get_or xs i x → whole ≡ first_some f (drop i xs) → f x ≡ None → whole ≡ first_some f (drop (i + 1) xs)
first_more f xs i x whole lt at is none =
    is ∙ ap (first_some f) (rest_more xs i x lt at) ∙ ap (λ o. option_or o (first_some f (drop (i + 1) xs))) none

-- or here
pub first_here : {X B : Type 0} (f : X → Option B) (xs : List X) (i : ℕ) (x : X) (y : B) (whole : Option B)
    → i < length xs → x ≡ get_or xs i x → whole ≡ first_some f (drop i xs) → f x ≡ Some y → Some y ≡ whole
first_here f xs i x y whole lt at is some =
    sym (is ∙ ap (first_some f) (rest_more xs i x lt at) ∙ ap (λ o. option_or o (first_some f (drop (i + 1) xs))) some)

or_end : (a b : Bool) → (a || (b || false)) ≡ (a || b)
or_end true b = refl
or_end false true = refl
or_end false false = refl

or_assoc : (a b c : Bool) → ((a || b) || c) ≡ (a || (b || c))
or_assoc true b c = refl
or_assoc false b c = refl

pub any_push : {X : Type 0} (f : X → Bool) (xs : List X) (x : X) → list_any f (xs ++ x ∷ []) ≡ (list_any f xs || f x)
any_push f [] x = any_one (f x)
  where
    any_one : (b : Bool) → (b || false) ≡ b
    any_one true = refl
    any_one false = refl
any_push f (y ∷ xs) x = ap (λ b. f y || b) (any_push f xs x) ∙ sym (or_assoc (f y) (list_any f xs) (f x))

pub or_choice : (a b : Bool) → cond b true a ≡ (a || b)
or_choice true true = refl
or_choice true false = refl
or_choice false true = refl
or_choice false false = refl
