-- Steps of loops that add to a list.
use Rattle.std.proofs.Common.{◌≡◌, ℕ, ◌+◌, ◌<◌, List, [], ◌∷◌, ◌++◌, length, get_or, take, map, refl, sym, ap, ◌∙◌}
use Rattle.std.specs.List.{flat_map}
use Rattle.std.proofs.lemmas.List.{take_more, flat_map_more}

-- a list to which nothing is added
pub stays : {A : Type 0} (xs ys : List A) → ys ≡ [] → xs ≡ xs ++ ys
stays [] ys e = sym e
stays (x ∷ xs) ys e = ap (λ l. x ∷ l) (stays xs ys e)

-- a loop that adds what each item gives, one item further
pub flat_more : {X A : Type 0} (f : X → List A) (xs : List X) (i : ℕ) (x : X) (before now after : List A)
    → i < length xs → x ≡ get_or xs i x → now ≡ before ++ flat_map f (take i xs) → after ≡ now ++ f x → after ≡ before ++ flat_map f (take (i + 1) xs)
flat_more f xs i x before now after lt at is more =
    more ∙ ap (λ l. l ++ f x) is ∙ flat_map_more f before (take i xs) x
    ∙ ap (λ l. before ++ flat_map f l) (sym (take_more xs i x lt ∙ ap (λ y. take i xs ++ y ∷ []) (sym at)))

pub over_items : {X Y A : Type 0} (f : Y → List A) (h : X → Y) (xs : List X) → flat_map f (map h xs) ≡ flat_map (λ x. f (h x)) xs
over_items f h [] = refl
over_items f h (x ∷ xs) = ap (λ l. f (h x) ++ l) (over_items f h xs)
