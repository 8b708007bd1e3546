-- Lists of other lengths are not the same.
use Rattle.std.proofs.Common.{arith, ◌≡◌, ℕ, suc, ◌+◌, Bool, true, false, ◌&&◌, List, [], ◌∷◌, length, ◌<◌, get_or, drop, map, refl, sym, ap, ◌∙◌}
use Rattle.std.proofs.lemmas.List.{drop_more}
use Rattle.gh_limits.specs.SameTypes.{all_same}

and_false : (b : Bool) → false ≡ (b && false)
and_false false = refl
and_false true = refl

pub lengths_differ : {A : Type 0} (f : A → A → Bool) (xs ys : List A) → ¬ (length xs ≡ length ys) → false ≡ all_same (map f xs) ys
lengths_differ f [] [] differ = absurd (differ refl)
lengths_differ f [] (y ∷ ys) differ = refl
lengths_differ f (x ∷ xs) [] differ = refl
lengths_differ f (x ∷ xs) (y ∷ ys) differ = and_false (f x y) ∙ ap (λ b. f x y && b) (lengths_differ f xs ys (λ e. differ (ap suc e)))

pub same_step : {A : Type 0} (f : A → A → Bool) (xs ys : List A) (i : ℕ) (x y : A) → i < length xs → i < length ys
    → all_same (map f (drop i xs)) (drop i ys) ≡ f (get_or xs i x) (get_or ys i y) && all_same (map f (drop (i + 1) xs)) (drop (i + 1) ys)
same_step f xs ys i x y lx ly = λ j. all_same (map f (drop_more xs i x lx j)) (drop_more ys i y ly j)

-- a pair that differs
pub stops : {A : Type 0} (f : A → A → Bool) (xs ys : List A) (i : ℕ) (x y : A) (r : Bool) → i < length xs → length xs ≡ length ys
    → r ≡ f (get_or xs i x) (get_or ys i y) → r ≡ false
    → all_same (map f xs) ys ≡ all_same (map f (drop i xs)) (drop i ys) → false ≡ all_same (map f xs) ys
stops f xs ys i x y r lt same is differs old = sym (old ∙ same_step f xs ys i x y lt (omega (lt, same, arith))
    ∙ ap (λ b. b && all_same (map f (drop (i + 1) xs)) (drop (i + 1) ys)) (sym is ∙ differs))

-- a pair that is the same
pub goes : {A : Type 0} (f : A → A → Bool) (xs ys : List A) (i : ℕ) (x y : A) (r : Bool) → i < length xs → length xs ≡ length ys
    → r ≡ f (get_or xs i x) (get_or ys i y) → r ≡ true
    → all_same (map f xs) ys ≡ all_same (map f (drop i xs)) (drop i ys) → all_same (map f xs) ys ≡ all_same (map f (drop (i + 1) xs)) (drop (i + 1) ys)
goes f xs ys i x y r lt same is holds old = old ∙ same_step f xs ys i x y lt (omega (lt, same, arith))
    ∙ ap (λ b. b && all_same (map f (drop (i + 1) xs)) (drop (i + 1) ys)) (sym is ∙ holds)
