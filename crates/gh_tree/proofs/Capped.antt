-- Numbers that stand still at the greatest `u32`, and the greatest of a list.
use Rattle.std.proofs.Common.{arith, ◌≡◌, ℕ, ◌+◌, ◌<◌, ◌-◌, ◌^◌, min, max, ◌++◌, length, take, get_or, List, [], ◌∷◌, map, refl, sym, ap, ◌∙◌}
use Rattle.std.proofs.lemmas.List.{take_more, map-append}
use Rattle.gh_tree.specs.Depth.{capped, capped_sum, deepest, weight_of}

pub capped_max : (a b : ℕ) → max (capped a) (capped b) ≡ capped (max a b)
unfolding capped
capped_max a b = omega arith

pub capped_adds : (a b : ℕ) → capped_sum (capped a) (capped b) ≡ capped (a + b)
unfolding capped capped_sum
capped_adds a b = omega arith

pub deepest-append : (ds : List ℕ) (d : ℕ) → deepest (ds ++ d ∷ []) ≡ max (deepest ds) d
deepest-append [] d = omega arith
deepest-append (e ∷ ds) d = ap (max e) (deepest-append ds d) ∙ omega arith

-- one more item
pub push_deepest : {X : Type 0} (f : X → ℕ) (xs : List X) (i : ℕ) (most new r : ℕ) (x : X)
    → i < length xs → x ≡ get_or xs i x → r ≡ capped (f x) → most ≡ capped (deepest (map f (take i xs)))
    → new ≡ max most r → new ≡ capped (deepest (map f (take (i + 1) xs)))
push_deepest f xs i most new r x lt at gives old is =
    is ∙ (λ j. max (old j) ((gives ∙ ap (λ y. capped (f y)) at) j))
    ∙ capped_max (deepest (map f (take i xs))) (f (get_or xs i x))
    ∙ ap capped (sym (deepest-append (map f (take i xs)) (f (get_or xs i x)))
    ∙ ap deepest (sym (ap (map f) (take_more xs i x lt) ∙ map-append f (take i xs) (get_or xs i x ∷ []))))

pub one_is : 1 ≡ capped 1
unfolding capped
one_is = refl

pub weight_is : (count : ℕ) → max (capped count) 1 ≡ capped (weight_of count)
unfolding capped
weight_is count = omega arith

pub two_is : 2 ≡ capped 2
unfolding capped
two_is = refl

pub zero_is : 0 ≡ capped 0
unfolding capped
zero_is = refl

pub three_is : 3 ≡ capped 3
unfolding capped
three_is = refl

pub capped_is : (n : ℕ) → capped n ≡ min n (2 ^ 32 - 1)
unfolding capped
capped_is n = refl
