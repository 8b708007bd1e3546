-- The first limit that is passed, of several lists of counts.
use Rattle.std.proofs.Common.{arith, ◌≡◌, ℕ, ◌+◌, ◌<◌, ◌≤◌, Bool, true, false, nat_lt, if◌then◌else◌, min, ◌++◌, length, take, get_or, List, [], ◌∷◌, map, refl, sym, ap, ◌∙◌}
use Rattle.std.proofs.lemmas.List.{take_more, map-append}
use Rattle.gh_base.specs.declared.refusal.Limit.{Limit}
use Rattle.gh_base.specs.declared.refusal.Limit.TheVariants.{Parameters, Dependencies, Constructors, Fields, Arguments, Bindings, Clauses}
use Rattle.gh_limits.specs.Places.{Count, place, first_place, all_of}

cond_ends : (b : Bool) (p : ℕ) → p ≤ 7 → min (if b then p else 7) 7 ≡ (if b then p else 7)
cond_ends true p le = omega (le, arith)
cond_ends false p le = refl

pub place_ends : (which : Limit) (many : ℕ) → min (place which many) 7 ≡ place which many
unfolding place
place_ends Parameters many = cond_ends (nat_lt 8 many) 0 (omega arith)
place_ends Dependencies many = cond_ends (nat_lt 8 many) 1 (omega arith)
place_ends Constructors many = cond_ends (nat_lt 128 many) 2 (omega arith)
place_ends Fields many = cond_ends (nat_lt 16 many) 3 (omega arith)
place_ends Arguments many = cond_ends (nat_lt 16 many) 4 (omega arith)
place_ends Bindings many = cond_ends (nat_lt 64 many) 5 (omega arith)
place_ends Clauses many = cond_ends (nat_lt 1000 many) 6 (omega arith)

pub ends : (cs : List Count) → min (first_place cs) 7 ≡ first_place cs
ends [] = refl
ends (c ∷ cs) = omega (ends cs, place_ends c.which c.many, arith)

pub first_append : (cs ds : List Count) → first_place (cs ++ ds) ≡ min (first_place cs) (first_place ds)
first_append [] ds = omega (ends ds, arith)
first_append (c ∷ cs) ds = ap (min (place c.which c.many)) (first_append cs ds) ∙ omega arith

pub all_append : (xs : List (List Count)) (x : List Count) → first_place (all_of (xs ++ x ∷ [])) ≡ min (first_place (all_of xs)) (first_place x)
all_append [] x = first_append x [] ∙ omega arith
all_append (y ∷ xs) x = first_append y (all_of (xs ++ x ∷ [])) ∙ ap (min (first_place y)) (all_append xs x) ∙ omega arith ∙ sym (ap (λ n. min n (first_place x)) (first_append y (all_of xs)))

-- one more item
pub push_place : {X : Type 0} (f : X → List Count) (xs : List X) (i : ℕ) (best new r : ℕ) (x : X)
    → i < length xs → x ≡ get_or xs i x → r ≡ first_place (f x) → best ≡ first_place (all_of (map f (take i xs)))
    → new ≡ min best r → new ≡ first_place (all_of (map f (take (i + 1) xs)))
push_place f xs i best new r x lt at gives old is =
    is ∙ (λ j. min (old j) ((gives ∙ ap (λ y. first_place (f y)) at) j))
    ∙ sym (all_append (map f (take i xs)) (f (get_or xs i x)))
    ∙ ap (λ ys. first_place (all_of ys)) (sym (ap (map f) (take_more xs i x lt) ∙ map-append f (take i xs) (get_or xs i x ∷ [])))

pub map_twice : {A : Type 0} {B : Type 0} {C : Type 0} (g : B → C) (f : A → B) (xs : List A) → map g (map f xs) ≡ map (λ x. g (f x)) xs
map_twice g f [] = refl
map_twice g f (x ∷ xs) = ap (λ ys. g (f x) ∷ ys) (map_twice g f xs)
