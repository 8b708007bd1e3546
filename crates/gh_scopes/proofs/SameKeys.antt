-- Keys that are the same are equal.
use Rattle.std.proofs.Common.{◌≡◌, ℕ, Bool, true, false, ◌&&◌, nat_eq, cond, refl, ap}
use Rattle.std.proofs.lemmas.Bool.{eqb-true, false≢true}
use Rattle.gh_scopes.specs.Keys.{Key, same_key, same_two, same_three, same_four}

and_left : (a b : Bool) → (a && b) ≡ true → a ≡ true
and_left true b h = refl
and_left false b h = h

and_right : (a b : Bool) → (a && b) ≡ true → b ≡ true
and_right true b h = h
and_right false b h = absurd (false≢true h)

twos : (x y : ℕ × ℕ) → same_two x y ≡ true → x ≡ y
twos x y h = λ j. (eqb-true x.0 y.0 (and_left (nat_eq x.0 y.0) (nat_eq x.1 y.1) h) j, eqb-true x.1 y.1 (and_right (nat_eq x.0 y.0) (nat_eq x.1 y.1) h) j)

threes : (x y : ℕ × (ℕ × ℕ)) → same_three x y ≡ true → x ≡ y
threes x y h = λ j. (eqb-true x.0 y.0 (and_left (nat_eq x.0 y.0) (same_two x.1 y.1) h) j, twos x.1 y.1 (and_right (nat_eq x.0 y.0) (same_two x.1 y.1) h) j)

fours : (x y : ℕ × (ℕ × (ℕ × ℕ))) → same_four x y ≡ true → x ≡ y
fours x y h = λ j. (eqb-true x.0 y.0 (and_left (nat_eq x.0 y.0) (same_three x.1 y.1) h) j, threes x.1 y.1 (and_right (nat_eq x.0 y.0) (same_three x.1 y.1) h) j)

pub keys_equal : (x y : Key) → same_key x y ≡ true → x ≡ y
keys_equal x y h = λ j. (eqb-true x.0 y.0 (and_left (nat_eq x.0 y.0) (same_four x.1 y.1) h) j, fours x.1 y.1 (and_right (nat_eq x.0 y.0) (same_four x.1 y.1) h) j)

-- what is asked at the same key may be asked at the other
pub at_same : {A : Type 0} (x y : Key) (f : Key → A) (g : A → A) (other : A) → cond (same_key x y) (g (f x)) other ≡ cond (same_key x y) (g (f y)) other
at_same {A} x y f g other = by (same_key x y) refl
  where
    by : (b : Bool) → same_key x y ≡ b → cond b (g (f x)) other ≡ cond b (g (f y)) other
    by true h = ap (λ k. g (f k)) (keys_equal x y h)
    by false h = refl
