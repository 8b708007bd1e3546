-- The definition at work.
use Rattle.std.proofs.Common.{◌≡◌, ℕ, List, [], ◌∷◌, Some, slice_get, refl, lit<, arith}
use Rattle.gh_groups.specs.Grouping.{Has, Reaches, stay, go, Ascends, IsDone, IsGrouping, AreBelow}
use Rattle.gh_groups.specs.Plans.{first_in}

abbrev pair : List (ℕ × ℕ)
pair = (0, 1) ∷ (1, 0) ∷ (2, 0) ∷ []

pub has_last : Has pair (2, 0)
has_last = record { at = 2; is = refl }

pub below_three : AreBelow 3 pair
below_three = (lit< tt, lit< tt, (lit< tt, lit< tt, (lit< tt, lit< tt, tt)))

pub ascending : Ascends (1 ∷ 4 ∷ 9 ∷ [])
ascending = (lit< tt, (lit< tt, tt))

pub one_ascends : Ascends (7 ∷ [])
one_ascends = tt

pub not_descending : Ascends (4 ∷ 1 ∷ []) → ⊥
not_descending h = omega (arith, h.0)

pub there_and_back : Reaches pair 0 0
there_and_back = go (record { at = 0; is = refl }) (go (record { at = 1; is = refl }) stay)

pub reaches_both : Reaches pair 2 1
reaches_both = go (record { at = 2; is = refl }) (go (record { at = 0; is = refl }) stay)

pub reaches_itself : Reaches [] 5 5
reaches_itself = stay

-- 2 refers to 0 alone, which is done after the first group
pub two_is_done : IsDone ((0 ∷ 1 ∷ []) ∷ (2 ∷ []) ∷ []) 1 0
two_is_done = record { place = 0; earlier = lit< tt; group = 0 ∷ 1 ∷ []; is = refl; has = record { at = 0; is = refl } }

pub first_of_second : first_in (slice_get ((0 ∷ 1 ∷ []) ∷ (2 ∷ []) ∷ []) 1) ≡ 2
first_of_second = refl

pub first_of_none : first_in (slice_get ((0 ∷ 1 ∷ []) ∷ []) 7) ≡ 0
first_of_none = refl

no_group : (place : ℕ) (group : List ℕ) → slice_get {X = List ℕ} [] place ≡ Some group → ⊥
no_group place group e = cc

pub empty : IsGrouping 0 [] []
empty = record {
  every = λ v l. absurd (omega arith);
  below = λ p g v e h. absurd (no_group p g e);
  once = λ p q g h v e d m n. absurd (no_group p g e);
  together = λ p g a b e m n. absurd (no_group p g e);
  apart = λ p g a b e m r s. absurd (no_group p g e);
  some = λ p g e. absurd (no_group p g e);
  ascend = λ p g e. absurd (no_group p g e);
  ready = λ p g e. absurd (no_group p g e);
  first = λ p q g h v w l e d r f k. absurd (no_group p g e);
}
