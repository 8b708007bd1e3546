-- What reaches no further, cell by cell and frame by frame.
use Rattle.std.proofs.Common.{◌≡◌, ℕ, zero, suc, ◌-◌, ◌≤◌, ◌<◌, List, [], ◌∷◌, ◌++◌, length, take, get_or, refl, sym, ap, ◌∙◌, subst, inl, inr, arith}
use Rattle.std.proofs.lemmas.Option.{slice_get_read}
use Rattle.gh_machine.specs.Reach.{reach_of, frame_reach, IsNear, AreNear}
use Rattle.gh_machine.specs.declared.closure.Cell.{Cell}
use Rattle.gh_machine.specs.declared.closure.Frame.{Frame}
use Rattle.gh_machine.proofs.Bound.{slice_get_snoc}

pub near_at : (n : ℕ) (fs : List Frame) (i : ℕ) (f : Frame) → AreNear n fs → i < length fs → f ≡ get_or fs i f → frame_reach f ≤ n
near_at n [] i f h lt e = absurd (omega arith)
near_at n (g ∷ fs) zero f h lt e = subst (λ x. frame_reach x ≤ n) (sym e) h.0
near_at n (g ∷ fs) (suc i) f h lt e = near_at n fs i f h.1 (omega arith) e

pub near-push : (n : ℕ) (fs : List Frame) (f : Frame) → AreNear n fs → frame_reach f ≤ n → AreNear n (fs ++ f ∷ [])
near-push n [] f h le = (le, tt)
near-push n (g ∷ fs) f h le = (h.0, near-push n fs f h.1 le)

pub near_more : (n m : ℕ) (fs : List Frame) → n ≤ m → AreNear n fs → AreNear m fs
near_more n m [] le h = tt
near_more n m (g ∷ fs) le h = let k = h.0 in (omega arith, near_more n m fs le h.1)

pub near_take : (n k : ℕ) (fs : List Frame) → AreNear n fs → AreNear n (take k fs)
near_take n zero fs h = tt
near_take n (suc k) [] h = tt
near_take n (suc k) (f ∷ fs) h = (h.0, near_take n k fs h.1)

-- one cell more
pub near_cell : (n : ℕ) (cells new : List Cell) (c : Cell) → IsNear n cells → reach_of c.value ≤ n → new ≡ cells ++ c ∷ [] → IsNear n new
near_cell n cells new c h le is =
    subst (IsNear n) (sym is) (λ i d at. elim (slice_get_snoc cells c d i at) [
      | inl e ↦ h i d e
      | inr e ↦ subst (λ (x : Cell). reach_of x.value ≤ n) e.1 le
    ])

pub cells_more : (n m : ℕ) (cells : List Cell) → n ≤ m → IsNear n cells → IsNear m cells
cells_more n m cells le h = λ i d at. let k = h i d at in omega arith

-- the cell before a place
pub near_here : (n : ℕ) (cells : List Cell) (at : ℕ) (c : Cell) → IsNear n cells → 0 < at → at ≤ length cells → c ≡ get_or cells (at - 1) c → reach_of c.value ≤ n
near_here n cells zero c h pos le is = absurd (omega arith)
near_here n cells (suc i) c h pos le is =
    let j : suc i - 1 ≡ i = omega arith in
    h i c (slice_get_read cells (length cells) i c refl (omega arith) (is ∙ ap (λ k. get_or cells k c) j))
