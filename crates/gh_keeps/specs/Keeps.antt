-- Two runs that show the same, the second within a stated budget.
use Rattle.std.specs.Prelude.{◌≡◌, ℕ, zero, suc, List, ◌++◌, ◌+◌, ◌*◌}
use Rattle.gh_core.specs.Reduce.{Status, running, ended, failed}
use Rattle.gh_core.specs.Run.{Seen}

abbrev pub IsOver : Status → Type 0
IsOver running = ⊥
IsOver ended = Unit {0}
IsOver (failed cause place) = Unit {0}

-- b has printed all that a has, and is the same where a is over
pub record Reaches (a b : Seen) : Type 0 where
  pub bytes : (rest : List ℕ) × (a.out ++ rest ≡ b.out)
  pub over : IsOver a.status → a ≡ b

-- The core keeps the meaning, each given by what is seen after so many steps or reductions. What n steps print is a prefix of what
-- factor * (n + 1) reductions print, and an end or failure within n steps is reached within these; and for each number of
-- reductions some number of steps prints at least as much, and has the same end or failure.
pub record Keeps (factor : ℕ) (meaning core : ℕ → Seen) : Type 0 where
  pub within : (n : ℕ) → Reaches (meaning n) (core (factor * (n + 1)))
  pub only : (n : ℕ) → (k : ℕ) × Reaches (core n) (meaning k)

-- so many steps
unfoldable pub runs : {S : Type 0} → (S → S) → ℕ → S → S
runs step zero s = s
runs step (suc n) s = runs step n (step s)
