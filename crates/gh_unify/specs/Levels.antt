-- The level of the outermost scope that a variable reaches.
use Rattle.std.specs.Prelude.{◌≡◌, ℕ, ◌<◌, ◌≤◌, IsTrue, List, length, ◌⊎◌}
use Rattle.gh_unify.specs.Types.{has}
use Rattle.gh_unify.specs.Kept.{drawn_of, eqs_of, level_of}
use Rattle.gh_unify.specs.Tables.{best}
use Rattle.gh_unify.specs.declared.table.Variable.{Variable}

-- the type of w under the most general solution holds v
abbrev pub Holds : List Variable → ℕ → ℕ → Type 0
Holds kept w v = IsTrue (has v (best (eqs_of kept) w))

-- of the first variables none that holds v has a lesser level
abbrev pub IsLeast : List Variable → ℕ → ℕ → ℕ → Type 0
IsLeast kept v count level = (w : ℕ) → w < count → Holds kept w v → level ≤ level_of (drawn_of kept) w

-- a variable that holds v has this level
abbrev pub IsReached : List Variable → ℕ → ℕ → Type 0
IsReached kept v level = (w : ℕ) × (w < length kept) × Holds kept w v × (level ≡ level_of (drawn_of kept) w)

-- of a level and that of w, the lesser one where w holds v
abbrev pub IsLowered : List Variable → ℕ → ℕ → ℕ → ℕ → Type 0
IsLowered kept v w least level =
    (level ≤ least) × (Holds kept w v → level ≤ level_of (drawn_of kept) w)
    × ((level ≡ least) ⊎ (Holds kept w v × (level ≡ level_of (drawn_of kept) w)))
