-- Variables by the number of binders round them.
use Rattle.std.specs.Prelude.{ℕ, suc, ◌+◌, ◌==◌, List, [], ◌∷◌, ◌++◌, length, Option, Some, None, if◌then◌else◌}

-- the binders round a part, each a number with its level, which is how many were bound before it; the last is the nearest
abbrev pub Scope : Type 0
Scope = List (ℕ × ℕ)

-- a scope inside one binder more
abbrev pub within : Scope → ℕ → Scope
within scope x = scope ++ (x, length scope) ∷ []

-- the binders of one list, whose levels go up from this one; the first of the list stands last, so of equal numbers it is
-- the nearest
abbrev pub backwards : ℕ → List ℕ → Scope
backwards level [] = []
backwards level (x ∷ xs) = backwards (suc level) xs ++ (x, level) ∷ []

-- a scope inside the binders of one list
abbrev pub within_list : Scope → List ℕ → Scope
within_list scope xs = scope ++ backwards (length scope) xs

-- the level of the nearest binder of a number
abbrev pub or_here : Option ℕ → Option ℕ → Option ℕ
or_here None here = here
or_here (Some level) here = Some level

abbrev pub bound_at : Scope → ℕ → Option ℕ
bound_at [] x = None
bound_at (b ∷ scope) x = or_here (bound_at scope x) (if b.0 == x then Some b.1 else None)

-- that level, or one past all binders for a variable that none of them binds: a level of its own for each
abbrev pub level_at : Option ℕ → ℕ → ℕ → ℕ
level_at (Some level) count x = level
level_at None count x = count + x

-- the number of binders that were bound before the variable's own
abbrev pub level_of : Scope → ℕ → ℕ
level_of scope x = level_at (bound_at scope x) (length scope) x
