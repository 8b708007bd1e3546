-- The table of binders in which levels are looked up.
use Rattle.std.specs.Prelude.{ℕ, map, List, [], ◌∷◌, ◌++◌, Option}
use Rattle.gh_core.specs.Levels.{Scope, bound_at}

-- an entry of the table of binders: a number, its level, and the level that its number had before
abbrev pub Entry : Type 0
Entry = ℕ × ℕ × Option ℕ

abbrev pub binder_of : Entry → ℕ × ℕ
binder_of e = (e.0, e.1)

abbrev pub scope_of : List Entry → Scope
scope_of entries = map binder_of entries

abbrev pub before_of : Entry → Option ℕ
before_of e = e.2

-- the level that each number had in the scope before its entry
abbrev pub befores : Scope → List Entry → List (Option ℕ)
befores scope [] = []
befores scope (e ∷ entries) = bound_at scope e.0 ∷ befores (scope ++ binder_of e ∷ []) entries
