-- The entries of a scope.
use Rattle.std.specs.Prelude.{◌≡◌, false, ◌||◌, List, [], ◌∷◌}
use Rattle.std.specs.List.{flat_map}
use Rattle.gh_scopes.specs.declared.types.ScopeEntry.{ScopeEntry}
use Rattle.gh_scopes.specs.declared.types.Summary.{Summary}
use Rattle.gh_scopes.specs.Found.{among}
use Rattle.gh_scopes.specs.Imports.{own_given, import_gives, scope_of}

-- an entry is in a scope exactly where a definition or an import of the module gives it
abbrev pub EachEntry : Type 0
EachEntry =
    (ss : List Summary) (exs : List (List ScopeEntry)) (s : Summary) (e : ScopeEntry)
    → among (scope_of ss exs s) e ≡ (among (flat_map (own_given s.name) s.definitions) e || among (flat_map (import_gives ss exs) s.imports) e)

-- no entry stands twice in a list
abbrev pub Apart : List ScopeEntry → Type 0
Apart [] = Unit {0}
Apart (e ∷ es) = (among es e ≡ false) × Apart es

-- no entry stands twice in a scope
abbrev pub EachOnce : Type 0
EachOnce = (ss : List Summary) (exs : List (List ScopeEntry)) (s : Summary) → Apart (scope_of ss exs s)
