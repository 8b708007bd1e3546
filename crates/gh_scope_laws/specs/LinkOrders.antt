-- The order of all files, from what they say alone.
use Rattle.std.specs.Prelude.{◌≡◌, ℕ, ◌<◌, Bool, true, false, ◌&&◌, not, List, [], ◌∷◌, ◌++◌, length, Option, Some, None, slice_get}
use Rattle.std.specs.List.{list_all}
use Rattle.gh_scopes.specs.declared.types.Import.{Import}
use Rattle.gh_scopes.specs.declared.types.Summary.{Summary}
use Rattle.gh_scopes.specs.Graph.{file_of, graph_of, first_cycle, first_some, unknown_in}
use Rattle.gh_scopes.specs.Order.{order_of, taken}

-- these files, if there is one, have it
abbrev pub has_it : List ℕ → Option ℕ → Bool
has_it before None = false
has_it before (Some f) = taken before f

-- an import of a module among these files
abbrev pub is_behind : List Summary → List ℕ → Import → Bool
is_behind ss before i = has_it before (file_of ss i.name)

-- a file may come next: it is not among these, and all its imports are
abbrev pub may_come_by : List Summary → List ℕ → ℕ → Option Summary → Bool
may_come_by ss before f None = false
may_come_by ss before f (Some s) = not (taken before f) && list_all (is_behind ss before) s.imports

abbrev pub may_come : List Summary → List ℕ → ℕ → Bool
may_come ss before f = may_come_by ss before f (slice_get ss f)

-- the first file, by number, that may come next
pub record IsNext (ss : List Summary) (before : List ℕ) (f : ℕ) : Type 0 where
  pub may : may_come ss before f ≡ true
  pub next_first : (h : ℕ) → h < f → may_come ss before h ≡ false

-- behind these files, each of those is the first that may come next
abbrev pub Follow : List Summary → List ℕ → List ℕ → Type 0
Follow ss before [] = Unit {0}
Follow ss before (f ∷ rest) = IsNext ss before f × Follow ss (before ++ f ∷ []) rest

-- a link order: at each place stands the first file, by number, that is not before it and all of whose imports are before it,
-- and every file stands there
pub record LinkOrder (ss : List Summary) (order : List ℕ) : Type 0 where
  pub follow : Follow ss [] order
  pub whole : (f : ℕ) → f < length ss → taken order f ≡ true

-- no import lies on a cycle, and none is of an unknown module
pub record CanBeOrdered (ss : List Summary) : Type 0 where
  pub acyclic : first_cycle ss (graph_of ss) 0 ss ≡ None
  pub known : first_some (unknown_in ss) ss ≡ None

-- where no import lies on a cycle and none is of an unknown module, there is a link order: the one that linking takes
abbrev pub HasLinkOrder : Type 0
HasLinkOrder = (ss : List Summary) → CanBeOrdered ss → LinkOrder ss (order_of (graph_of ss))

-- elsewhere there is none
abbrev pub NoLinkOrder : Type 0
NoLinkOrder = (ss : List Summary) (order : List ℕ) → LinkOrder ss order → CanBeOrdered ss

-- there are no two
abbrev pub OneLinkOrder : Type 0
OneLinkOrder = (ss : List Summary) (a b : List ℕ) → LinkOrder ss a → LinkOrder ss b → a ≡ b
