-- Walks in layers, by their number of imports: this describes the code's state.
use Rattle.std.specs.Prelude.{◌≡◌, ℕ, ◌<◌, ◌==◌, if◌then◌else◌, List, [], Option, Some, None, slice_index_or}
use Rattle.gh_scopes.specs.Graph.{walk, begin_with, first_some}

-- a walk without imports
abbrev pub here : ℕ → ℕ → Option (List ℕ)
here to a = if a == to then Some [] else None

-- a walk with one import more than those of a layer
abbrev pub one_further : List (List ℕ) → List (Option (List ℕ)) → ℕ → Option (List ℕ)
one_further g layer a = begin_with a (first_some (λ (f : ℕ). slice_index_or layer f None) (slice_index_or g a []))

-- the list has for each file the first walk of `n` imports to a file
abbrev pub IsLayer : List (List ℕ) → ℕ → ℕ → List (Option (List ℕ)) → Type 0
IsLayer g to n layer = (a : ℕ) → slice_index_or layer a None ≡ walk g to n a

-- the list has a layer for each number of imports below a limit
abbrev pub AreLayers : List (List ℕ) → ℕ → ℕ → List (List (Option (List ℕ))) → Type 0
AreLayers g to many layers = (n : ℕ) → n < many → IsLayer g to n (slice_index_or layers n [])
