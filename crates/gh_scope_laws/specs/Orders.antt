-- The order of the files as a property of a list. A graph has for each file those that it imports.
use Rattle.std.specs.Prelude.{◌≡◌, ℕ, ◌<◌, Bool, true, false, List, [], ◌∷◌, ◌++◌, length, slice_index_or}
use Rattle.gh_scopes.specs.Order.{is_ready, order_of}

-- a file is not among these, and all that it imports are
abbrev pub ready : List (List ℕ) → List ℕ → ℕ → Bool
ready g before f = is_ready before f (slice_index_or g f [])

-- the first file, by number, that is ready behind these
pub record IsFirst (g : List (List ℕ)) (before : List ℕ) (f : ℕ) : Type 0 where
  pub below : f < length g
  pub is_ready : ready g before f ≡ true
  pub first : (h : ℕ) → h < f → ready g before h ≡ false

-- behind these files, the first ready one stands at each place, and at the end none is ready
abbrev pub Orders : List (List ℕ) → List ℕ → List ℕ → Type 0
Orders g before [] = (h : ℕ) → h < length g → ready g before h ≡ false
Orders g before (f ∷ rest) = IsFirst g before f × Orders g (before ++ f ∷ []) rest

-- the order that linking takes is such a list
abbrev pub IsOrder : Type 0
IsOrder = (g : List (List ℕ)) → Orders g [] (order_of g)

-- no two lists are
abbrev pub OneOrder : Type 0
OneOrder = (g : List (List ℕ)) (a b : List ℕ) → Orders g [] a → Orders g [] b → a ≡ b
