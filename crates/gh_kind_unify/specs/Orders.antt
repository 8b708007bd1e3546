-- Orders in which each unknown comes after those that its kind is made of.
use Rattle.std.specs.Prelude.{◌≡◌, ◌≢◌, ℕ, zero, suc, ◌<◌, ◌≤◌, ◌⊎◌, List, [], ◌∷◌, map, length, get_or, slice_get, Option, Some, None}
use Rattle.gh_groups.specs.Grouping.{Has}
use Rattle.gh_typeterm.specs.declared.kind.Kind.{Kind}
use Rattle.gh_kind_unify.specs.declared.cells.Cell.{Cell}
use Rattle.gh_kind_unify.specs.declared.cells.Cell.TheVariants as is
use Rattle.gh_kind_unify.specs.declared.build.Trouble.{Trouble}
use Rattle.gh_kind_unify.specs.declared.build.Trouble.TheVariants as trouble
use Rattle.gh_kind_unify.specs.Kinds.{Tree, star, arrow, Kinds, tree, nodes, listed}
use Rattle.gh_kind_unify.specs.Cells.{cell, Holds}

abbrev pub PartIn : Cell → ℕ → Type 0
PartIn is.Free w = ⊥
PartIn is.Star w = ⊥
PartIn (is.Arrow a b) w = (w ≡ a) ⊎ (w ≡ b)
PartIn (is.Link u) w = w ≡ u

-- the kind of v is made of that of w
abbrev pub IsPart : List Cell → ℕ → ℕ → Type 0
IsPart cells v w = PartIn (cell cells v) w

-- the edges of the first unknowns
pub record AreEdges (cells : List Cell) (count : ℕ) (edges : List (ℕ × ℕ)) : Type 0 where
  pub only : (v w : ℕ) → Has edges (v, w) → (v < count) × IsPart cells v w
  pub every : (v w : ℕ) → v < count → IsPart cells v w → Has edges (v, w)
  pub other : (v w : ℕ) → v < count → IsPart cells v w → w ≢ v

-- no kinds are as the cells say
abbrev pub IsEndless : List Cell → Type 0
IsEndless cells = (ρ : Kinds) → Holds ρ cells → ⊥

-- each unknown is there, behind its parts
pub record IsOrder (cells : List Cell) (order : List ℕ) : Type 0 where
  pub every : (v : ℕ) → v < length cells → (p : ℕ) × (slice_get order p ≡ Some v)
  pub below : (p v : ℕ) → slice_get order p ≡ Some v → v < length cells
  pub parts : (p v w : ℕ) → slice_get order p ≡ Some v → IsPart cells v w → (q : ℕ) × (q < p) × (slice_get order q ≡ Some w)

abbrev pub singles : List ℕ → List (List ℕ)
singles vs = map (λ v. v ∷ []) vs

-- a group with another number of members than one
abbrev pub HasOther : List (List ℕ) → Type 0
HasOther groups = (p : ℕ) × (g : List ℕ) × (slice_get groups p ≡ Some g) × ((v : ℕ) → g ≡ v ∷ [] → ⊥)

-- the kind that a cell gives, where a free one gives `*`
abbrev pub value : Kinds → Cell → Tree
value ρ is.Free = star
value ρ is.Star = star
value ρ (is.Arrow a b) = arrow (ρ a) (ρ b)
value ρ (is.Link w) = ρ w

-- the least kinds
abbrev pub Grounded : List Cell → Kinds → Type 0
Grounded cells ρ = (v : ℕ) → v < length cells → ρ v ≡ value ρ (cell cells v)

-- the least kind of an unknown is there, and in size
pub record IsBuilt (cells : List Cell) (built : List Kind) (v : ℕ) : Type 0 where
  pub size : nodes (listed built v) ≤ 63
  pub value : (ρ : Kinds) → Grounded cells ρ → listed built v ≡ ρ v

-- those of the unknowns at the first places of an order
abbrev pub BuiltTo : List Cell → List ℕ → ℕ → List Kind → Type 0
BuiltTo cells order count built = (p v : ℕ) → p < count → slice_get order p ≡ Some v → IsBuilt cells built v

-- an unknown whose least kind is too large
pub record HasLarger (cells : List Cell) : Type 0 where
  pub at : ℕ
  pub within : at < length cells
  pub large : (ρ : Kinds) → Grounded cells ρ → 63 < nodes (ρ at)

-- the least kind of an unknown, in size
pub record Gives (cells : List Cell) (v : ℕ) (kind : Kind) : Type 0 where
  pub size : nodes (tree kind) ≤ 63
  pub value : (ρ : Kinds) → Grounded cells ρ → tree kind ≡ ρ v

-- what is said of a kind that is too large; want of memory says nothing, and a clash does not come
abbrev pub Stops : Trouble → Type 0 → Type 0
Stops trouble.Clash P = ⊥
Stops trouble.TooLarge P = P
Stops trouble.NoMemory P = Unit {0}
