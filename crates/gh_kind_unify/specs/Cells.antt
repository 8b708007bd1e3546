-- What is known of the unknowns, as cells.
use Rattle.std.specs.Prelude.{◌≡◌, ℕ, ◌<◌, List, [], ◌∷◌, length, get_or, Option, Some, None}
use Rattle.std.specs.Prelude.{sum_by}
use Rattle.gh_kind_unify.specs.declared.cells.Cell.{Cell}
use Rattle.gh_kind_unify.specs.declared.cells.Cell.TheVariants as is
use Rattle.gh_kind_unify.specs.Kinds.{star, arrow, Kinds}

abbrev pub cell : List Cell → ℕ → Cell
cell cells v = get_or cells v is.Free

-- what a cell says of the kind of its unknown
abbrev pub Fits : Kinds → ℕ → Cell → Type 0
Fits ρ v is.Free = Unit {0}
Fits ρ v is.Star = ρ v ≡ star
Fits ρ v (is.Arrow a b) = ρ v ≡ arrow (ρ a) (ρ b)
Fits ρ v (is.Link w) = ρ v ≡ ρ w

abbrev pub Holds : Kinds → List Cell → Type 0
Holds ρ cells = (v : ℕ) → v < length cells → Fits ρ v (cell cells v)

-- the parts of a cell are there, and a link goes down
abbrev pub IsTidyAt : ℕ → ℕ → Cell → Type 0
IsTidyAt count v is.Free = Unit {0}
IsTidyAt count v is.Star = Unit {0}
IsTidyAt count v (is.Arrow a b) = (a < count) × (b < count)
IsTidyAt count v (is.Link w) = w < v

abbrev pub IsTidy : List Cell → Type 0
IsTidy cells = (v : ℕ) → v < length cells → IsTidyAt (length cells) v (cell cells v)

abbrev pub IsNoLink : Cell → Type 0
IsNoLink is.Free = Unit {0}
IsNoLink is.Star = Unit {0}
IsNoLink (is.Arrow a b) = Unit {0}
IsNoLink (is.Link w) = ⊥

-- the work that a cell may still make
abbrev pub cell_weight : Cell → ℕ
cell_weight is.Free = 3
cell_weight is.Star = 3
cell_weight (is.Arrow a b) = 3
cell_weight (is.Link w) = 0

abbrev pub weight : List Cell → ℕ
weight cells = sum_by cell_weight cells

-- cells that say the same, with other links
pub record Alike (before after : List Cell) : Type 0 where
  pub count : length after ≡ length before
  pub tidy : IsTidy after
  pub fewer : (ρ : Kinds) → Holds ρ before → Holds ρ after
  pub more : (ρ : Kinds) → Holds ρ after → Holds ρ before
  pub kept : (v : ℕ) → IsNoLink (cell before v) → cell after v ≡ cell before v
  pub equal : weight after ≡ weight before

-- two unknowns have the same kind
abbrev pub SameValue : List Cell → ℕ → ℕ → Type 0
SameValue cells v w = (ρ : Kinds) → Holds ρ cells → ρ v ≡ ρ w
