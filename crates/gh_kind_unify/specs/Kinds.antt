-- Kinds that meet a list of kinding rules.
use Rattle.std.specs.Prelude.{◌≡◌, ℕ, suc, ◌+◌, ◌<◌, ◌≤◌, List, [], ◌∷◌, length, take, slice_get, Option, Some, None}
use Rattle.gh_typeterm.specs.declared.kind.Kind.{Kind, fold-Kind}
use Rattle.gh_typeterm.specs.declared.kind.Kind.TheOpen.{Kind-F}
use Rattle.gh_kind_unify.specs.declared.rules.Rule.{Rule}
use Rattle.gh_kind_unify.specs.declared.rules.Rule.TheVariants as rule

-- a kind as a plain tree
pub data Tree : Type 0 where
  star : Tree
  arrow : (from to : Tree) → Tree

abbrev pub tree_step : Kind-F Tree → Tree
tree_step Kind-F.Star = star
tree_step (Kind-F.Arrow from to) = arrow from to

abbrev pub tree : Kind → Tree
tree = fold-Kind Tree tree_step

-- a kind counts one for `*` and one for each arrow
abbrev pub nodes : Tree → ℕ
nodes star = 1
nodes (arrow from to) = suc (nodes from + nodes to)

abbrev pub arrows : Tree → ℕ
arrows star = 0
arrows (arrow from to) = suc (arrows from + arrows to)

-- a kind for each unknown
abbrev pub Kinds : Type 0
Kinds = ℕ → Tree

abbrev pub Meets : Kinds → Rule → Type 0
Meets ρ (rule.Star v) = ρ v ≡ star
Meets ρ (rule.Same v w) = ρ v ≡ ρ w
Meets ρ (rule.Applies f x r) = ρ f ≡ arrow (ρ x) (ρ r)

abbrev pub MeetsAll : Kinds → List Rule → Type 0
MeetsAll ρ [] = Unit {0}
MeetsAll ρ (r ∷ rs) = Meets ρ r × MeetsAll ρ rs

-- the unknowns of a rule are below a count
abbrev pub IsBelow : ℕ → Rule → Type 0
IsBelow count (rule.Star v) = v < count
IsBelow count (rule.Same v w) = (v < count) × (w < count)
IsBelow count (rule.Applies f x r) = (f < count) × (x < count) × (r < count)

abbrev pub AreBelow : ℕ → List Rule → Type 0
AreBelow count [] = Unit {0}
AreBelow count (r ∷ rs) = IsBelow count r × AreBelow count rs

-- every kind has at most 63 nodes
abbrev pub InSize : ℕ → Kinds → Type 0
InSize count ρ = (v : ℕ) → v < count → nodes (ρ v) ≤ 63

-- no other solution has fewer arrows anywhere
abbrev pub IsLeast : ℕ → List Rule → Kinds → Type 0
IsLeast count rules ρ = (σ : Kinds) → MeetsAll σ rules → (v : ℕ) → v < count → arrows (ρ v) ≤ arrows (σ v)

abbrev pub tree_in : Option Kind → Tree
tree_in None = star
tree_in (Some k) = tree k

-- the kinds of a list, by number
abbrev pub listed : List Kind → Kinds
listed kinds v = tree_in (slice_get kinds v)

-- the solution that has nowhere more arrows than any other
pub record IsLeastSolution (count : ℕ) (rules : List Rule) (kinds : List Kind) : Type 0 where
  pub each : length kinds ≡ count
  pub meets : MeetsAll (listed kinds) rules
  pub size : InSize count (listed kinds)
  pub least : IsLeast count rules (listed kinds)

-- there is a solution in size
abbrev pub HasInSize : ℕ → List Rule → Type 0
HasInSize count rules = (ρ : Kinds) × MeetsAll ρ rules × InSize count ρ

abbrev pub HasNone : List Rule → Type 0
HasNone rules = (ρ : Kinds) → MeetsAll ρ rules → ⊥

-- there are solutions, and none in size
abbrev pub HasOnlyLarger : ℕ → List Rule → Type 0
HasOnlyLarger count rules = ((ρ : Kinds) × MeetsAll ρ rules) × ((ρ : Kinds) → MeetsAll ρ rules → InSize count ρ → ⊥)
