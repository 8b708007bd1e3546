-- What a unifier keeps, and its solutions.
use Rattle.std.specs.Prelude.{◌≡◌, ℕ, ◌<◌, ◌≤◌, Bool, false, IsTrue, List, map, length, slice_get, Option, Some, None}
use Rattle.gh_typeterm.specs.declared.ty.TyNode.{TyNode}
use Rattle.gh_unify.specs.Types.{Mono, var, Val, inst, has, nodes, mono}
use Rattle.gh_unify.specs.declared.table.Variable.{Variable}

-- how each variable was drawn, by its number: its level, and whether it is rigid
abbrev pub Drawn : Type 0
Drawn = List (ℕ × Bool)

abbrev pub drawn_of : List Variable → Drawn
drawn_of kept = map (λ x. (x.level, x.rigid)) kept

abbrev pub level_at : Option (ℕ × Bool) → ℕ
level_at None = 0
level_at (Some d) = d.0

abbrev pub rigid_at : Option (ℕ × Bool) → Bool
rigid_at None = false
rigid_at (Some d) = d.1

abbrev pub level_of : Drawn → ℕ → ℕ
level_of drawn v = level_at (slice_get drawn v)

abbrev pub is_rigid : Drawn → ℕ → Bool
is_rigid drawn v = rigid_at (slice_get drawn v)

-- a type for each solved variable
abbrev pub Eqs : Type 0
Eqs = ℕ → Option Mono

abbrev pub type_in : Option TyNode → Option Mono
type_in None = None
type_in (Some t) = Some (mono t)

abbrev pub type_at : Option Variable → Option Mono
type_at None = None
type_at (Some x) = type_in x.term

abbrev pub eqs_of : List Variable → Eqs
eqs_of kept v = type_at (slice_get kept v)

-- each solved variable has the value of its type, and a rigid one stands for itself
pub record Solves (E : Eqs) (D : Drawn) (ρ : Val) : Type 0 where
  pub equal : (v : ℕ) (t : Mono) → E v ≡ Some t → ρ v ≡ inst ρ t
  pub rigid : (v : ℕ) → IsTrue (is_rigid D v) → ρ v ≡ var v

-- each solved variable has the value of its type, whatever the values of rigid ones are
abbrev pub HasValues : List Variable → Val → Type 0
HasValues kept ρ = (v : ℕ) (t : Mono) → eqs_of kept v ≡ Some t → ρ v ≡ inst ρ t

-- no variable's value holds a rigid variable of a greater level than its own
abbrev pub InScope : Drawn → Val → Type 0
InScope D ρ = (v r : ℕ) → v < length D → IsTrue (is_rigid D r) → IsTrue (has r (ρ v)) → level_of D r ≤ level_of D v

-- no variable's value passes 1,000 nodes
abbrev pub InSize : Drawn → Val → Type 0
InSize D ρ = (v : ℕ) → v < length D → nodes (ρ v) ≤ 1000

-- a solution of what is kept
abbrev pub IsSolution : List Variable → Val → Type 0
IsSolution kept ρ = Solves (eqs_of kept) (drawn_of kept) ρ

-- a solution of what is kept and of one equation more
abbrev pub SolvesBoth : List Variable → TyNode → TyNode → Val → Type 0
SolvesBoth kept a b ρ = IsSolution kept ρ × (inst ρ (mono a) ≡ inst ρ (mono b))

-- every variable of a type was drawn
abbrev pub AreDrawn : List Variable → TyNode → Type 0
AreDrawn kept t = (v : ℕ) → IsTrue (has v (mono t)) → v < length kept

-- what is kept has a solution in scope and in size
abbrev pub CanBeMet : List Variable → Type 0
CanBeMet kept = (ρ : Val) × IsSolution kept ρ × InScope (drawn_of kept) ρ × InSize (drawn_of kept) ρ

-- a most general solution: it leaves each unsolved variable alone, and every solution factors through it
pub record IsMostGeneral (E : Eqs) (D : Drawn) (σ : Val) : Type 0 where
  pub solves : Solves E D σ
  pub free : (v : ℕ) → E v ≡ None → σ v ≡ var v
  pub factors : (ρ : Val) → Solves E D ρ → (v : ℕ) → inst ρ (σ v) ≡ ρ v

abbrev pub MostGeneral : List Variable → Val → Type 0
MostGeneral kept σ = IsMostGeneral (eqs_of kept) (drawn_of kept) σ

-- a type is another one under a most general solution
abbrev pub IsRead : List Variable → TyNode → TyNode → Type 0
IsRead kept t r = (σ : Val) × MostGeneral kept σ × (mono r ≡ inst σ (mono t))
