-- Why an equation is refused.
use Rattle.std.specs.Prelude.{◌≡◌, ℕ, ◌<◌, IsTrue, List, length, Some}
use Rattle.gh_typeterm.specs.declared.ty.TyNode.{TyNode}
use Rattle.gh_unify.specs.Types.{Mono, con, var, app, name, Val, has, nodes, Head, head_of, mono}
use Rattle.gh_unify.specs.Kept.{Eqs, Drawn, is_rigid, level_of, drawn_of, eqs_of, SolvesBoth, InScope, InSize}
use Rattle.gh_unify.specs.declared.table.Variable.{Variable}
use Rattle.gh_unify.specs.declared.unifier.UnifyFault.{UnifyFault}
use Rattle.gh_unify.specs.declared.unifier.UnifyFault.TheVariants.{Clash, Occurs, Escapes, TooLarge, NoMemory}

-- the pairs of types that equations E and one more, of a and b, force to be equal: the least equality with these
-- equations that goes through applications, down to their parts and up from them
pub data Forced (E : Eqs) (a b : Mono) : Mono → Mono → Type 0 where
  given : Forced E a b a b
  stated : (v : ℕ) (t : Mono) → E v ≡ Some t → Forced E a b (var v) t
  same : (s : Mono) → Forced E a b s s
  turned : (s t : Mono) → Forced E a b s t → Forced E a b t s
  through : (s t u : Mono) → Forced E a b s t → Forced E a b t u → Forced E a b s u
  heads : (f x g y : Mono) → Forced E a b (app f x) (app g y) → Forced E a b f g
  args : (f x g y : Mono) → Forced E a b (app f x) (app g y) → Forced E a b x y
  applied : (f x g y : Mono) → Forced E a b f g → Forced E a b x y → Forced E a b (app f x) (app g y)

-- a type that no solution changes at its head: it is no variable but a rigid one
abbrev pub IsFixed : Drawn → Mono → Type 0
IsFixed D (con c) = Unit {0}
IsFixed D (var v) = IsTrue (is_rigid D v)
IsFixed D (app f a) = Unit {0}
IsFixed D (name n) = Unit {0}

-- two types whose heads are fixed and differ
abbrev pub Differ : Drawn → Mono → Mono → Type 0
Differ D l r = IsFixed D l × IsFixed D r × (head_of l ≡ head_of r → ⊥)

-- the type is no variable
abbrev pub IsLarger : Mono → Type 0
IsLarger t = (w : ℕ) → head_of t ≡ Head.a_var w → ⊥

-- no solution at all
abbrev pub HasNone : List Variable → TyNode → TyNode → Type 0
HasNone kept a b = (ρ : Val) → SolvesBoth kept a b ρ → ⊥

-- there are solutions, and none is in scope
abbrev pub HasNoneInScope : List Variable → TyNode → TyNode → Type 0
HasNoneInScope kept a b =
    ((ρ : Val) × SolvesBoth kept a b ρ) × ((ρ : Val) → SolvesBoth kept a b ρ → InScope (drawn_of kept) ρ → ⊥)

-- there are solutions in scope, and none of them is in size
abbrev pub HasNoneInSize : List Variable → TyNode → TyNode → Type 0
HasNoneInSize kept a b =
    ((ρ : Val) × SolvesBoth kept a b ρ × InScope (drawn_of kept) ρ)
    × ((ρ : Val) → SolvesBoth kept a b ρ → InScope (drawn_of kept) ρ → InSize (drawn_of kept) ρ → ⊥)

-- which solutions there are of what is kept and of a = b, where that is refused
abbrev pub Lacks : UnifyFault → List Variable → TyNode → TyNode → Type 0
Lacks (Clash l r) kept a b = HasNone kept a b
Lacks (Occurs v t) kept a b = HasNone kept a b
Lacks (Escapes r v) kept a b = HasNoneInScope kept a b
Lacks (TooLarge v) kept a b = HasNoneInSize kept a b
Lacks NoMemory kept a b = Unit {0}

-- what the fields of a refusal say: two types are forced to be equal and differ in head; a variable and a larger type
-- that holds it are forced to be equal; in every solution the variable holds the rigid one, whose level is greater;
-- in every solution the variable passes 1,000 nodes
abbrev pub Shows : UnifyFault → List Variable → TyNode → TyNode → Type 0
Shows (Clash l r) kept a b = Forced (eqs_of kept) (mono a) (mono b) (mono l) (mono r) × Differ (drawn_of kept) (mono l) (mono r)
Shows (Occurs v t) kept a b =
    Forced (eqs_of kept) (mono a) (mono b) (var v) (mono t) × IsTrue (has v (mono t)) × IsLarger (mono t)
Shows (Escapes r v) kept a b =
    (v < length kept) × IsTrue (is_rigid (drawn_of kept) r) × (level_of (drawn_of kept) v < level_of (drawn_of kept) r)
    × ((ρ : Val) → SolvesBoth kept a b ρ → IsTrue (has r (ρ v)))
Shows (TooLarge v) kept a b = (v < length kept) × ((ρ : Val) → SolvesBoth kept a b ρ → 1000 < nodes (ρ v))
Shows NoMemory kept a b = Unit {0}
