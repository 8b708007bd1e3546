-- The work on one equation, step by step.
use Rattle.std.specs.Prelude.{◌≡◌, ℕ, ◌<◌, ◌≤◌, ◌^◌, false, IsTrue, List, length, Some, None, ◌⊎◌}
use Rattle.gh_typeterm.specs.declared.ty.TyNode.{TyNode}
use Rattle.gh_unify.specs.Types.{Mono, var, Val, inst, has, nodes, head_of, mono}
use Rattle.gh_unify.specs.Kept.{Eqs, Drawn, is_rigid, level_of, drawn_of, eqs_of, Solves, InScope, InSize}
use Rattle.gh_unify.specs.Causes.{Forced, IsFixed, Shows, IsLarger}
use Rattle.gh_unify.specs.Tables.{best, with_solved}
use Rattle.gh_unify.specs.declared.table.Variable.{Variable}
use Rattle.gh_unify.specs.declared.unifier.UnifyFault.{UnifyFault}
use Rattle.gh_unify.specs.declared.unifier.UnifyFault.TheVariants.{Clash, Occurs, Escapes, TooLarge, NoMemory}

-- each variable of the type was drawn and is unsolved
abbrev pub IsFree : Eqs → Drawn → Mono → Type 0
IsFree E D t = (w : ℕ) → IsTrue (has w t) → (E w ≡ None) × (w < length D)

abbrev pub AreFree : List Variable → TyNode → Type 0
AreFree kept t = IsFree (eqs_of kept) (drawn_of kept) (mono t)

-- the types hold no solved variable, and no rigid variable is solved
pub record IsTidy (E : Eqs) (D : Drawn) : Type 0 where
  pub resolved : (v : ℕ) (t : Mono) → E v ≡ Some t → IsFree E D t
  pub rigid : (v : ℕ) → IsTrue (is_rigid D v) → E v ≡ None

-- what a unifier keeps at the end of each call
pub record IsSettled (kept : List Variable) : Type 0 where
  pub tidy : IsTidy (eqs_of kept) (drawn_of kept)
  pub scope : InScope (drawn_of kept) (best (eqs_of kept))
  pub size : InSize (drawn_of kept) (best (eqs_of kept))
  pub count : length kept < 2 ^ 32

-- x and y are parts of a and b in the same place, and differ at their heads
pub record Differs (a b x y : Mono) : Type 0 where
  pub heads : head_of x ≡ head_of y → ⊥
  pub forced : (E : Eqs) (s t : Mono) → Forced E s t a b → Forced E s t x y
  pub left : (v : ℕ) → IsTrue (has v x) → IsTrue (has v a)
  pub right : (v : ℕ) → IsTrue (has v y) → IsTrue (has v b)

-- the one type is this variable, and the other is this type
abbrev pub Sides : TyNode → TyNode → ℕ → TyNode → Type 0
Sides x y v t = ((mono x ≡ var v) × (mono y ≡ mono t)) ⊎ ((mono y ≡ var v) × (mono x ≡ mono t))

abbrev pub IsBound : List Variable → TyNode → TyNode → List Variable → Type 0
IsBound kept x y made =
    (v : ℕ) × (t : TyNode) × Sides x y v t × (v < length kept) × (is_rigid (drawn_of kept) v ≡ false) × (has v (mono t) ≡ false)
    × (made ≡ with_solved kept v t)

abbrev pub Stuck : UnifyFault → ℕ → TyNode → Type 0
Stuck (Clash l r) v t = ⊥
Stuck (Occurs w u) v t = (w ≡ v) × (u ≡ t) × IsTrue (has v (mono t)) × IsLarger (mono t)
Stuck (Escapes r w) v t = ⊥
Stuck (TooLarge w) v t = ⊥
Stuck NoMemory v t = Unit {0}

abbrev pub Refused : UnifyFault → List Variable → TyNode → TyNode → Type 0
Refused (Clash l r) kept x y = (l ≡ x) × (r ≡ y) × IsFixed (drawn_of kept) (mono x) × IsFixed (drawn_of kept) (mono y)
Refused (Occurs v t) kept x y = Sides x y v t × IsTrue (has v (mono t)) × IsLarger (mono t)
Refused (Escapes r v) kept x y = ⊥
Refused (TooLarge v) kept x y = ⊥
Refused NoMemory kept x y = Unit {0}

-- the refusals of an equation that has no solution
abbrev pub Blocked : UnifyFault → List Variable → TyNode → TyNode → Type 0
Blocked (Clash l r) kept a b = Shows (Clash l r) kept a b
Blocked (Occurs v t) kept a b = Shows (Occurs v t) kept a b
Blocked (Escapes r v) kept a b = ⊥
Blocked (TooLarge v) kept a b = ⊥
Blocked NoMemory kept a b = Unit {0}

-- E is what E0 and a0 = b0 force, as far as a = b is left to be solved
pub record Reaches (E0 : Eqs) (D : Drawn) (a0 b0 : Mono) (E : Eqs) (a b : Mono) : Type 0 where
  pub tidy : IsTidy E D
  pub kept : (v : ℕ) (t : Mono) → E v ≡ Some t → Forced E0 a0 b0 (var v) t
  pub given : Forced E0 a0 b0 a b
  pub back : (ρ : Val) → Solves E D ρ → inst ρ a ≡ inst ρ b → Solves E0 D ρ × (inst ρ a0 ≡ inst ρ b0)
  pub left : IsFree E D a
  pub right : IsFree E D b

-- E is what E0 and a0 = b0 force
pub record Solved (E0 : Eqs) (D : Drawn) (a0 b0 : Mono) (E : Eqs) : Type 0 where
  pub tidy : IsTidy E D
  pub kept : (v : ℕ) (t : Mono) → E v ≡ Some t → Forced E0 a0 b0 (var v) t
  pub back : (ρ : Val) → Solves E D ρ → Solves E0 D ρ × (inst ρ a0 ≡ inst ρ b0)

abbrev pub Reached : List Variable → TyNode → TyNode → List Variable → Type 0
Reached kept a b made = Solved (eqs_of kept) (drawn_of kept) (mono a) (mono b) (eqs_of made)

-- the type of v holds the rigid variable r of a greater level
pub record Leaves (kept : List Variable) (r v : ℕ) : Type 0 where
  pub drawn : v < length kept
  pub rigid : IsTrue (is_rigid (drawn_of kept) r)
  pub higher : level_of (drawn_of kept) v < level_of (drawn_of kept) r
  pub held : IsTrue (has r (best (eqs_of kept) v))

-- the type of v passes 1,000 nodes
pub record Exceeds (kept : List Variable) (v : ℕ) : Type 0 where
  pub drawn : v < length kept
  pub large : 1000 < nodes (best (eqs_of kept) v)

-- the work on left = right that began with one table and has come to another, with a = b left
pub record Goes (table kept : List Variable) (left right a b : TyNode) : Type 0 where
  pub drawn : drawn_of kept ≡ drawn_of table
  pub reaches : Reaches (eqs_of table) (drawn_of table) (mono left) (mono right) (eqs_of kept) (mono a) (mono b)

-- the type of v holds no rigid variable of a greater level
abbrev pub Stays : List Variable → ℕ → Type 0
Stays kept v =
    (r : ℕ) → IsTrue (is_rigid (drawn_of kept) r) → IsTrue (has r (best (eqs_of kept) v)) → level_of (drawn_of kept) r ≤ level_of (drawn_of kept) v
