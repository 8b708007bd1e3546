-- Types as plain trees, and what valuations of their variables make of them (Damas and Milner; Robinson).
use Rattle.std.specs.Prelude.{ℕ, suc, ◌+◌, Bool, false, eqb, ◌||◌}
use Rattle.gh_base.specs.declared.place.TyCon.{TyCon}
use Rattle.gh_typeterm.specs.declared.ty.TyNode.{TyNode, fold-TyNode}
use Rattle.gh_typeterm.specs.declared.ty.TyNode.TheOpen.{TyNode-F}

pub data Mono : Type 0 where
  con : (c : TyCon) → Mono
  var : (v : ℕ) → Mono
  app : (f a : Mono) → Mono
  name : (n : ℕ) → Mono

-- a type for each variable
abbrev pub Val : Type 0
Val = ℕ → Mono

-- the type with each variable replaced by its value
abbrev pub inst : Val → Mono → Mono
inst ρ (con c) = con c
inst ρ (var v) = ρ v
inst ρ (app f a) = app (inst ρ f) (inst ρ a)
inst ρ (name n) = name n

-- that a variable occurs
abbrev pub has : ℕ → Mono → Bool
has v (con c) = false
has v (var w) = eqb v w
has v (app f a) = has v f || has v a
has v (name n) = false

-- the number of nodes
abbrev pub nodes : Mono → ℕ
nodes (con c) = 1
nodes (var v) = 1
nodes (app f a) = suc (nodes f + nodes a)
nodes (name n) = 1

-- what a type is at its head
pub data Head : Type 0 where
  a_con : (c : TyCon) → Head
  a_var : (v : ℕ) → Head
  an_app : Head
  a_name : (n : ℕ) → Head

abbrev pub head_of : Mono → Head
head_of (con c) = a_con c
head_of (var v) = a_var v
head_of (app f a) = an_app
head_of (name n) = a_name n

-- the plain tree of a type term of the program
abbrev pub mono_step : TyNode-F Mono → Mono
mono_step (TyNode-F.Con c) = con c
mono_step (TyNode-F.Var v) = var v
mono_step (TyNode-F.App f a) = app f a
mono_step (TyNode-F.Name n) = name n

abbrev pub mono : TyNode → Mono
mono = fold-TyNode Mono mono_step
