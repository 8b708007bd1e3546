-- Types up to the numbers of their bound variables.
use Rattle.std.specs.Prelude.{◌≡◌, ℕ, suc, ◌==◌, cond, List, [], ◌∷◌}
use Rattle.gh_base.specs.declared.place.TyCon.{TyCon}
use Rattle.gh_typeterm.specs.declared.kind.Kind.{Kind}
use Rattle.gh_core.specs.declared.types.CoreType.{CoreType, fold-CoreType}
use Rattle.gh_core.specs.declared.types.CoreType.TheOpen.{CoreType-F}

-- a type without names of bound variables (de Bruijn): a bound variable is the number of binders between it and its own
pub data Nameless : Type 0 where
  bound : (index : ℕ) → Nameless
  free : (name : ℕ) → Nameless
  con : (c : TyCon) → Nameless
  applied : (f x : Nameless) → Nameless
  forall : (kind : Kind) (body : Nameless) → Nameless
  any : (kind : Kind) → Nameless

-- one binder more stands between a bound variable and its own
abbrev pub further : Nameless → Nameless
further (bound index) = bound (suc index)
further (free name) = free name
further (con c) = con c
further (applied f x) = applied f x
further (forall kind body) = forall kind body
further (any kind) = any kind

-- a variable under these binders, the nearest first
abbrev pub nameless_var : List ℕ → ℕ → Nameless
nameless_var [] name = free name
nameless_var (binder ∷ binders) name = cond (binder == name) (bound 0) (further (nameless_var binders name))

abbrev pub nameless_step : CoreType-F (List ℕ → Nameless) → List ℕ → Nameless
nameless_step (CoreType-F.Var name) binders = nameless_var binders name
nameless_step (CoreType-F.Con c) binders = con c
nameless_step (CoreType-F.App f x) binders = applied (f binders) (x binders)
nameless_step (CoreType-F.Forall name kind body) binders = forall kind (body (name ∷ binders))
nameless_step (CoreType-F.Any kind) binders = any kind

-- a type under binders, without names of bound variables
abbrev pub nameless : CoreType → List ℕ → Nameless
nameless = fold-CoreType (List ℕ → Nameless) nameless_step

-- the types are equal up to the names of bound variables
abbrev pub IsSame : CoreType → CoreType → Type 0
IsSame a b = nameless a [] ≡ nameless b []
