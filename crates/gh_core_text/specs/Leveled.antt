-- Types with their variables as levels, and which of them a table's texts tell apart.
use Rattle.std.specs.Prelude.{◌≡◌, ℕ, ◌⊎◌, []}
use Rattle.gh_base.specs.declared.place.TyCon.{TyCon}
use Rattle.gh_typeterm.specs.declared.kind.Kind.{Kind}
use Rattle.gh_core.specs.declared.types.CoreType.{CoreType, fold-CoreType}
use Rattle.gh_core.specs.declared.types.CoreType.TheOpen.{CoreType-F}
use Rattle.gh_core.specs.Levels.{Scope, within, level_of}
use Rattle.gh_core.specs.Text.{Table, tycon_text}
use Rattle.gh_core_text.specs.Shown.{Shown, var, con, app, all, any}

pub data Leveled : Type 0 where
  l_var : (level : ℕ) → Leveled
  l_con : (c : TyCon) → Leveled
  l_app : (f x : Leveled) → Leveled
  l_all : (kind : Kind) (body : Leveled) → Leveled
  l_any : (kind : Kind) → Leveled

abbrev pub leveled_step : CoreType-F (Scope → Leveled) → Scope → Leveled
leveled_step (CoreType-F.Var x) ts = l_var (level_of ts x)
leveled_step (CoreType-F.Con c) ts = l_con c
leveled_step (CoreType-F.App f x) ts = l_app (f ts) (x ts)
leveled_step (CoreType-F.Forall x kind body) ts = l_all kind (body (within ts x))
leveled_step (CoreType-F.Any kind) ts = l_any kind

abbrev pub leveled : CoreType → Scope → Leveled
leveled = fold-CoreType (Scope → Leveled) leveled_step

-- with its constructors by their texts
abbrev pub named : Table → Leveled → Shown
named table (l_var l) = var l
named table (l_con c) = con (tycon_text table c)
named table (l_app f x) = app (named table f) (named table x)
named table (l_all k b) = all k (named table b)
named table (l_any k) = any k

-- a constructor stands in a type
abbrev pub HasCon : TyCon → Leveled → Type 0
HasCon c (l_var l) = ⊥
HasCon c (l_con d) = c ≡ d
HasCon c (l_app f x) = HasCon c f ⊎ HasCon c x
HasCon c (l_all k b) = HasCon c b
HasCon c (l_any k) = ⊥

-- the texts of this table tell the constructors of two types apart
abbrev pub AreTold : Table → CoreType → CoreType → Type 0
AreTold table a b = (c d : TyCon) → HasCon c (leveled a []) → HasCon d (leveled b []) → tycon_text table c ≡ tycon_text table d → c ≡ d
