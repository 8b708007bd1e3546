-- The text of each form of kind, of type and of field.
use Rattle.std.proofs.Common.{◌≡◌, ◌++◌, Bool, true, false, List, sym, ap, subst, ◌∙◌}
use Rattle.std.specs.Prelude.{ℕ, length, codes, decimal}
use Rattle.gh_base.specs.declared.place.TyCon.{TyCon}
use Rattle.gh_typeterm.specs.declared.kind.Kind.{Kind, map-Kind, roll-Kind, ind-Kind, fold-roll-Kind}
use Rattle.gh_typeterm.specs.declared.kind.Kind.TheVariants as k
use Rattle.gh_typeterm.specs.declared.kind.Kind.TheOpen.{Kind-F}
use Rattle.gh_typeterm.specs.declared.ty.TyNode.{TyNode}
use Rattle.gh_typeterm.specs.declared.ty.TyNode.TheVariants as f
use Rattle.gh_typeterm.proofs.Folds.{fold-Con, fold-Var, fold-App}
use Rattle.gh_core.specs.declared.types.CoreType.{CoreType, fold-roll-CoreType}
use Rattle.gh_core.specs.declared.types.CoreType.TheVariants as t
use Rattle.gh_core.specs.declared.types.CoreType.TheOpen.{CoreType-F}
use Rattle.gh_core.specs.Levels.{Scope, within, level_of}
use Rattle.gh_core.specs.Text.{Table, tycon_text, kind_step, kind_text, applied, type_binder, type_step, spine_text, field_step, field_text}

pub kind_Star : kind_text k.Star ≡ codes "*"
kind_Star = ap kind_text (sym k.rolls-Star) ∙ fold-roll-Kind (List ℕ) kind_step Kind-F.Star

pub kind_Arrow : (a b : Kind) → kind_text (k.Arrow a b) ≡ codes "(=> " ++ (kind_text a ++ (codes " " ++ (kind_text b ++ codes ")")))
kind_Arrow a b = ap kind_text (sym (k.rolls-Arrow a b)) ∙ fold-roll-Kind (List ℕ) kind_step (Kind-F.Arrow a b)

module _ (P : Kind → Type 0) (star : P k.Star) (arrow : (a b : Kind) → P a → P b → P (k.Arrow a b)) where
  kind_layer : (y : Kind-F ((u : Kind) × P u)) → P (roll-Kind (map-Kind ((u : Kind) × P u) Kind (λ e. e.0) y))
  kind_layer Kind-F.Star = subst P (sym k.rolls-Star) star
  kind_layer (Kind-F.Arrow a b) = subst P (sym (k.rolls-Arrow a.0 b.0)) (arrow a.0 b.0 a.1 b.1)

  -- what holds of `*`, and of an arrow where it holds of its parts, holds of each kind
  pub kind_induction : (u : Kind) → P u
  kind_induction = ind-Kind P (λ x y is. subst (λ z. P (roll-Kind z)) is (kind_layer y))

abbrev Spine : Type 0
Spine = Bool → Scope → List ℕ

pub type_Var : (table : Table) (x : ℕ) (inside : Bool) (ts : Scope) → spine_text table (t.Var x) inside ts ≡ codes "t" ++ decimal (level_of ts x)
type_Var table x inside ts = ap (λ u. spine_text table u inside ts) (sym (t.rolls-Var x)) ∙ ap (λ s. s inside ts) (fold-roll-CoreType Spine (type_step table) (CoreType-F.Var x))

pub type_Con : (table : Table) (c : TyCon) (inside : Bool) (ts : Scope) → spine_text table (t.Con c) inside ts ≡ tycon_text table c
type_Con table c inside ts = ap (λ u. spine_text table u inside ts) (sym (t.rolls-Con c)) ∙ ap (λ s. s inside ts) (fold-roll-CoreType Spine (type_step table) (CoreType-F.Con c))

pub type_App : (table : Table) (g x : CoreType) (inside : Bool) (ts : Scope) → spine_text table (t.App g x) inside ts ≡ applied inside (spine_text table g true ts) (spine_text table x false ts)
type_App table g x inside ts = ap (λ u. spine_text table u inside ts) (sym (t.rolls-App g x)) ∙ ap (λ s. s inside ts) (fold-roll-CoreType Spine (type_step table) (CoreType-F.App g x))

pub type_Forall : (table : Table) (x : ℕ) (kind : Kind) (b : CoreType) (inside : Bool) (ts : Scope)
    → spine_text table (t.Forall x kind b) inside ts ≡ codes "(forall " ++ (type_binder (length ts) kind ++ (codes " " ++ (spine_text table b false (within ts x) ++ codes ")")))
type_Forall table x kind b inside ts =
    ap (λ u. spine_text table u inside ts) (sym (t.rolls-Forall x kind b)) ∙ ap (λ s. s inside ts) (fold-roll-CoreType Spine (type_step table) (CoreType-F.Forall x kind b))

pub type_Any : (table : Table) (kind : Kind) (inside : Bool) (ts : Scope) → spine_text table (t.Any kind) inside ts ≡ codes "(any " ++ (kind_text kind ++ codes ")")
type_Any table kind inside ts = ap (λ u. spine_text table u inside ts) (sym (t.rolls-Any kind)) ∙ ap (λ s. s inside ts) (fold-roll-CoreType Spine (type_step table) (CoreType-F.Any kind))

pub field_Con : (table : Table) (c : TyCon) (inside : Bool) → field_text table (f.Con c) inside ≡ tycon_text table c
field_Con table c inside = ap (λ s. s inside) (fold-Con (Bool → List ℕ) (field_step table) c)

pub field_Var : (table : Table) (x : ℕ) (inside : Bool) → field_text table (f.Var x) inside ≡ codes "t" ++ decimal x
field_Var table x inside = ap (λ s. s inside) (fold-Var (Bool → List ℕ) (field_step table) x)

pub field_App : (table : Table) (g x : TyNode) (inside : Bool) → field_text table (f.App g x) inside ≡ applied inside (field_text table g true) (field_text table x false)
field_App table g x inside = ap (λ s. s inside) (fold-App (Bool → List ℕ) (field_step table) g x)
