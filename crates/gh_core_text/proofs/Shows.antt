-- The text of a type is that of the type as its text shows it.
use Rattle.std.proofs.Common.{◌≡◌, Bool, true, false, ℕ, suc, ◌++◌, [], ◌∷◌, sym, ap, subst, ◌∙◌, length, arith}
use Rattle.std.specs.Prelude.{codes}
use Rattle.std.proofs.lemmas.List.{length-append}
use Rattle.gh_base.specs.declared.place.TyCon.{TyCon}
use Rattle.gh_typeterm.specs.declared.kind.Kind.{Kind}
use Rattle.gh_core.specs.declared.types.CoreType.{CoreType, map-CoreType, roll-CoreType, ind-CoreType, fold-roll-CoreType}
use Rattle.gh_core.specs.declared.types.CoreType.TheVariants as t
use Rattle.gh_core.specs.declared.types.CoreType.TheOpen.{CoreType-F}
use Rattle.gh_core.specs.Levels.{Scope, within, level_of}
use Rattle.gh_core.specs.Text.{Table, tycon_text, applied, type_binder, spine_text, type_text}
use Rattle.gh_core_text.specs.Shown.{Shown, var, con, app, all, any, shown, shown_step, shown_text, IsNamed}
use Rattle.gh_core_text.proofs.TypeForms.{type_Var, type_Con, type_App, type_Forall, type_Any}
use Rattle.gh_core_text.proofs.TypesRead.{shown_text-injective}

module _ (P : CoreType → Type 0)
    (on_var : (x : ℕ) → P (t.Var x)) (on_con : (c : TyCon) → P (t.Con c)) (on_app : (f y : CoreType) → P f → P y → P (t.App f y))
    (on_all : (x : ℕ) (k : Kind) (b : CoreType) → P b → P (t.Forall x k b)) (on_any : (k : Kind) → P (t.Any k)) where
  type_layer : (y : CoreType-F ((u : CoreType) × P u)) → P (roll-CoreType (map-CoreType ((u : CoreType) × P u) CoreType (λ e. e.0) y))
  type_layer (CoreType-F.Var x) = subst P (sym (t.rolls-Var x)) (on_var x)
  type_layer (CoreType-F.Con c) = subst P (sym (t.rolls-Con c)) (on_con c)
  type_layer (CoreType-F.App f y) = subst P (sym (t.rolls-App f.0 y.0)) (on_app f.0 y.0 f.1 y.1)
  type_layer (CoreType-F.Forall x k b) = subst P (sym (t.rolls-Forall x k b.0)) (on_all x k b.0 b.1)
  type_layer (CoreType-F.Any k) = subst P (sym (t.rolls-Any k)) (on_any k)

  -- what holds of each leaf, and of each other form where it holds of its parts, holds of each type
  pub type_induction : (u : CoreType) → P u
  type_induction = ind-CoreType P (λ x y is. subst (λ z. P (roll-CoreType z)) is (type_layer y))

module _ (table : Table) where
  pub shown-Var : (x : ℕ) (ts : Scope) → shown table (t.Var x) ts ≡ var (level_of ts x)
  shown-Var x ts = ap (λ u. shown table u ts) (sym (t.rolls-Var x)) ∙ ap (λ s. s ts) (fold-roll-CoreType (Scope → Shown) (shown_step table) (CoreType-F.Var x))

  pub shown-Con : (c : TyCon) (ts : Scope) → shown table (t.Con c) ts ≡ con (tycon_text table c)
  shown-Con c ts = ap (λ u. shown table u ts) (sym (t.rolls-Con c)) ∙ ap (λ s. s ts) (fold-roll-CoreType (Scope → Shown) (shown_step table) (CoreType-F.Con c))

  pub shown-App : (f y : CoreType) (ts : Scope) → shown table (t.App f y) ts ≡ app (shown table f ts) (shown table y ts)
  shown-App f y ts = ap (λ u. shown table u ts) (sym (t.rolls-App f y)) ∙ ap (λ s. s ts) (fold-roll-CoreType (Scope → Shown) (shown_step table) (CoreType-F.App f y))

  pub shown-Forall : (x : ℕ) (k : Kind) (b : CoreType) (ts : Scope) → shown table (t.Forall x k b) ts ≡ all k (shown table b (within ts x))
  shown-Forall x k b ts =
      ap (λ u. shown table u ts) (sym (t.rolls-Forall x k b)) ∙ ap (λ s. s ts) (fold-roll-CoreType (Scope → Shown) (shown_step table) (CoreType-F.Forall x k b))

  pub shown-Any : (k : Kind) (ts : Scope) → shown table (t.Any k) ts ≡ any k
  shown-Any k ts = ap (λ u. shown table u ts) (sym (t.rolls-Any k)) ∙ ap (λ s. s ts) (fold-roll-CoreType (Scope → Shown) (shown_step table) (CoreType-F.Any k))

  length_within : (ts : Scope) (x : ℕ) → length (within ts x) ≡ suc (length ts)
  length_within ts x = let e = length-append ts ((x, length ts) ∷ []) in omega arith

  pub spine_shown : (u : CoreType) (i : Bool) (ts : Scope) → spine_text table u i ts ≡ shown_text (shown table u ts) i (length ts)
  spine_shown = type_induction (λ u. (i : Bool) (ts : Scope) → spine_text table u i ts ≡ shown_text (shown table u ts) i (length ts))
      (λ x i ts. type_Var table x i ts ∙ sym (ap (λ s. shown_text s i (length ts)) (shown-Var x ts)))
      (λ c i ts. type_Con table c i ts ∙ sym (ap (λ s. shown_text s i (length ts)) (shown-Con c ts)))
      (λ f y p q i ts. type_App table f y i ts ∙ (λ j. applied i (p true ts j) (q false ts j)) ∙ sym (ap (λ s. shown_text s i (length ts)) (shown-App f y ts)))
      (λ x k b p i ts. type_Forall table x k b i ts
      ∙ ap (λ z. codes "(forall " ++ (type_binder (length ts) k ++ (codes " " ++ (z ++ codes ")")))) (p false (within ts x) ∙ ap (λ n. shown_text (shown table b (within ts x)) false n) (length_within ts x))
      ∙ sym (ap (λ s. shown_text s i (length ts)) (shown-Forall x k b ts)))
      (λ k i ts. type_Any table k i ts ∙ sym (ap (λ s. shown_text s i (length ts)) (shown-Any k ts)))

  pub type_text-injective : (a b : CoreType) (ts : Scope) → IsNamed (shown table a ts) → IsNamed (shown table b ts) → type_text table a ts ≡ type_text table b ts → shown table a ts ≡ shown table b ts
  type_text-injective a b ts g h e =
      shown_text-injective (shown table a ts) (shown table b ts) (length ts) g h (sym (spine_shown a false ts) ∙ e ∙ spine_shown b false ts)
