-- Folds over type terms, node by node, and induction over type terms.
use Rattle.std.proofs.Common.{◌≡◌, ℕ, ◌∙◌, sym, ap, subst}
use Rattle.gh_base.specs.declared.place.TyCon.{TyCon}
use Rattle.gh_typeterm.specs.declared.ty.TyNode.{TyNode, map-TyNode, out-TyNode, roll-TyNode, fold-TyNode, fold-roll-TyNode, ind-TyNode}
use Rattle.gh_typeterm.specs.declared.ty.TyNode.TheVariants as t
use Rattle.gh_typeterm.specs.declared.ty.TyNode.TheOpen.{TyNode-F}

module _ (A : Type 0) (step : TyNode-F A → A) where
  pub fold-Con : (c : TyCon) → fold-TyNode A step (t.Con c) ≡ step (TyNode-F.Con c)
  fold-Con c = ap (fold-TyNode A step) (sym (t.rolls-Con c)) ∙ fold-roll-TyNode A step (TyNode-F.Con c)

  pub fold-Var : (v : ℕ) → fold-TyNode A step (t.Var v) ≡ step (TyNode-F.Var v)
  fold-Var v = ap (fold-TyNode A step) (sym (t.rolls-Var v)) ∙ fold-roll-TyNode A step (TyNode-F.Var v)

  pub fold-App : (f x : TyNode) → fold-TyNode A step (t.App f x) ≡ step (TyNode-F.App (fold-TyNode A step f) (fold-TyNode A step x))
  fold-App f x = ap (fold-TyNode A step) (sym (t.rolls-App f x)) ∙ fold-roll-TyNode A step (TyNode-F.App f x)

  pub fold-Name : (n : ℕ) → fold-TyNode A step (t.Name n) ≡ step (TyNode-F.Name n)
  fold-Name n = ap (fold-TyNode A step) (sym (t.rolls-Name n)) ∙ fold-roll-TyNode A step (TyNode-F.Name n)

module _ (P : TyNode → Type 0)
    (con : (c : TyCon) → P (t.Con c)) (var : (v : ℕ) → P (t.Var v))
    (app : (f x : TyNode) → P f → P x → P (t.App f x)) (name : (n : ℕ) → P (t.Name n)) where
  layer : (y : TyNode-F ((u : TyNode) × P u)) → P (roll-TyNode (map-TyNode ((u : TyNode) × P u) TyNode (λ e. e.0) y))
  layer (TyNode-F.Con c) = subst P (sym (t.rolls-Con c)) (con c)
  layer (TyNode-F.Var v) = subst P (sym (t.rolls-Var v)) (var v)
  layer (TyNode-F.App f x) = subst P (sym (t.rolls-App f.0 x.0)) (app f.0 x.0 f.1 x.1)
  layer (TyNode-F.Name n) = subst P (sym (t.rolls-Name n)) (name n)

  -- what holds of each leaf, and of an application where it holds of its parts, holds of each term
  pub term_induction : (term : TyNode) → P term
  term_induction = ind-TyNode P (λ x y is. subst (λ z. P (roll-TyNode z)) is (layer y))

-- each term is a node of one of four forms
pub term_cases : (P : TyNode → Type 0)
    → ((c : TyCon) → P (t.Con c)) → ((v : ℕ) → P (t.Var v)) → ((f x : TyNode) → P (t.App f x)) → ((n : ℕ) → P (t.Name n))
    → (term : TyNode) → P term
term_cases P con var app name = term_induction P con var (λ f x p q. app f x) name

-- a function that gives at each node what a step makes of its parts is the fold of that step
pub fold_unique : (A : Type 0) (step : TyNode-F A → A) (h : TyNode → A)
    → ((c : TyCon) → h (t.Con c) ≡ step (TyNode-F.Con c)) → ((v : ℕ) → h (t.Var v) ≡ step (TyNode-F.Var v))
    → ((f x : TyNode) → h (t.App f x) ≡ step (TyNode-F.App (h f) (h x))) → ((n : ℕ) → h (t.Name n) ≡ step (TyNode-F.Name n))
    → (term : TyNode) → h term ≡ fold-TyNode A step term
fold_unique A step h con var app name = term_induction (λ u. h u ≡ fold-TyNode A step u)
    (λ c. con c ∙ sym (fold-Con A step c)) (λ v. var v ∙ sym (fold-Var A step v))
    (λ f x p q. app f x ∙ (λ i. step (TyNode-F.App (p i) (q i))) ∙ sym (fold-App A step f x)) (λ n. name n ∙ sym (fold-Name A step n))

-- an application determines its parts
pub App-injective : (f x g y : TyNode) → t.App f x ≡ t.App g y → (f ≡ g) × (x ≡ y)
App-injective f x g y e =
    let opened : TyNode-F.App f x ≡ TyNode-F.App g y = sym (t.outs-App f x) ∙ ap out-TyNode e ∙ t.outs-App g y in
    (cc, cc)

pub ruleset folds = (fold-Con, fold-Var, fold-App, fold-Name)
