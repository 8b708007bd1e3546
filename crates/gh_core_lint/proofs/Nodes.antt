-- The types of the check, form by form.
use Rattle.std.proofs.Common.{◌≡◌, ℕ, refl, sym, ap, ◌∙◌, subst, false, IsTrue}
use Rattle.std.proofs.lemmas.Bool.{false≢true}
use Rattle.gh_base.specs.declared.place.TyCon.{TyCon}
use Rattle.gh_typeterm.specs.declared.kind.Kind.{Kind}
use Rattle.gh_core.specs.SameType.{Nameless, bound, free, con, applied, forall, any}
use Rattle.gh_core_lint.specs.declared.types.Node.{Node, map-Node, roll-Node, ind-Node, fold-roll-Node}
use Rattle.gh_core_lint.specs.declared.types.Node.TheVariants as n
use Rattle.gh_core_lint.specs.declared.types.Node.TheOpen.{Node-F}
use Rattle.gh_core_lint.specs.Types.{type_at, type_step}

pub at-Bound : (i : ℕ) → type_at (n.Bound i) ≡ bound i
at-Bound i = ap type_at (sym (n.rolls-Bound i)) ∙ fold-roll-Node Nameless type_step (Node-F.Bound i)

pub at-Free : (l : ℕ) → type_at (n.Free l) ≡ free l
at-Free l = ap type_at (sym (n.rolls-Free l)) ∙ fold-roll-Node Nameless type_step (Node-F.Free l)

pub at-Con : (c : TyCon) → type_at (n.Con c) ≡ con c
at-Con c = ap type_at (sym (n.rolls-Con c)) ∙ fold-roll-Node Nameless type_step (Node-F.Con c)

pub at-App : (f : Node) (x : Node) → type_at (n.App f x) ≡ applied (type_at f) (type_at x)
at-App f x = ap type_at (sym (n.rolls-App f x)) ∙ fold-roll-Node Nameless type_step (Node-F.App f x)

pub at-Forall : (k : Kind) (b : Node) → type_at (n.Forall k b) ≡ forall k (type_at b)
at-Forall k b = ap type_at (sym (n.rolls-Forall k b)) ∙ fold-roll-Node Nameless type_step (Node-F.Forall k b)

pub at-Any : (k : Kind) → type_at (n.Any k) ≡ any k
at-Any k = ap type_at (sym (n.rolls-Any k)) ∙ fold-roll-Node Nameless type_step (Node-F.Any k)

pub ruleset forms = (at-Bound, at-Free, at-Con, at-App, at-Forall, at-Any)

module _ (P : Node → Type 0)
    (on_bound : (i : ℕ) → P (n.Bound i))
    (on_free : (l : ℕ) → P (n.Free l))
    (on_con : (c : TyCon) → P (n.Con c))
    (on_app : (f : Node) (x : Node) → P (n.App f x))
    (on_forall : (k : Kind) (b : Node) → P (n.Forall k b))
    (on_any : (k : Kind) → P (n.Any k)) where
  layer : (y : Node-F ((u : Node) × P u)) → P (roll-Node (map-Node ((u : Node) × P u) Node (λ e. e.0) y))
  layer (Node-F.Bound i) = subst P (sym (n.rolls-Bound i)) (on_bound i)
  layer (Node-F.Free l) = subst P (sym (n.rolls-Free l)) (on_free l)
  layer (Node-F.Con c) = subst P (sym (n.rolls-Con c)) (on_con c)
  layer (Node-F.App f x) = subst P (sym (n.rolls-App f.0 x.0)) (on_app f.0 x.0)
  layer (Node-F.Forall k b) = subst P (sym (n.rolls-Forall k b.0)) (on_forall k b.0)
  layer (Node-F.Any k) = subst P (sym (n.rolls-Any k)) (on_any k)

  -- each type is of one of six forms
  pub node_cases : (u : Node) → P u
  node_cases = ind-Node P (λ x y is. subst (λ z. P (roll-Node z)) is (layer y))

pub apart_Bound : (i : ℕ) (u : Node) → ((i2 : ℕ) → u ≡ n.Bound i2 → ⊥) → type_at (n.Bound i) ≡ type_at u → ⊥
apart_Bound i = node_cases (λ u. ((i2 : ℕ) → u ≡ n.Bound i2 → ⊥) → type_at (n.Bound i) ≡ type_at u → ⊥)
    (λ i1 other e. other i1 refl)
    (λ l1 other e. let h = sym (at-Bound i) ∙ e ∙ at-Free l1 in absurd (cc))
    (λ c1 other e. let h = sym (at-Bound i) ∙ e ∙ at-Con c1 in absurd (cc))
    (λ f1 x1 other e. let h = sym (at-Bound i) ∙ e ∙ at-App f1 x1 in absurd (cc))
    (λ k1 b1 other e. let h = sym (at-Bound i) ∙ e ∙ at-Forall k1 b1 in absurd (cc))
    (λ k1 other e. let h = sym (at-Bound i) ∙ e ∙ at-Any k1 in absurd (cc))

pub apart_Free : (l : ℕ) (u : Node) → ((l2 : ℕ) → u ≡ n.Free l2 → ⊥) → type_at (n.Free l) ≡ type_at u → ⊥
apart_Free l = node_cases (λ u. ((l2 : ℕ) → u ≡ n.Free l2 → ⊥) → type_at (n.Free l) ≡ type_at u → ⊥)
    (λ i1 other e. let h = sym (at-Free l) ∙ e ∙ at-Bound i1 in absurd (cc))
    (λ l1 other e. other l1 refl)
    (λ c1 other e. let h = sym (at-Free l) ∙ e ∙ at-Con c1 in absurd (cc))
    (λ f1 x1 other e. let h = sym (at-Free l) ∙ e ∙ at-App f1 x1 in absurd (cc))
    (λ k1 b1 other e. let h = sym (at-Free l) ∙ e ∙ at-Forall k1 b1 in absurd (cc))
    (λ k1 other e. let h = sym (at-Free l) ∙ e ∙ at-Any k1 in absurd (cc))

pub apart_Con : (c : TyCon) (u : Node) → ((c2 : TyCon) → u ≡ n.Con c2 → ⊥) → type_at (n.Con c) ≡ type_at u → ⊥
apart_Con c = node_cases (λ u. ((c2 : TyCon) → u ≡ n.Con c2 → ⊥) → type_at (n.Con c) ≡ type_at u → ⊥)
    (λ i1 other e. let h = sym (at-Con c) ∙ e ∙ at-Bound i1 in absurd (cc))
    (λ l1 other e. let h = sym (at-Con c) ∙ e ∙ at-Free l1 in absurd (cc))
    (λ c1 other e. other c1 refl)
    (λ f1 x1 other e. let h = sym (at-Con c) ∙ e ∙ at-App f1 x1 in absurd (cc))
    (λ k1 b1 other e. let h = sym (at-Con c) ∙ e ∙ at-Forall k1 b1 in absurd (cc))
    (λ k1 other e. let h = sym (at-Con c) ∙ e ∙ at-Any k1 in absurd (cc))

pub apart_App : (f : Node) (x : Node) (u : Node) → ((f2 : Node) (x2 : Node) → u ≡ n.App f2 x2 → ⊥) → type_at (n.App f x) ≡ type_at u → ⊥
apart_App f x = node_cases (λ u. ((f2 : Node) (x2 : Node) → u ≡ n.App f2 x2 → ⊥) → type_at (n.App f x) ≡ type_at u → ⊥)
    (λ i1 other e. let h = sym (at-App f x) ∙ e ∙ at-Bound i1 in absurd (cc))
    (λ l1 other e. let h = sym (at-App f x) ∙ e ∙ at-Free l1 in absurd (cc))
    (λ c1 other e. let h = sym (at-App f x) ∙ e ∙ at-Con c1 in absurd (cc))
    (λ f1 x1 other e. other f1 x1 refl)
    (λ k1 b1 other e. let h = sym (at-App f x) ∙ e ∙ at-Forall k1 b1 in absurd (cc))
    (λ k1 other e. let h = sym (at-App f x) ∙ e ∙ at-Any k1 in absurd (cc))

pub apart_Forall : (k : Kind) (b : Node) (u : Node) → ((k2 : Kind) (b2 : Node) → u ≡ n.Forall k2 b2 → ⊥) → type_at (n.Forall k b) ≡ type_at u → ⊥
apart_Forall k b = node_cases (λ u. ((k2 : Kind) (b2 : Node) → u ≡ n.Forall k2 b2 → ⊥) → type_at (n.Forall k b) ≡ type_at u → ⊥)
    (λ i1 other e. let h = sym (at-Forall k b) ∙ e ∙ at-Bound i1 in absurd (cc))
    (λ l1 other e. let h = sym (at-Forall k b) ∙ e ∙ at-Free l1 in absurd (cc))
    (λ c1 other e. let h = sym (at-Forall k b) ∙ e ∙ at-Con c1 in absurd (cc))
    (λ f1 x1 other e. let h = sym (at-Forall k b) ∙ e ∙ at-App f1 x1 in absurd (cc))
    (λ k1 b1 other e. other k1 b1 refl)
    (λ k1 other e. let h = sym (at-Forall k b) ∙ e ∙ at-Any k1 in absurd (cc))

pub apart_Any : (k : Kind) (u : Node) → ((k2 : Kind) → u ≡ n.Any k2 → ⊥) → type_at (n.Any k) ≡ type_at u → ⊥
apart_Any k = node_cases (λ u. ((k2 : Kind) → u ≡ n.Any k2 → ⊥) → type_at (n.Any k) ≡ type_at u → ⊥)
    (λ i1 other e. let h = sym (at-Any k) ∙ e ∙ at-Bound i1 in absurd (cc))
    (λ l1 other e. let h = sym (at-Any k) ∙ e ∙ at-Free l1 in absurd (cc))
    (λ c1 other e. let h = sym (at-Any k) ∙ e ∙ at-Con c1 in absurd (cc))
    (λ f1 x1 other e. let h = sym (at-Any k) ∙ e ∙ at-App f1 x1 in absurd (cc))
    (λ k1 b1 other e. let h = sym (at-Any k) ∙ e ∙ at-Forall k1 b1 in absurd (cc))
    (λ k1 other e. other k1 refl)

-- what is false holds exactly where this holds
pub never : {A : Type 0} → (A → ⊥) → (IsTrue false → A) × (A → IsTrue false)
never h = (λ e. absurd (false≢true e), λ a. absurd (h a))
