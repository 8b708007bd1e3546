-- Types of core without names of bound variables, form by form, and what a binder closes over.
use Rattle.std.proofs.Common.{◌≡◌, ℕ, suc, Bool, true, false, cond, List, [], ◌∷◌, ◌++◌, length, refl, sym, ap, ◌∙◌, subst, ◌==◌}
use Rattle.std.proofs.lemmas.Bool.{eq-eqb, eqb-true}
use Rattle.gh_base.specs.declared.place.TyCon.{TyCon}
use Rattle.gh_typeterm.specs.declared.kind.Kind.{Kind}
use Rattle.gh_core.specs.declared.types.CoreType.{CoreType, map-CoreType, roll-CoreType, ind-CoreType}
use Rattle.gh_core.specs.declared.types.CoreType.TheVariants as t
use Rattle.gh_core.specs.declared.types.CoreType.TheOpen.{CoreType-F}
use Rattle.gh_core.specs.SameType.{Nameless, bound, free, con, applied, forall, any, further, nameless, nameless_var}
use Rattle.gh_core.specs.Typing.{closed_over, type_of}
use Rattle.gh_core.proofs.Nameless.{nameless-Var, nameless-Con, nameless-App, nameless-Forall, nameless-Any}

module _ (P : CoreType → Type 0)
    (var : (x : ℕ) → P (t.Var x)) (con' : (c : TyCon) → P (t.Con c)) (app : (f y : CoreType) → P f → P y → P (t.App f y))
    (all : (x : ℕ) (k : Kind) (b : CoreType) → P b → P (t.Forall x k b)) (any' : (k : Kind) → P (t.Any k)) where
  layer : (y : CoreType-F ((u : CoreType) × P u)) → P (roll-CoreType (map-CoreType ((u : CoreType) × P u) CoreType (λ e. e.0) y))
  layer (CoreType-F.Var x) = subst P (sym (t.rolls-Var x)) (var x)
  layer (CoreType-F.Con c) = subst P (sym (t.rolls-Con c)) (con' c)
  layer (CoreType-F.App f y) = subst P (sym (t.rolls-App f.0 y.0)) (app f.0 y.0 f.1 y.1)
  layer (CoreType-F.Forall x k b) = subst P (sym (t.rolls-Forall x k b.0)) (all x k b.0 b.1)
  layer (CoreType-F.Any k) = subst P (sym (t.rolls-Any k)) (any' k)

  -- what holds of each leaf, and of a type where it holds of its parts, holds of each type
  pub type_induction : (u : CoreType) → P u
  type_induction = ind-CoreType P (λ x y is. subst (λ z. P (roll-CoreType z)) is (layer y))

abbrev is_var : Nameless → Bool
is_var (bound i) = true
is_var (free x) = true
is_var (con c) = false
is_var (applied f x) = false
is_var (forall k b) = false
is_var (any k) = false

further_kept : (n : Nameless) → is_var (further n) ≡ is_var n
further_kept (bound i) = refl
further_kept (free x) = refl
further_kept (con c) = refl
further_kept (applied f x) = refl
further_kept (forall k b) = refl
further_kept (any k) = refl

var_choice : (v : Bool) (n : Nameless) → is_var n ≡ true → is_var (cond v (bound 0) (further n)) ≡ true
var_choice true n h = refl
var_choice false n h = further_kept n ∙ h

var_is : (bs : List ℕ) (x : ℕ) → is_var (nameless_var bs x) ≡ true
var_is [] x = refl
var_is (b ∷ bs) x = var_choice (b == x) (nameless_var bs x) (var_is bs x)

free_choice : (v : Bool) (d l : ℕ) → cond v (bound (suc d)) (free l) ≡ further (cond v (bound d) (free l))
free_choice true d l = refl
free_choice false d l = refl

no_var : (A : Type 0) → false ≡ true → A
no_var A h = absurd (cc)

further_closed : (x d : ℕ) (n : Nameless) → is_var n ≡ true → closed_over x (suc d) (further n) ≡ further (closed_over x d n)
further_closed x d (bound i) h = refl
further_closed x d (free l) h = free_choice (l == x) d l
further_closed x d (con c) h = no_var _ h
further_closed x d (applied f y) h = no_var _ h
further_closed x d (forall k b) h = no_var _ h
further_closed x d (any k) h = no_var _ h

one_more : (v : Bool) (x d : ℕ) (m n : Nameless) → is_var n ≡ true → m ≡ closed_over x d n → cond v (bound 0) (further m) ≡ closed_over x (suc d) (cond v (bound 0) (further n))
one_more true x d m n h e = refl
one_more false x d m n h e = ap further e ∙ sym (further_closed x d n h)

turned_by : (a b : ℕ) (v : Bool) → (a == b) ≡ v → (b == a) ≡ v
turned_by a b true h = eq-eqb b a (sym (eqb-true a b h))
turned_by a b false h =
    elim (b == a) as (λ w. (b == a) ≡ w → (b == a) ≡ false) [ true ↦ (λ k. let e = eq-eqb a b (sym (eqb-true b a k)) in absurd (cc)) | false ↦ (λ k. k) ] refl

pub eqb_turned : (a b : ℕ) → (a == b) ≡ (b == a)
eqb_turned a b = sym (turned_by a b (a == b) refl)

var_closes : (bs : List ℕ) (x y : ℕ) → nameless_var (bs ++ x ∷ []) y ≡ closed_over x (length bs) (nameless_var bs y)
var_closes [] x y = ap (λ v. cond v (bound 0) (free y)) (eqb_turned x y)
var_closes (b ∷ bs) x y = one_more (b == y) x (length bs) (nameless_var (bs ++ x ∷ []) y) (nameless_var bs y) (var_is bs y) (var_closes bs x y)

-- a type inside a binder further out closes over that binder's variable
pub closes : (u : CoreType) (bs : List ℕ) (x : ℕ) → nameless u (bs ++ x ∷ []) ≡ closed_over x (length bs) (nameless u bs)
closes = type_induction (λ u. (bs : List ℕ) (x : ℕ) → nameless u (bs ++ x ∷ []) ≡ closed_over x (length bs) (nameless u bs))
    (λ y bs x. nameless-Var y (bs ++ x ∷ []) ∙ var_closes bs x y ∙ sym (ap (closed_over x (length bs)) (nameless-Var y bs)))
    (λ c bs x. nameless-Con c (bs ++ x ∷ []) ∙ sym (ap (closed_over x (length bs)) (nameless-Con c bs)))
    (λ f y p q bs x. nameless-App f y (bs ++ x ∷ []) ∙ (λ i. applied (p bs x i) (q bs x i)) ∙ sym (ap (closed_over x (length bs)) (nameless-App f y bs)))
    (λ y k b p bs x. nameless-Forall y k b (bs ++ x ∷ []) ∙ ap (forall k) (p (y ∷ bs) x) ∙ sym (ap (closed_over x (length bs)) (nameless-Forall y k b bs)))
    (λ k bs x. nameless-Any k (bs ++ x ∷ []) ∙ sym (ap (closed_over x (length bs)) (nameless-Any k bs)))

pub type_of_forall : (x : ℕ) (k : Kind) (b : CoreType) → type_of (t.Forall x k b) ≡ forall k (closed_over x 0 (type_of b))
type_of_forall x k b = nameless-Forall x k b [] ∙ ap (forall k) (closes b [] x)

pub type_of_app : (f x : CoreType) → type_of (t.App f x) ≡ applied (type_of f) (type_of x)
type_of_app f x = nameless-App f x []

pub type_of_con : (c : TyCon) → type_of (t.Con c) ≡ con c
type_of_con c = nameless-Con c []

pub type_of_var : (x : ℕ) → type_of (t.Var x) ≡ free x
type_of_var x = nameless-Var x []

pub type_of_any : (k : Kind) → type_of (t.Any k) ≡ any k
type_of_any k = nameless-Any k []
