-- Types without names of bound variables, form by form.
use Rattle.std.proofs.Common.{◌≡◌, ℕ, Bool, true, false, cond, List, [], ◌∷◌, refl, sym, ap, ◌∙◌, subst, ◌==◌, IsTrue}
use Rattle.std.proofs.lemmas.Bool.{true≢false, false≢true}
use Rattle.gh_base.specs.declared.place.TyCon.{TyCon}
use Rattle.gh_typeterm.specs.declared.kind.Kind.{Kind}
use Rattle.gh_core.specs.declared.types.CoreType.{CoreType, map-CoreType, roll-CoreType, ind-CoreType, fold-roll-CoreType}
use Rattle.gh_core.specs.declared.types.CoreType.TheVariants as t
use Rattle.gh_core.specs.declared.types.CoreType.TheOpen.{CoreType-F}
use Rattle.gh_core.specs.SameType.{Nameless, bound, free, con, applied, forall, any, further, nameless, nameless_var, nameless_step}

pub nameless-Var : (x : ℕ) (bs : List ℕ) → nameless (t.Var x) bs ≡ nameless_var bs x
nameless-Var x bs = ap (λ u. nameless u bs) (sym (t.rolls-Var x)) ∙ ap (λ f. f bs) (fold-roll-CoreType (List ℕ → Nameless) nameless_step (CoreType-F.Var x))

pub nameless-Con : (c : TyCon) (bs : List ℕ) → nameless (t.Con c) bs ≡ con c
nameless-Con c bs = ap (λ u. nameless u bs) (sym (t.rolls-Con c)) ∙ ap (λ f. f bs) (fold-roll-CoreType (List ℕ → Nameless) nameless_step (CoreType-F.Con c))

pub nameless-App : (f x : CoreType) (bs : List ℕ) → nameless (t.App f x) bs ≡ applied (nameless f bs) (nameless x bs)
nameless-App f x bs = ap (λ u. nameless u bs) (sym (t.rolls-App f x)) ∙ ap (λ f. f bs) (fold-roll-CoreType (List ℕ → Nameless) nameless_step (CoreType-F.App f x))

pub nameless-Forall : (x : ℕ) (k : Kind) (b : CoreType) (bs : List ℕ) → nameless (t.Forall x k b) bs ≡ forall k (nameless b (x ∷ bs))
nameless-Forall x k b bs = ap (λ u. nameless u bs) (sym (t.rolls-Forall x k b)) ∙ ap (λ f. f bs) (fold-roll-CoreType (List ℕ → Nameless) nameless_step (CoreType-F.Forall x k b))

pub nameless-Any : (k : Kind) (bs : List ℕ) → nameless (t.Any k) bs ≡ any k
nameless-Any k bs = ap (λ u. nameless u bs) (sym (t.rolls-Any k)) ∙ ap (λ f. f bs) (fold-roll-CoreType (List ℕ → Nameless) nameless_step (CoreType-F.Any k))

abbrev is_var : Nameless → Bool
is_var (bound i) = true
is_var (free x) = true
is_var (con c) = false
is_var (applied f x) = false
is_var (forall k b) = false
is_var (any k) = false

abbrev is_con : Nameless → Bool
is_con (bound i) = false
is_con (free x) = false
is_con (con c) = true
is_con (applied f x) = false
is_con (forall k b) = false
is_con (any k) = false

abbrev is_applied : Nameless → Bool
is_applied (bound i) = false
is_applied (free x) = false
is_applied (con c) = false
is_applied (applied f x) = true
is_applied (forall k b) = false
is_applied (any k) = false

abbrev is_forall : Nameless → Bool
is_forall (bound i) = false
is_forall (free x) = false
is_forall (con c) = false
is_forall (applied f x) = false
is_forall (forall k b) = true
is_forall (any k) = false

abbrev is_any : Nameless → Bool
is_any (bound i) = false
is_any (free x) = false
is_any (con c) = false
is_any (applied f x) = false
is_any (forall k b) = false
is_any (any k) = true

module _ (P : CoreType → Type 0)
    (var : (x : ℕ) → P (t.Var x)) (con' : (c : TyCon) → P (t.Con c)) (app : (f y : CoreType) → P (t.App f y))
    (all : (x : ℕ) (k : Kind) (b : CoreType) → P (t.Forall x k b)) (any' : (k : Kind) → P (t.Any k)) where
  layer : (y : CoreType-F ((u : CoreType) × P u)) → P (roll-CoreType (map-CoreType ((u : CoreType) × P u) CoreType (λ e. e.0) y))
  layer (CoreType-F.Var x) = subst P (sym (t.rolls-Var x)) (var x)
  layer (CoreType-F.Con c) = subst P (sym (t.rolls-Con c)) (con' c)
  layer (CoreType-F.App f y) = subst P (sym (t.rolls-App f.0 y.0)) (app f.0 y.0)
  layer (CoreType-F.Forall x k b) = subst P (sym (t.rolls-Forall x k b.0)) (all x k b.0)
  layer (CoreType-F.Any k) = subst P (sym (t.rolls-Any k)) (any' k)

  -- each type is of one of five forms
  pub type_cases : (u : CoreType) → P u
  type_cases = ind-CoreType P (λ x y is. subst (λ z. P (roll-CoreType z)) is (layer y))

further_kept : (n : Nameless) → is_var (further n) ≡ is_var n
further_kept (bound i) = refl
further_kept (free x) = refl
further_kept (con c) = refl
further_kept (applied f x) = refl
further_kept (forall k b) = refl
further_kept (any k) = refl

var_choice : (v : Bool) (n : Nameless) → is_var n ≡ true → is_var (cond v (bound 0) (further n)) ≡ true
var_choice true n h = refl
var_choice false n h = further_kept n ∙ h

var_is : (bs : List ℕ) (x : ℕ) → is_var (nameless_var bs x) ≡ true
var_is [] x = refl
var_is (b ∷ bs) x = var_choice (b == x) (nameless_var bs x) (var_is bs x)

apart : (p : Nameless → Bool) (u v : Nameless) → p u ≡ true → p v ≡ false → u ≡ v → ⊥
apart p u v on off e = let h : true ≡ false = sym on ∙ ap p e ∙ off in absurd (true≢false h)

pub apart_Var : (x : ℕ) (bs cs : List ℕ) (u : CoreType) → ((y : ℕ) → u ≡ t.Var y → ⊥) → nameless (t.Var x) bs ≡ nameless u cs → ⊥
apart_Var x bs cs = type_cases (λ u. ((y : ℕ) → u ≡ t.Var y → ⊥) → nameless (t.Var x) bs ≡ nameless u cs → ⊥)
    (λ x' other e. other x' refl)
    (λ c' other e. apart is_var (nameless (t.Var x) bs) (nameless (t.Con c') cs) (ap is_var (nameless-Var x bs) ∙ var_is bs x) (ap is_var (nameless-Con c' cs)) e)
    (λ f' y' other e. apart is_var (nameless (t.Var x) bs) (nameless (t.App f' y') cs) (ap is_var (nameless-Var x bs) ∙ var_is bs x) (ap is_var (nameless-App f' y' cs)) e)
    (λ x' k' b' other e. apart is_var (nameless (t.Var x) bs) (nameless (t.Forall x' k' b') cs) (ap is_var (nameless-Var x bs) ∙ var_is bs x) (ap is_var (nameless-Forall x' k' b' cs)) e)
    (λ k' other e. apart is_var (nameless (t.Var x) bs) (nameless (t.Any k') cs) (ap is_var (nameless-Var x bs) ∙ var_is bs x) (ap is_var (nameless-Any k' cs)) e)

pub apart_Con : (c : TyCon) (bs cs : List ℕ) (u : CoreType) → ((d : TyCon) → u ≡ t.Con d → ⊥) → nameless (t.Con c) bs ≡ nameless u cs → ⊥
apart_Con c bs cs = type_cases (λ u. ((d : TyCon) → u ≡ t.Con d → ⊥) → nameless (t.Con c) bs ≡ nameless u cs → ⊥)
    (λ x' other e. apart is_var (nameless (t.Var x') cs) (nameless (t.Con c) bs) (ap is_var (nameless-Var x' cs) ∙ var_is cs x') (ap is_var (nameless-Con c bs)) (sym e))
    (λ c' other e. other c' refl)
    (λ f' y' other e. apart is_con (nameless (t.Con c) bs) (nameless (t.App f' y') cs) (ap is_con (nameless-Con c bs)) (ap is_con (nameless-App f' y' cs)) e)
    (λ x' k' b' other e. apart is_con (nameless (t.Con c) bs) (nameless (t.Forall x' k' b') cs) (ap is_con (nameless-Con c bs)) (ap is_con (nameless-Forall x' k' b' cs)) e)
    (λ k' other e. apart is_con (nameless (t.Con c) bs) (nameless (t.Any k') cs) (ap is_con (nameless-Con c bs)) (ap is_con (nameless-Any k' cs)) e)

pub apart_App : (f : CoreType) (y : CoreType) (bs cs : List ℕ) (u : CoreType) → ((g z : CoreType) → u ≡ t.App g z → ⊥) → nameless (t.App f y) bs ≡ nameless u cs → ⊥
apart_App f y bs cs = type_cases (λ u. ((g z : CoreType) → u ≡ t.App g z → ⊥) → nameless (t.App f y) bs ≡ nameless u cs → ⊥)
    (λ x' other e. apart is_var (nameless (t.Var x') cs) (nameless (t.App f y) bs) (ap is_var (nameless-Var x' cs) ∙ var_is cs x') (ap is_var (nameless-App f y bs)) (sym e))
    (λ c' other e. apart is_applied (nameless (t.App f y) bs) (nameless (t.Con c') cs) (ap is_applied (nameless-App f y bs)) (ap is_applied (nameless-Con c' cs)) e)
    (λ f' y' other e. other f' y' refl)
    (λ x' k' b' other e. apart is_applied (nameless (t.App f y) bs) (nameless (t.Forall x' k' b') cs) (ap is_applied (nameless-App f y bs)) (ap is_applied (nameless-Forall x' k' b' cs)) e)
    (λ k' other e. apart is_applied (nameless (t.App f y) bs) (nameless (t.Any k') cs) (ap is_applied (nameless-App f y bs)) (ap is_applied (nameless-Any k' cs)) e)

pub apart_Forall : (x : ℕ) (k : Kind) (b : CoreType) (bs cs : List ℕ) (u : CoreType) → ((z : ℕ) (l : Kind) (d : CoreType) → u ≡ t.Forall z l d → ⊥) → nameless (t.Forall x k b) bs ≡ nameless u cs → ⊥
apart_Forall x k b bs cs = type_cases (λ u. ((z : ℕ) (l : Kind) (d : CoreType) → u ≡ t.Forall z l d → ⊥) → nameless (t.Forall x k b) bs ≡ nameless u cs → ⊥)
    (λ x' other e. apart is_var (nameless (t.Var x') cs) (nameless (t.Forall x k b) bs) (ap is_var (nameless-Var x' cs) ∙ var_is cs x') (ap is_var (nameless-Forall x k b bs)) (sym e))
    (λ c' other e. apart is_forall (nameless (t.Forall x k b) bs) (nameless (t.Con c') cs) (ap is_forall (nameless-Forall x k b bs)) (ap is_forall (nameless-Con c' cs)) e)
    (λ f' y' other e. apart is_forall (nameless (t.Forall x k b) bs) (nameless (t.App f' y') cs) (ap is_forall (nameless-Forall x k b bs)) (ap is_forall (nameless-App f' y' cs)) e)
    (λ x' k' b' other e. other x' k' b' refl)
    (λ k' other e. apart is_forall (nameless (t.Forall x k b) bs) (nameless (t.Any k') cs) (ap is_forall (nameless-Forall x k b bs)) (ap is_forall (nameless-Any k' cs)) e)

pub apart_Any : (k : Kind) (bs cs : List ℕ) (u : CoreType) → ((l : Kind) → u ≡ t.Any l → ⊥) → nameless (t.Any k) bs ≡ nameless u cs → ⊥
apart_Any k bs cs = type_cases (λ u. ((l : Kind) → u ≡ t.Any l → ⊥) → nameless (t.Any k) bs ≡ nameless u cs → ⊥)
    (λ x' other e. apart is_var (nameless (t.Var x') cs) (nameless (t.Any k) bs) (ap is_var (nameless-Var x' cs) ∙ var_is cs x') (ap is_var (nameless-Any k bs)) (sym e))
    (λ c' other e. apart is_any (nameless (t.Any k) bs) (nameless (t.Con c') cs) (ap is_any (nameless-Any k bs)) (ap is_any (nameless-Con c' cs)) e)
    (λ f' y' other e. apart is_any (nameless (t.Any k) bs) (nameless (t.App f' y') cs) (ap is_any (nameless-Any k bs)) (ap is_any (nameless-App f' y' cs)) e)
    (λ x' k' b' other e. apart is_any (nameless (t.Any k) bs) (nameless (t.Forall x' k' b') cs) (ap is_any (nameless-Any k bs)) (ap is_any (nameless-Forall x' k' b' cs)) e)
    (λ k' other e. other k' refl)

-- what is false holds exactly where this holds
pub never : {A : Type 0} → (A → ⊥) → (IsTrue false → A) × (A → IsTrue false)
never h = (λ e. absurd (false≢true e), λ a. absurd (h a))
