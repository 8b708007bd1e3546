-- Types without quantifiers, at types for their variables, and the levels of type variables.
use Rattle.std.proofs.Common.{◌≡◌, ℕ, zero, suc, ◌+◌, ◌-◌, ◌<◌, ◌≤◌, true, false, cond, ◌==◌, List, [], ◌∷◌, length, map, reverse, get_or, Some, None, slice_get, refl, sym, ap, ◌∙◌, subst, arith}
use Rattle.std.specs.Prelude.{nat_lt}
use Rattle.std.proofs.lemmas.Option.{slice_get-get_or, slice_get_within}
use Rattle.std.proofs.lemmas.List.{length-reverse}
use Rattle.std.proofs.lemmas.Bool.{eqb-true, ltb-true}
use Rattle.gh_typeterm.specs.declared.kind.Kind.{Kind}
use Rattle.gh_typeterm.specs.declared.kind.Kind.TheVariants as kind
use Rattle.gh_typeterm.specs.declared.decl.DeclData.{DeclData}
use Rattle.gh_typeterm.specs.declared.ty.TyNode.{TyNode}
use Rattle.gh_typeterm.proofs.Folds.{fold-Con, fold-Var, fold-App, fold-Name, term_induction}
use Rattle.gh_core.specs.SameType.{Nameless, bound, free, con, applied, forall, any}
use Rattle.gh_core.specs.Typing.{Program, Kinds, level_in, placed, opened, arrow, arrows, applied_to, foralls, params_from, at_types, param_index, field_step, field_type, HasKind, FieldsFit}
use Rattle.gh_adapt.proofs.Placing.{reversed, reversed_none}
use Rattle.gh_adapt.proofs.Running.{equal_is, unequal_is}

pub opened_foralls : (ks : List Kind) (d : ℕ) (u t : Nameless) → opened d u (foralls ks t) ≡ foralls ks (opened (d + length ks) u t)
opened_foralls [] d u t = let e : d ≡ d + 0 = omega arith in ap (λ m. opened m u t) e
opened_foralls (k ∷ ks) d u t =
    let e : suc d + length ks ≡ d + suc (length ks) = omega arith in
    ap (forall k) (opened_foralls ks (suc d) u t ∙ ap (λ m. foralls ks (opened m u t)) e)

-- types without quantifiers, whose bound variables are below a number
abbrev pub IsFlat : ℕ → Nameless → Type 0
IsFlat n (bound i) = i < n
IsFlat n (free x) = Unit {0}
IsFlat n (con c) = Unit {0}
IsFlat n (applied f x) = IsFlat n f × IsFlat n x
IsFlat n (forall k b) = ⊥
IsFlat n (any k) = Unit {0}

flat_fields : (p : Program) (d : DeclData) (t : TyNode) (k : Kind) → HasKind p.decls [] (reverse d.params) (field_type (length d.params) t) k → IsFlat (length d.params) (field_type (length d.params) t)
flat_fields p d =
    let n = length d.params in
    term_induction (λ t. (k : Kind) → HasKind p.decls [] (reverse d.params) (field_type n t) k → IsFlat n (field_type n t))
    (λ c k h. subst (IsFlat n) (sym (fold-Con Nameless (field_step n) c)) tt)
    (λ x k h.
    let lt = slice_get_within (reverse d.params) _ k (subst (λ z. HasKind p.decls [] (reverse d.params) z k) (fold-Var Nameless (field_step n) x) h) in
    let l = length-reverse d.params in
    subst (IsFlat n) (sym (fold-Var Nameless (field_step n) x)) (omega arith))
    (λ f x q r k h.
    let parts = subst (λ z. HasKind p.decls [] (reverse d.params) z k) (fold-App Nameless (field_step n) f x) h in
    subst (IsFlat n) (sym (fold-App Nameless (field_step n) f x)) (q (kind.Arrow parts.0 k) parts.1, r parts.0 parts.2))
    (λ m k h.
    let lt = slice_get_within (reverse d.params) _ k (subst (λ z. HasKind p.decls [] (reverse d.params) z k) (fold-Name Nameless (field_step n) m) h) in
    let l = length-reverse d.params in
    subst (IsFlat n) (sym (fold-Name Nameless (field_step n) m)) (omega arith))

abbrev pub AllFlat : ℕ → List Nameless → Type 0
AllFlat n [] = Unit {0}
AllFlat n (t ∷ ts) = IsFlat n t × AllFlat n ts

pub flat_arrows : (n : ℕ) (ts : List Nameless) (t : Nameless) → AllFlat n ts → IsFlat n t → IsFlat n (arrows ts t)
flat_arrows n [] t h g = g
flat_arrows n (u ∷ ts) t h g = ((tt, h.0), flat_arrows n ts t h.1 g)

pub flat_applied : (n : ℕ) (ts : List Nameless) (h : Nameless) → IsFlat n h → AllFlat n ts → IsFlat n (applied_to h ts)
flat_applied n [] h g e = g
flat_applied n (t ∷ ts) h g e = flat_applied n ts (applied h t) (g, e.0) e.1

pub flat_params : (n m : ℕ) → m ≤ n → AllFlat n (params_from m)
flat_params n zero le = tt
flat_params n (suc m) le = (omega arith, flat_params n m (omega arith))

pub flat_all : (p : Program) (d : DeclData) (fields : List TyNode) → FieldsFit p.decls (reverse d.params) (map (field_type (length d.params)) fields) → AllFlat (length d.params) (map (field_type (length d.params)) fields)
flat_all p d [] fit = tt
flat_all p d (t ∷ fields) fit = (flat_fields p d t kind.Star fit.0, flat_all p d fields fit.1)

pub at_arrows : (rs ts : List Nameless) (t : Nameless) → at_types rs (arrows ts t) ≡ arrows (map (at_types rs) ts) (at_types rs t)
at_arrows rs [] t = refl
at_arrows rs (u ∷ ts) t = ap (arrow (at_types rs u)) (at_arrows rs ts t)

pub at_applied : (rs ts : List Nameless) (h : Nameless) → at_types rs (applied_to h ts) ≡ applied_to (at_types rs h) (map (at_types rs) ts)
at_applied rs [] h = refl
at_applied rs (t ∷ ts) h = at_applied rs ts (applied h t)

pub applied_placed : (ks : Kinds) (ts : List Nameless) (h : Nameless) → placed ks (applied_to h ts) ≡ applied_to (placed ks h) (map (placed ks) ts)
applied_placed ks [] h = refl
applied_placed ks (t ∷ ts) h = applied_placed ks ts (applied h t)

-- ---- type variables and their levels

abbrev pub Leveled : Kinds → ℕ → Type 0
Leveled acc level = (x count : ℕ) → x < level → level_in acc x count ≡ x

pub leveled_more : (level : ℕ) (k : Kind) (acc : Kinds) → length acc ≡ level → Leveled acc level → Leveled ((level, k) ∷ acc) (suc level)
leveled_more level k acc len h x count lt =
    elim (level == x) as (λ b. (level == x) ≡ b → level_in ((level, k) ∷ acc) x count ≡ x) [
      | true ↦ (λ e. ap (λ b. cond b (length acc) (level_in acc x count)) e ∙ len ∙ eqb-true level x e)
      | false ↦ (λ e. ap (λ b. cond b (length acc) (level_in acc x count)) e ∙ h x count (let apart = not_equal level x e in omega arith))
    ] refl
  where
    not_equal : (m n : ℕ) → (m == n) ≡ false → m ≡ n → ⊥
    not_equal m n e is = let h = equal_is m n is in absurd (cc)

-- a field's variable is a parameter
pub param_case : (ks : List Kind) (x : ℕ) (k : Kind) (P : Type 0) → slice_get (reverse ks) (param_index (length ks) x) ≡ Some k
    → (x < length ks → param_index (length ks) x ≡ length ks - suc x → slice_get ks x ≡ Some k → P) → P
param_case ks x k P h goal =
    elim (nat_lt x (length ks)) as (λ b. nat_lt x (length ks) ≡ b → P) [
      | true ↦ (λ e.
          let lt = ltb-true x (length ks) e in
          let is : param_index (length ks) x ≡ length ks - suc x = ap (λ b. cond b (length ks - suc x) (length ks + x)) e in
          goal lt is (slice_get-get_or ks x k lt ∙ sym (sym h ∙ ap (slice_get (reverse ks)) is ∙ reversed ks x (length ks - suc x) k lt (omega arith))))
      | false ↦ (λ e.
          let is : param_index (length ks) x ≡ length ks + x = ap (λ b. cond b (length ks - suc x) (length ks + x)) e in
          let none = sym h ∙ ap (slice_get (reverse ks)) is ∙ reversed_none ks (length ks + x) (omega arith) in absurd (cc))
    ] refl
