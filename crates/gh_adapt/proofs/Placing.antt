-- Types at the variables of type functions, and at the types of a scrutinee.
use Rattle.std.proofs.Common.{◌≡◌, ℕ, zero, suc, ◌+◌, ◌-◌, ◌<◌, ◌≤◌, true, false, cond, ◌==◌, List, [], ◌∷◌, length, reverse, get_or, Some, None, slice_get, unwrap_or, refl, sym, ap, ◌∙◌, subst, arith}
use Rattle.std.proofs.lemmas.Option.{slice_get_past, slice_get-get_or, slice_get_within, get_or_from_slice_get}
use Rattle.std.proofs.lemmas.List.{get_or-reverse, length-reverse}
use Rattle.std.proofs.lemmas.Bool.{eqb-true, ltb-true}
use Rattle.std.specs.Prelude.{nat_lt}
use Rattle.gh_typeterm.specs.declared.kind.Kind.{Kind}
use Rattle.gh_typeterm.specs.declared.kind.Kind.TheVariants as kind
use Rattle.gh_typeterm.specs.declared.decl.DeclData.{DeclData}
use Rattle.gh_typeterm.specs.declared.ty.TyNode.{TyNode}
use Rattle.gh_typeterm.specs.declared.ty.TyNode.TheVariants as ty
use Rattle.gh_typeterm.proofs.Folds.{fold-Con, fold-Var, fold-App, fold-Name, term_induction}
use Rattle.gh_core.specs.SameType.{Nameless, bound, free, con, applied, forall, any}
use Rattle.gh_core.specs.Typing.{Kinds, level_in, kind_at, placed, opened, HasKind, param_index, field_step, field_type, at_types}
use Rattle.gh_kind_index.specs.KindIndex.{base_step, variables_from}
use Rattle.gh_adapt.specs.Typed.{at}
use Rattle.gh_adapt.proofs.Running.{equal_is, unequal_is}

-- ---- lists

pub reversed : {X : Type 0} (xs : List X) (i j : ℕ) (d : X) → i < length xs → j + suc i ≡ length xs → slice_get (reverse xs) j ≡ Some (get_or xs i d)
reversed xs i j d lt e =
    let l = length-reverse xs in
    let back : length xs - 1 - j ≡ i = omega arith in
    slice_get-get_or (reverse xs) j d (omega arith) ∙ ap Some (get_or-reverse xs j d (omega arith) ∙ ap (λ k. get_or xs k d) back)

pub reversed_none : {X : Type 0} (xs : List X) (i : ℕ) → length xs ≤ i → slice_get (reverse xs) i ≡ None
reversed_none xs i le = slice_get_past (reverse xs) i (let l = length-reverse xs in omega arith)

pub variables_count : (level n : ℕ) → length (variables_from level n) ≡ n
variables_count level zero = refl
variables_count level (suc n) = ap suc (variables_count (suc level) n)

pub variable_at : (level n x : ℕ) → x < n → slice_get (variables_from level n) x ≡ Some (free (level + x))
variable_at level zero x lt = absurd (omega arith)
variable_at level (suc n) zero lt = let e : level ≡ level + 0 = omega arith in ap (λ l. Some (free l)) e
variable_at level (suc n) (suc x) lt = let e : suc level + x ≡ level + suc x = omega arith in variable_at (suc level) n x (omega arith) ∙ ap (λ l. Some (free l)) e

-- ---- type functions

-- the variables round a term keep the numbers of these parameters as their levels
abbrev pub Keeps : Kinds → ℕ → Type 0
Keeps ks n = (x : ℕ) → x < n → level_in ks x (length ks) ≡ x

pub keeps_none : (n : ℕ) → Keeps [] n
keeps_none n x lt = omega arith

-- the type variables of type functions of these kinds, inside others
abbrev pub inside : ℕ → List Kind → Kinds → Kinds
inside level [] acc = acc
inside level (k ∷ ks) acc = inside (suc level) ks ((level, k) ∷ acc)

pub inside_length : (level : ℕ) (ks : List Kind) (acc : Kinds) → length (inside level ks acc) ≡ length acc + length ks
inside_length level [] acc = omega arith
inside_length level (k ∷ ks) acc = let h = inside_length (suc level) ks ((level, k) ∷ acc) in omega arith

abbrev Leveled : Kinds → ℕ → Type 0
Leveled acc level = (x count : ℕ) → x < level → level_in acc x count ≡ x

leveled_more : (level : ℕ) (k : Kind) (acc : Kinds) → length acc ≡ level → Leveled acc level → Leveled ((level, k) ∷ acc) (suc level)
leveled_more level k acc len h x count lt =
    elim (level == x) as (λ b. (level == x) ≡ b → level_in ((level, k) ∷ acc) x count ≡ x) [
      | true ↦ (λ e. ap (λ b. cond b (length acc) (level_in acc x count)) e ∙ len ∙ eqb-true level x e)
      | false ↦ (λ e. ap (λ b. cond b (length acc) (level_in acc x count)) e ∙ h x count (let apart = not_equal level x e in omega arith))
    ] refl
  where
    not_equal : (m n : ℕ) → (m == n) ≡ false → m ≡ n → ⊥
    not_equal m n e is = let h = equal_is m n is in absurd (cc)

inside_leveled : (level : ℕ) (ks : List Kind) (acc : Kinds) → length acc ≡ level → Leveled acc level → Leveled (inside level ks acc) (level + length ks)
inside_leveled level [] acc len h x count lt = h x count (omega arith)
inside_leveled level (k ∷ ks) acc len h x count lt = inside_leveled (suc level) ks ((level, k) ∷ acc) (ap suc len) (leveled_more level k acc len h) x count (omega arith)

pub inside_keeps : (ks : List Kind) → Keeps (inside 0 ks []) (length ks)
inside_keeps ks x lt = inside_leveled 0 ks [] refl (λ y count lt. absurd (omega arith)) x (length (inside 0 ks [])) (omega arith)

kind_kept : (level : ℕ) (ks : List Kind) (acc : Kinds) (l : ℕ) (k : Kind) → length acc ≡ level → l < level → kind_at acc l ≡ Some k → kind_at (inside level ks acc) l ≡ Some k
kind_kept level [] acc l k len lt h = h
kind_kept level (k' ∷ ks) acc l k len lt h =
    kind_kept (suc level) ks ((level, k') ∷ acc) l k (ap suc len) (omega arith) (ap (λ b. cond b (Some k') (kind_at acc l)) (unequal_is l (length acc) (λ e. omega arith)) ∙ h)

inside_kind : (level : ℕ) (ks : List Kind) (acc : Kinds) (x : ℕ) (k : Kind) → length acc ≡ level → slice_get ks x ≡ Some k → kind_at (inside level ks acc) (level + x) ≡ Some k
inside_kind level [] acc x k len h = absurd (cc)
inside_kind level (k' ∷ ks) acc zero k len h =
    kind_kept (suc level) ks ((level, k') ∷ acc) (level + 0) k (ap suc len) (omega arith)
    (ap (λ b. cond b (Some k') (kind_at acc (level + 0))) (equal_is (level + 0) (length acc) (omega arith)) ∙ h)
inside_kind level (k' ∷ ks) acc (suc x) k len h =
    let e : suc level + x ≡ level + suc x = omega arith in
    ap (kind_at (inside (suc level) ks ((level, k') ∷ acc))) (sym e) ∙ inside_kind (suc level) ks ((level, k') ∷ acc) x k (ap suc len) h

pub kind_inside : (ks : List Kind) (x : ℕ) (k : Kind) → slice_get ks x ≡ Some k → kind_at (inside 0 ks []) x ≡ Some k
kind_inside ks x k h = let e : x ≡ 0 + x = omega arith in ap (kind_at (inside 0 ks [])) e ∙ inside_kind 0 ks [] x k refl h

-- ---- the type of a field

-- the type of a field where the scrutinee has the parameters as its arguments
abbrev pub seen : ℕ → TyNode → Nameless
seen n t = at_types (reverse (variables_from 0 n)) (field_type n t)

-- a field's variable is a parameter
param_case : (ks : List Kind) (x : ℕ) (k : Kind) (P : Type 0) → slice_get (reverse ks) (param_index (length ks) x) ≡ Some k
    → (x < length ks → param_index (length ks) x ≡ length ks - suc x → slice_get ks x ≡ Some k → P) → P
param_case ks x k P h goal =
    elim (nat_lt x (length ks)) as (λ b. nat_lt x (length ks) ≡ b → P) [
      | true ↦ (λ e.
          let lt = ltb-true x (length ks) e in
          let is : param_index (length ks) x ≡ length ks - suc x = ap (λ b. cond b (length ks - suc x) (length ks + x)) e in
          goal lt is (slice_get-get_or ks x k lt ∙ sym (sym h ∙ ap (slice_get (reverse ks)) is ∙ reversed ks x (length ks - suc x) k lt (omega arith))))
      | false ↦ (λ e.
          let is : param_index (length ks) x ≡ length ks + x = ap (λ b. cond b (length ks - suc x) (length ks + x)) e in
          let none = sym h ∙ ap (slice_get (reverse ks)) is ∙ reversed_none ks (length ks + x) (omega arith) in absurd (cc))
    ] refl

pub seen_var : (n x j : ℕ) → x < n → j ≡ n - suc x → at_types (reverse (variables_from 0 n)) (bound j) ≡ free x
seen_var n x j lt e =
    let count = variables_count 0 n in
    let zero_first : 0 + x ≡ x = omega arith in
    ap (λ o. unwrap_or o (bound j))
    (reversed (variables_from 0 n) x j (free x) (omega arith) (omega arith)
    ∙ ap Some (get_or_from_slice_get (variables_from 0 n) x (free (0 + x)) (free x) (variable_at 0 n x lt) ∙ ap free zero_first))

abbrev IsPlaced : List DeclData → List Kind → Kinds → TyNode → Type 0
IsPlaced decls params ks t = (k : Kind) → HasKind decls [] (reverse params) (field_type (length params) t) k → placed ks (at (variables_from 0 (length params)) t) ≡ seen (length params) t

pub placed_at : (decls : List DeclData) (params : List Kind) (ks : Kinds) → Keeps ks (length params) → (t : TyNode) → IsPlaced decls params ks t
placed_at decls params ks keeps =
    let n = length params in
    let ts = variables_from 0 n in
    term_induction (IsPlaced decls params ks)
    (λ c k h. ap (placed ks) (fold-Con Nameless (base_step ts []) c) ∙ sym (ap (at_types (reverse ts)) (fold-Con Nameless (field_step n) c)))
    (λ x k h.
    param_case params x k (placed ks (at ts (ty.Var x)) ≡ seen n (ty.Var x)) (subst (λ z. HasKind decls [] (reverse params) z k) (fold-Var Nameless (field_step n) x) h)
    (λ lt is _.
    let zero_first : 0 + x ≡ x = omega arith in
    ap (placed ks) (fold-Var Nameless (base_step ts []) x ∙ ap (λ o. unwrap_or o (unwrap_or (slice_get [] (x - length ts)) (any kind.Star))) (variable_at 0 n x lt) ∙ ap free zero_first)
    ∙ ap free (keeps x lt)
    ∙ sym (ap (at_types (reverse ts)) (fold-Var Nameless (field_step n) x) ∙ seen_var n x (param_index n x) lt is)))
    (λ f x p q k h.
    let parts = subst (λ z. HasKind decls [] (reverse params) z k) (fold-App Nameless (field_step n) f x) h in
    ap (placed ks) (fold-App Nameless (base_step ts []) f x) ∙ (λ i. applied (p (kind.Arrow parts.0 k) parts.1 i) (q parts.0 parts.2 i))
    ∙ sym (ap (at_types (reverse ts)) (fold-App Nameless (field_step n) f x)))
    (λ m k h.
    let none = sym (subst (λ z. HasKind decls [] (reverse params) z k) (fold-Name Nameless (field_step n) m) h) ∙ reversed_none params (n + m) (omega arith) in
    absurd (cc))

-- the type of a field has its kind
abbrev IsKinded : List DeclData → List Kind → TyNode → Type 0
IsKinded decls params t = (k : Kind) → HasKind decls [] (reverse params) (field_type (length params) t) k → HasKind decls (inside 0 params []) [] (seen (length params) t) k

pub seen_kind : (decls : List DeclData) (params : List Kind) (t : TyNode) → IsKinded decls params t
seen_kind decls params =
    let n = length params in
    let rs = reverse (variables_from 0 n) in
    term_induction (IsKinded decls params)
    (λ c k h. subst (λ z. HasKind decls (inside 0 params []) [] z k) (sym (ap (at_types rs) (fold-Con Nameless (field_step n) c))) (subst (λ z. HasKind decls [] (reverse params) z k) (fold-Con Nameless (field_step n) c) h))
    (λ x k h.
    param_case params x k (HasKind decls (inside 0 params []) [] (seen n (ty.Var x)) k) (subst (λ z. HasKind decls [] (reverse params) z k) (fold-Var Nameless (field_step n) x) h)
    (λ lt is there. subst (λ z. HasKind decls (inside 0 params []) [] z k) (sym (ap (at_types rs) (fold-Var Nameless (field_step n) x) ∙ seen_var n x (param_index n x) lt is)) (kind_inside params x k there)))
    (λ f x p q k h.
    let parts = subst (λ z. HasKind decls [] (reverse params) z k) (fold-App Nameless (field_step n) f x) h in
    subst (λ z. HasKind decls (inside 0 params []) [] z k) (sym (ap (at_types rs) (fold-App Nameless (field_step n) f x)))
    (parts.0, p (kind.Arrow parts.0 k) parts.1, q parts.0 parts.2))
    (λ m k h.
    let none = sym (subst (λ z. HasKind decls [] (reverse params) z k) (fold-Name Nameless (field_step n) m) h) ∙ reversed_none params (n + m) (omega arith) in
    absurd (cc))

-- a type with a kind stays as it is where a type is put for a variable of binders round it
pub kinded_opened : (decls : List DeclData) (ks : Kinds) (bs : List Kind) (t : Nameless) (k : Kind) (d : ℕ) (u : Nameless) → HasKind decls ks bs t k → length bs ≤ d → opened d u t ≡ t
kinded_opened decls ks bs (bound i) k d u h le = ap (λ b. cond b u (bound i)) (unequal_is i d (let lt = slice_get_within bs i k h in λ e. omega arith))
kinded_opened decls ks bs (free x) k d u h le = refl
kinded_opened decls ks bs (con c) k d u h le = refl
kinded_opened decls ks bs (applied f x) k d u h le = λ i. applied (kinded_opened decls ks bs f (kind.Arrow h.0 k) d u h.1 le i) (kinded_opened decls ks bs x h.0 d u h.2 le i)
kinded_opened decls ks bs (forall l b) k d u h le = ap (forall l) (kinded_opened decls ks (l ∷ bs) b kind.Star (suc d) u h.1 (omega arith))
kinded_opened decls ks bs (any l) k d u h le = refl
