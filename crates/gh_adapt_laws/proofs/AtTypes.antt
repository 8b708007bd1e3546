-- A datatype, its constructors and its fields, at types for its parameters.
use Rattle.std.proofs.Common.{◌≡◌, ℕ, zero, suc, ◌+◌, ◌-◌, ◌<◌, ◌≤◌, cond, ◌==◌, List, [], ◌∷◌, length, map, reverse, get_or, Some, slice_get, unwrap_or, refl, sym, ap, ◌∙◌, subst, arith}
use Rattle.std.proofs.lemmas.Option.{slice_get-get_or, slice_get_within, get_or_from_slice_get}
use Rattle.gh_base.specs.declared.place.TyCon.{TyCon}
use Rattle.gh_base.specs.declared.place.TyCon.TheVariants as tycon
use Rattle.gh_typeterm.specs.declared.kind.Kind.{Kind}
use Rattle.gh_typeterm.specs.declared.kind.Kind.TheVariants as kind
use Rattle.gh_typeterm.specs.declared.decl.DeclCon.{DeclCon}
use Rattle.gh_typeterm.specs.declared.decl.DeclData.{DeclData}
use Rattle.gh_typeterm.specs.declared.ty.TyNode.{TyNode}
use Rattle.gh_typeterm.specs.declared.ty.TyNode.TheVariants as ty
use Rattle.gh_typeterm.proofs.Folds.{fold-Con, fold-Var, fold-App, fold-Name, term_induction}
use Rattle.gh_core.specs.SameType.{Nameless, bound, free, con, applied, forall, any}
use Rattle.gh_core.specs.Typing.{Program, Kinds, Types_of, Code, a_con, a_tyapp, placed, opened, arrows, arrow_kinds, applied_to, con_of, con_type_of, decl_of, decl_kind, foralls, params_from, at_types, param_index, field_step, field_type, field_types, fields_at, HasKind, HasType, FieldsFit}
use Rattle.gh_kind_index.specs.KindIndex.{slot, base_step, base_at}
use Rattle.gh_kind_index.proofs.Putting.{equal_is, unequal_is}
use Rattle.gh_adapt.specs.Typed.{self_type, types_given}
use Rattle.gh_adapt_laws.specs.PairTypes.{TermHasKind}
use Rattle.gh_adapt.proofs.Placing.{reversed, reversed_none, kinded_opened}
use Rattle.gh_adapt_laws.proofs.FlatTypes.{opened_foralls, IsFlat, AllFlat, flat_arrows, flat_applied, flat_params, flat_all, at_arrows, at_applied, applied_placed, param_case}

-- types of these kinds, written as they stand
abbrev pub Fit : Program → Kinds → List Kind → List Nameless → Type 0
Fit p ks [] [] = Unit {0}
Fit p ks (k ∷ params) (u ∷ us) = (placed ks u ≡ u) × HasKind p.decls ks [] u k × Fit p ks params us
Fit p ks [] (u ∷ us) = ⊥
Fit p ks (k ∷ params) [] = ⊥

pub fit_length : (p : Program) (ks : Kinds) (params : List Kind) (us : List Nameless) → Fit p ks params us → length us ≡ length params
fit_length p ks [] [] h = refl
fit_length p ks (k ∷ params) (u ∷ us) h = ap suc (fit_length p ks params us h.2)
fit_length p ks [] (u ∷ us) h = absurd h
fit_length p ks (k ∷ params) [] h = absurd h

-- the type of a parameter
pub record At (p : Program) (ks : Kinds) (us : List Nameless) (x : ℕ) (k : Kind) : Type 0 where
  pub type : Nameless
  pub there : slice_get us x ≡ Some type
  pub same : placed ks type ≡ type
  pub kinded : HasKind p.decls ks [] type k

pub fit_at : (p : Program) (ks : Kinds) (params : List Kind) (us : List Nameless) (x : ℕ) (k : Kind) → Fit p ks params us → slice_get params x ≡ Some k → At p ks us x k
fit_at p ks [] [] x k h e = absurd (cc)
fit_at p ks [] (u ∷ us) x k h e = absurd h
fit_at p ks (l ∷ params) [] x k h e = absurd h
fit_at p ks (l ∷ params) (u ∷ us) zero k h e = let same : l ≡ k = cc in record { type = u; there = refl; same = h.0; kinded = subst (HasKind p.decls ks [] u) same h.1 }
fit_at p ks (l ∷ params) (u ∷ us) (suc x) k h e = let r = fit_at p ks params us x k h.2 e in record { type = r.type; there = r.there; same = r.same; kinded = r.kinded }

-- ---- the datatype

all_placed : (p : Program) (ks : Kinds) (params : List Kind) (us : List Nameless) → Fit p ks params us → map (placed ks) us ≡ us
all_placed p ks [] [] h = refl
all_placed p ks (k ∷ params) (u ∷ us) h = λ i. h.0 i ∷ all_placed p ks params us h.2 i
all_placed p ks [] (u ∷ us) h = absurd h
all_placed p ks (k ∷ params) [] h = absurd h

pub self_same : (p : Program) (d : DeclData) (ks : Kinds) (us : List Nameless) → Fit p ks d.params us → placed ks (self_type d us) ≡ self_type d us
self_same p d ks us h = applied_placed ks us (con (tycon.Named d.origin)) ∙ ap (applied_to (con (tycon.Named d.origin))) (all_placed p ks d.params us h)

applied_kind : (p : Program) (ks : Kinds) (params : List Kind) (us : List Nameless) (h : Nameless) → Fit p ks params us → HasKind p.decls ks [] h (arrow_kinds params)
    → HasKind p.decls ks [] (applied_to h us) kind.Star
applied_kind p ks [] [] h fit is = is
applied_kind p ks (k ∷ params) (u ∷ us) h fit is = applied_kind p ks params us (applied h u) fit.2 (k, is, fit.1)
applied_kind p ks [] (u ∷ us) h fit is = absurd fit
applied_kind p ks (k ∷ params) [] h fit is = absurd fit

pub self_kind : (p : Program) (d : DeclData) (ks : Kinds) (us : List Nameless) → decl_of p.decls d.origin ≡ Some d → Fit p ks d.params us → HasKind p.decls ks [] (self_type d us) kind.Star
self_kind p d ks us there fit = applied_kind p ks d.params us (con (tycon.Named d.origin)) fit (ap decl_kind there)

-- ---- a constructor

abbrev opened_each : List Nameless → Nameless → Nameless
opened_each [] t = t
opened_each (u ∷ us) t = opened_each us (opened (length us) u t)

given_typed : (p : Program) (ks : Kinds) (gs : Types_of) (params : List Kind) (us : List Nameless) (f : Code) (t : Nameless) → Fit p ks params us
    → HasType p ks gs f (foralls params t) → HasType p ks gs (types_given f us) (opened_each us t)
given_typed p ks gs [] [] f t fit h = h
given_typed p ks gs [] (u ∷ us) f t fit h = absurd fit
given_typed p ks gs (k ∷ params) [] f t fit h = absurd fit
given_typed p ks gs (k ∷ params) (u ∷ us) f t fit h =
    let count : 0 + length params ≡ length us = let l = fit_length p ks params us fit.2 in omega arith in
    given_typed p ks gs params us (a_tyapp f u) (opened (length us) u t) fit.2 (
      k,
      foralls params t,
      h,
      subst (λ z. HasKind p.decls ks [] z k) (sym fit.0) fit.1,
      sym (ap (λ z. opened 0 z (foralls params t)) fit.0 ∙ opened_foralls params 0 u t ∙ ap (λ m. foralls params (opened m u t)) count),
    )

-- no type is put into these
abbrev AreWhole : List Nameless → Type 0
AreWhole [] = Unit {0}
AreWhole (u ∷ us) = ((d : ℕ) (v : Nameless) → opened d v u ≡ u) × AreWhole us

fit_whole : (p : Program) (ks : Kinds) (params : List Kind) (us : List Nameless) → Fit p ks params us → AreWhole us
fit_whole p ks [] [] h = tt
fit_whole p ks (k ∷ params) (u ∷ us) h = (λ d v. kinded_opened p.decls ks [] u k d v h.1 (omega arith), fit_whole p ks params us h.2)
fit_whole p ks [] (u ∷ us) h = absurd h
fit_whole p ks (k ∷ params) [] h = absurd h

each_whole : (us : List Nameless) (t : Nameless) → ((d : ℕ) (v : Nameless) → opened d v t ≡ t) → opened_each us t ≡ t
each_whole [] t h = refl
each_whole (u ∷ us) t h = ap (opened_each us) (h (length us) u) ∙ each_whole us t h

each_bound : (us : List Nameless) (i j : ℕ) (v : Nameless) → AreWhole us → slice_get us i ≡ Some v → j + suc i ≡ length us → opened_each us (bound j) ≡ v
each_bound [] i j v w h e = absurd (cc)
each_bound (u ∷ us) zero j v w h e =
    let same : u ≡ v = cc in
    ap (λ b. opened_each us (cond b u (bound j))) (equal_is j (length us) (omega arith)) ∙ each_whole us u w.0 ∙ same
each_bound (u ∷ us) (suc i) j v w h e =
    ap (λ b. opened_each us (cond b u (bound j))) (unequal_is j (length us) (λ s. omega arith)) ∙ each_bound us i j v w.1 h (omega arith)

each_applied : (us : List Nameless) (f x : Nameless) → opened_each us (applied f x) ≡ applied (opened_each us f) (opened_each us x)
each_applied [] f x = refl
each_applied (u ∷ us) f x = each_applied us (opened (length us) u f) (opened (length us) u x)

-- so all parameters are put at once
at_once : (us : List Nameless) (t : Nameless) → AreWhole us → IsFlat (length us) t → opened_each us t ≡ at_types (reverse us) t
at_once us (bound i) w lt =
    let x : ℕ = length us - suc i in
    let less : x < length us = omega arith in
    let back : i + suc x ≡ length us = omega arith in
    each_bound us x i (get_or us x (bound i)) w (slice_get-get_or us x (bound i) less) back
    ∙ sym (ap (λ o. unwrap_or o (bound i)) (reversed us x i (bound i) less back))
at_once us (free x) w h = each_whole us (free x) (λ d v. refl)
at_once us (con c) w h = each_whole us (con c) (λ d v. refl)
at_once us (applied f x) w h = each_applied us f x ∙ (λ i. applied (at_once us f w h.0 i) (at_once us x w h.1 i))
at_once us (forall k b) w h = absurd h
at_once us (any k) w h = each_whole us (any k) (λ d v. refl)

reversed_some : (us : List Nameless) (i j : ℕ) (v : Nameless) → slice_get us i ≡ Some v → j + suc i ≡ length us → slice_get (reverse us) j ≡ Some v
reversed_some us i j v h e = reversed us i j v (slice_get_within us i v h) e ∙ ap Some (get_or_from_slice_get us i v v h)

params_to : (us rest : List Nameless) (m : ℕ) → m ≤ length us → m ≡ length rest → ((i : ℕ) (v : Nameless) → slice_get rest i ≡ Some v → slice_get us (length us - m + i) ≡ Some v)
    → map (at_types (reverse us)) (params_from m) ≡ rest
params_to us [] zero le e there = refl
params_to us [] (suc m) le e there = absurd (cc)
params_to us (u ∷ rest) zero le e there = absurd (cc)
params_to us (u ∷ rest) (suc m) le e there =
    let back : m + suc (length us - suc m + 0) ≡ length us = omega arith in
    λ i. ap (λ o. unwrap_or o (bound m)) (reversed_some us (length us - suc m + 0) m u (there 0 u refl) back) i
    ∷ params_to us rest m (omega arith) (omega arith)
    (λ j v h. let shift : length us - m + j ≡ length us - suc m + suc j = omega arith in ap (slice_get us) shift ∙ there (suc j) v h) i

pub constructor_at : (p : Program) (d : DeclData) (ks : Kinds) (gs : Types_of) (us : List Nameless) (c : DeclCon) → Fit p ks d.params us → con_of p.decls c.origin ≡ Some (d, c)
    → FieldsFit p.decls (reverse d.params) (field_types d c) → HasType p ks gs (types_given (a_con c.origin) us) (arrows (fields_at (d, c) us) (self_type d us))
constructor_at p d ks gs us c fit known fields =
    let n = length d.params in
    let count = fit_length p ks d.params us fit in
    let answer = applied_to (con (tycon.Named d.origin)) (params_from n) in
    let body = arrows (field_types d c) answer in
    let flat : IsFlat n body = flat_arrows n (field_types d c) answer (flat_all p d c.fields fields) (flat_applied n (params_from n) (con (tycon.Named d.origin)) tt (flat_params n n (omega arith))) in
    let zero_last : length us - n ≡ 0 = omega arith in
    let all : map (at_types (reverse us)) (params_from n) ≡ us =
    params_to us us n (omega arith) (sym count) (λ i v h. let start : length us - n + i ≡ i = omega arith in ap (slice_get us) start ∙ h) in
    subst (HasType p ks gs (types_given (a_con c.origin) us))
    (at_once us body (fit_whole p ks d.params us fit) (subst (λ m. IsFlat m body) (sym count) flat)
    ∙ at_arrows (reverse us) (field_types d c) answer
    ∙ ap (arrows (fields_at (d, c) us)) (at_applied (reverse us) (params_from n) (con (tycon.Named d.origin)) ∙ ap (applied_to (con (tycon.Named d.origin))) all))
    (given_typed p ks gs d.params us (a_con c.origin) body fit (ap con_type_of known))

-- ---- a field

-- the type of a field where the datatype has these types
abbrev pub field_at : List Nameless → ℕ → TyNode → Nameless
field_at us n t = at_types (reverse us) (field_type n t)

abbrev IsSeen : Program → Kinds → List Kind → List Nameless → TyNode → Type 0
IsSeen p ks params us t = (k : Kind) → TermHasKind p.decls params t k → placed ks (base_at us [] t) ≡ field_at us (length params) t

pub field_seen : (p : Program) (ks : Kinds) (params : List Kind) (us : List Nameless) → Fit p ks params us → (t : TyNode) → IsSeen p ks params us t
field_seen p ks params us fit =
    let n = length params in
    let rs = reverse us in
    let count = fit_length p ks params us fit in
    term_induction (IsSeen p ks params us)
    (λ c k h. ap (placed ks) (fold-Con Nameless (base_step us []) c) ∙ sym (ap (at_types rs) (fold-Con Nameless (field_step n) c)))
    (λ x k h.
    param_case params x k (placed ks (base_at us [] (ty.Var x)) ≡ field_at us n (ty.Var x)) (subst (λ z. HasKind p.decls [] (reverse params) z k) (fold-Var Nameless (field_step n) x) h)
    (λ lt is found.
    let at = fit_at p ks params us x k fit found in
    let back : n - suc x + suc x ≡ length us = omega arith in
    ap (placed ks) (fold-Var Nameless (base_step us []) x ∙ ap (λ o. unwrap_or o (unwrap_or (slice_get [] (x - length us)) (any kind.Star))) at.there)
    ∙ at.same
    ∙ sym (ap (at_types rs) (fold-Var Nameless (field_step n) x ∙ ap bound is) ∙ ap (λ o. unwrap_or o (bound (n - suc x))) (reversed_some us x (n - suc x) at.type at.there back))))
    (λ f x q w k h.
    let parts = subst (λ z. HasKind p.decls [] (reverse params) z k) (fold-App Nameless (field_step n) f x) h in
    ap (placed ks) (fold-App Nameless (base_step us []) f x) ∙ (λ i. applied (q (kind.Arrow parts.0 k) parts.1 i) (w parts.0 parts.2 i))
    ∙ sym (ap (at_types rs) (fold-App Nameless (field_step n) f x)))
    (λ m k h.
    let none = sym (subst (λ z. HasKind p.decls [] (reverse params) z k) (fold-Name Nameless (field_step n) m) h) ∙ reversed_none params (n + m) (omega arith) in
    absurd (cc))
