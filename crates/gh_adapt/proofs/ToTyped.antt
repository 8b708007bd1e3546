-- The conversion out of the representation is typed.
use Rattle.std.proofs.Common.{◌≡◌, ℕ, zero, suc, ◌+◌, ◌-◌, ◌<◌, ◌≤◌, ◌⊎◌, inl, inr, true, false, cond, ◌==◌, List, [], ◌∷◌, ◌++◌, length, map, reverse, Some, slice_get, refl, sym, ap, ◌∙◌, subst, arith}
use Rattle.std.proofs.lemmas.Option.{slice_get_within}
use Rattle.std.proofs.lemmas.List.{length-reverse}
use Rattle.std.proofs.lemmas.Bool.{eqb-true}
use Rattle.gh_base.specs.declared.fixed.TheConstants.{UNIT, SUM, PROD, PRODUCT, CON, INL, INR}
use Rattle.gh_base.specs.declared.place.TyCon.{TyCon}
use Rattle.gh_base.specs.declared.place.TyCon.TheVariants as tycon
use Rattle.gh_typeterm.specs.declared.kind.Kind.{Kind}
use Rattle.gh_typeterm.specs.declared.kind.Kind.TheVariants as kind
use Rattle.gh_typeterm.specs.declared.decl.DeclCon.{DeclCon}
use Rattle.gh_typeterm.specs.declared.decl.DeclData.{DeclData}
use Rattle.gh_typeterm.specs.declared.ty.TyNode.{TyNode}
use Rattle.gh_typeterm.proofs.Folds.{fold-Con, fold-Var, fold-App, fold-Name, term_induction}
use Rattle.gh_typeterm.specs.Representation.{layer_of}
use Rattle.gh_core.specs.Primitives.{prelude_value}
use Rattle.gh_core.specs.SameType.{Nameless, bound, free, con, applied, forall, any}
use Rattle.gh_core.specs.Typing.{Program, Kinds, Types_of, Code, a_var, a_con, an_app, a_tyapp, a_lam, a_stop, Branch, con_branch, branches_of, placed, opened, arrow, arrows, applied_to, prelude_type, con_of, con_type_of, foralls, params_from, at_types, HasKind, HasType, AllGive, IsData, FieldsFit, ConsFit, field_step, field_types, field_type, fields_at, var_type, paired}
use Rattle.gh_kind_index.specs.KindIndex.{variables_from}
use Rattle.gh_adapt.specs.Conversions.{nowhere}
use Rattle.gh_adapt.specs.Typed.{at, self_type, sum_at, case_code, types_given, fields_given, con_at, apart_code, layer_case_code, to_case_code, to_code}
use Rattle.gh_adapt.specs.Types.{HasShapes, Knows, ConsKnown, for_params, to_type, sum_data, product_data, unit_data, layer_data, inl_con, inr_con, product_con, unit_con, layer_con}
use Rattle.gh_adapt.proofs.Placing.{keeps_none, inside_keeps, kind_inside, seen_var}
use Rattle.gh_adapt.proofs.Running.{equal_is, unequal_is}
use Rattle.gh_adapt.proofs.Shapes.{joined_types, own, fields_seen, fields_are, layer_type, sum_type, sum_placed, sum_value, HasFields, first_of_two, second_of_two, only_of_one}
use Rattle.gh_adapt.proofs.FromTyped.{round, self_placed, self_value, else_there, tylams_typed, params_placed}

-- ---- a constructor at the variables of its datatype

-- the body of a type for all types, one variable after another
abbrev opened_one_by_one : ℕ → ℕ → Nameless → Nameless
opened_one_by_one level zero t = t
opened_one_by_one level (suc n) t = opened_one_by_one (suc level) n (opened n (free level) t)

opened_foralls : (ks : List Kind) (d : ℕ) (u t : Nameless) → opened d u (foralls ks t) ≡ foralls ks (opened (d + length ks) u t)
opened_foralls [] d u t = let e : d ≡ d + 0 = omega arith in ap (λ m. opened m u t) e
opened_foralls (k ∷ ks) d u t =
    let e : suc d + length ks ≡ d + suc (length ks) = omega arith in
    ap (forall k) (opened_foralls ks (suc d) u t ∙ ap (λ m. foralls ks (opened m u t)) e)

given_typed : (p : Program) (ks : Kinds) (gs : Types_of) (params : List Kind) (level : ℕ) (f : Code) (t : Nameless)
    → ((x : ℕ) (k : Kind) → slice_get params x ≡ Some k → HasKind p.decls ks [] (placed ks (free (level + x))) k × (placed ks (free (level + x)) ≡ free (level + x)))
    → HasType p ks gs f (foralls params t) → HasType p ks gs (types_given f (variables_from level (length params))) (opened_one_by_one level (length params) t)
given_typed p ks gs [] level f t each h = h
given_typed p ks gs (k ∷ params) level f t each h =
    let zero_last : level + 0 ≡ level = omega arith in
    let here = each 0 k refl in
    let is : placed ks (free level) ≡ free level = subst (λ x. placed ks (free x) ≡ free x) zero_last here.1 in
    let zero_first : 0 + length params ≡ length params = omega arith in
    given_typed p ks gs params (suc level) (a_tyapp f (free level)) (opened (length params) (free level) t)
    (λ x l e. let shift : level + suc x ≡ suc level + x = omega arith in
    subst (λ z. HasKind p.decls ks [] (placed ks (free z)) l × (placed ks (free z) ≡ free z)) shift (each (suc x) l e)) (
      k,
      foralls params t,
      h,
      subst (λ x. HasKind p.decls ks [] (placed ks (free x)) k) zero_last here.0,
      sym (ap (λ u. opened 0 u (foralls params t)) is ∙ opened_foralls params 0 (free level) t ∙ ap (λ m. foralls params (opened m (free level) t)) zero_first),
    )

-- types without quantifiers, whose bound variables are below a number
abbrev IsFlat : ℕ → Nameless → Type 0
IsFlat n (bound i) = i < n
IsFlat n (free x) = Unit {0}
IsFlat n (con c) = Unit {0}
IsFlat n (applied f x) = IsFlat n f × IsFlat n x
IsFlat n (forall k b) = ⊥
IsFlat n (any k) = Unit {0}

one_by_one_free : (level n x : ℕ) → opened_one_by_one level n (free x) ≡ free x
one_by_one_free level zero x = refl
one_by_one_free level (suc n) x = one_by_one_free (suc level) n x

one_by_one_con : (level n : ℕ) (c : TyCon) → opened_one_by_one level n (con c) ≡ con c
one_by_one_con level zero c = refl
one_by_one_con level (suc n) c = one_by_one_con (suc level) n c

one_by_one_any : (level n : ℕ) (k : Kind) → opened_one_by_one level n (any k) ≡ any k
one_by_one_any level zero k = refl
one_by_one_any level (suc n) k = one_by_one_any (suc level) n k

one_by_one_applied : (level n : ℕ) (f x : Nameless) → opened_one_by_one level n (applied f x) ≡ applied (opened_one_by_one level n f) (opened_one_by_one level n x)
one_by_one_applied level zero f x = refl
one_by_one_applied level (suc n) f x = one_by_one_applied (suc level) n (opened n (free level) f) (opened n (free level) x)

one_by_one_bound : (level n i : ℕ) → i < n → opened_one_by_one level n (bound i) ≡ free (level + (n - suc i))
one_by_one_bound level zero i lt = absurd (omega arith)
one_by_one_bound level (suc n) i lt =
    elim (i == n) as (λ b. (i == n) ≡ b → opened_one_by_one (suc level) n (cond (i == n) (free level) (bound i)) ≡ free (level + (suc n - suc i))) [
      | true ↦ (λ e.
          let is = eqb-true i n e in
          let at_start : level ≡ level + (suc n - suc i) = omega arith in
          ap (λ b. opened_one_by_one (suc level) n (cond b (free level) (bound i))) e ∙ one_by_one_free (suc level) n level ∙ ap free at_start)
      | false ↦ (λ e.
          let apart : i ≡ n → ⊥ = λ h. let k = equal_is i n h in absurd (cc) in
          let shift : suc level + (n - suc i) ≡ level + (suc n - suc i) = omega arith in
          ap (λ b. opened_one_by_one (suc level) n (cond b (free level) (bound i))) e ∙ one_by_one_bound (suc level) n i (omega arith) ∙ ap free shift)
    ] refl

-- so all parameters are put at once
at_once : (n : ℕ) (t : Nameless) → IsFlat n t → opened_one_by_one 0 n t ≡ at_types (reverse (variables_from 0 n)) t
at_once n (bound i) lt =
    let x : ℕ = n - suc i in
    let less : x < n = omega arith in
    let back : i ≡ n - suc x = omega arith in
    let zero_first : 0 + (n - suc i) ≡ n - suc i = omega arith in
    one_by_one_bound 0 n i lt ∙ ap free zero_first ∙ sym (seen_var n x i less back)
at_once n (free x) h = one_by_one_free 0 n x
at_once n (con c) h = one_by_one_con 0 n c
at_once n (applied f x) h = one_by_one_applied 0 n f x ∙ (λ i. applied (at_once n f h.0 i) (at_once n x h.1 i))
at_once n (forall k b) h = absurd h
at_once n (any k) h = one_by_one_any 0 n k

flat_fields : (p : Program) (d : DeclData) (t : TyNode) (k : Kind) → HasKind p.decls [] (reverse d.params) (field_type (length d.params) t) k → IsFlat (length d.params) (field_type (length d.params) t)
flat_fields p d =
    let n = length d.params in
    term_induction (λ t. (k : Kind) → HasKind p.decls [] (reverse d.params) (field_type n t) k → IsFlat n (field_type n t))
    (λ c k h. subst (IsFlat n) (sym (fold-Con Nameless (field_step n) c)) tt)
    (λ x k h.
    let lt = slice_get_within (reverse d.params) _ k (subst (λ z. HasKind p.decls [] (reverse d.params) z k) (fold-Var Nameless (field_step n) x) h) in
    let l = length-reverse d.params in
    subst (IsFlat n) (sym (fold-Var Nameless (field_step n) x)) (omega arith))
    (λ f x q r k h.
    let parts = subst (λ z. HasKind p.decls [] (reverse d.params) z k) (fold-App Nameless (field_step n) f x) h in
    subst (IsFlat n) (sym (fold-App Nameless (field_step n) f x)) (q (kind.Arrow parts.0 k) parts.1, r parts.0 parts.2))
    (λ m k h.
    let lt = slice_get_within (reverse d.params) _ k (subst (λ z. HasKind p.decls [] (reverse d.params) z k) (fold-Name Nameless (field_step n) m) h) in
    let l = length-reverse d.params in
    subst (IsFlat n) (sym (fold-Name Nameless (field_step n) m)) (omega arith))

abbrev AllFlat : ℕ → List Nameless → Type 0
AllFlat n [] = Unit {0}
AllFlat n (t ∷ ts) = IsFlat n t × AllFlat n ts

flat_arrows : (n : ℕ) (ts : List Nameless) (t : Nameless) → AllFlat n ts → IsFlat n t → IsFlat n (arrows ts t)
flat_arrows n [] t h g = g
flat_arrows n (u ∷ ts) t h g = ((tt, h.0), flat_arrows n ts t h.1 g)

flat_applied : (n : ℕ) (ts : List Nameless) (h : Nameless) → IsFlat n h → AllFlat n ts → IsFlat n (applied_to h ts)
flat_applied n [] h g e = g
flat_applied n (t ∷ ts) h g e = flat_applied n ts (applied h t) (g, e.0) e.1

flat_params : (n m : ℕ) → m ≤ n → AllFlat n (params_from m)
flat_params n zero le = tt
flat_params n (suc m) le = (omega arith, flat_params n m (omega arith))

flat_all : (p : Program) (d : DeclData) (fields : List TyNode) → FieldsFit p.decls (reverse d.params) (map (field_type (length d.params)) fields) → AllFlat (length d.params) (map (field_type (length d.params)) fields)
flat_all p d [] fit = tt
flat_all p d (t ∷ fields) fit = (flat_fields p d t kind.Star fit.0, flat_all p d fields fit.1)

at_arrows : (rs ts : List Nameless) (t : Nameless) → at_types rs (arrows ts t) ≡ arrows (map (at_types rs) ts) (at_types rs t)
at_arrows rs [] t = refl
at_arrows rs (u ∷ ts) t = ap (arrow (at_types rs u)) (at_arrows rs ts t)

at_applied : (rs ts : List Nameless) (h : Nameless) → at_types rs (applied_to h ts) ≡ applied_to (at_types rs h) (map (at_types rs) ts)
at_applied rs [] h = refl
at_applied rs (t ∷ ts) h = at_applied rs ts (applied h t)

params_seen : (n m : ℕ) → m ≤ n → map (at_types (reverse (variables_from 0 n))) (params_from m) ≡ variables_from (n - m) m
params_seen n zero le = refl
params_seen n (suc m) le =
    let x : ℕ = n - suc m in
    let less : x < n = omega arith in
    let back : m ≡ n - suc x = omega arith in
    let next : n - m ≡ suc x = omega arith in
    λ i. seen_var n x m less back i ∷ (params_seen n m (omega arith) ∙ ap (λ l. variables_from l m) next) i

constructor_typed : (p : Program) (d : DeclData) (gs : Types_of) (c : DeclCon) → Knows p d → con_of p.decls c.origin ≡ Some (d, c) → FieldsFit p.decls (reverse d.params) (field_types d c)
    → HasType p (round d) gs (con_at c.origin (own d)) (arrows (fields_seen d c.fields) (self_type d (own d)))
constructor_typed p d gs c knows known fit =
    let n = length d.params in
    let rs = reverse (own d) in
    let body = arrows (field_types d c) (applied_to (con (tycon.Named d.origin)) (params_from n)) in
    let zero_last : n - n ≡ 0 = omega arith in
    let flat = flat_arrows n (field_types d c) (applied_to (con (tycon.Named d.origin)) (params_from n)) (flat_all p d c.fields fit)
    (flat_applied n (params_from n) (con (tycon.Named d.origin)) tt (flat_params n n (omega arith))) in
    let is : opened_one_by_one 0 n body ≡ arrows (fields_seen d c.fields) (self_type d (own d)) =
    at_once n body flat ∙ at_arrows rs (field_types d c) (applied_to (con (tycon.Named d.origin)) (params_from n))
    ∙ (λ i. arrows (fields_are d c i) ((at_applied rs (params_from n) (con (tycon.Named d.origin)) ∙ ap (applied_to (con (tycon.Named d.origin))) (params_seen n n (omega arith) ∙ ap (λ l. variables_from l n) zero_last)) i)) in
    subst (HasType p (round d) gs (con_at c.origin (own d))) is
    (given_typed p (round d) gs d.params 0 (a_con c.origin) body
    (λ x k e.
    let zero_first : x ≡ 0 + x = omega arith in
    let level = inside_keeps d.params x (slice_get_within d.params x k e) in
    subst (λ z. HasKind p.decls (round d) [] (placed (round d) (free z)) k × (placed (round d) (free z) ≡ free z)) zero_first
    (subst (λ z. HasKind p.decls (round d) [] (free z) k) (sym level) (kind_inside d.params x k e), ap free level))
    (ap con_type_of known))

fields_typed : (p : Program) (ks : Kinds) (gs : Types_of) (us : List Nameless) (n i : ℕ) (f : Code) (t : Nameless) → n ≡ length us → HasType p ks gs f (arrows us t) → HasFields gs i us
    → HasType p ks gs (fields_given f i n) t
fields_typed p ks gs [] zero i f t e h g = h
fields_typed p ks gs [] (suc n) i f t e h g = absurd (cc)
fields_typed p ks gs (u ∷ us) zero i f t e h g = absurd (cc)
fields_typed p ks gs (u ∷ us) (suc n) i f t e h g = fields_typed p ks gs us n (suc i) (an_app f (a_var (suc i))) t (omega arith) (u, h, g.0) g.1

-- ---- cases

-- a case on what is looked at, of a datatype, with an `else`
looked_at : (p : Program) (ks : Kinds) (gs : Types_of) (a t s : Nameless) (d : DeclData) (ts : List Nameless) (bs : List Branch) → var_type gs 0 ≡ Some s → IsData p.decls s d ts
    → HasKind p.decls ks [] t kind.Star → placed ks a ≡ t → AllGive p ks gs s t (branches_of bs (Some (a_stop nowhere a))) → HasType p ks gs (case_code (a_var 0) a bs) t
looked_at p ks gs a t s d ts bs there is value at gives =
    (s, there, subst (λ z. HasKind p.decls ks [] z kind.Star) (sym at) value, sym at, inl (d, ts, is), gives, inl (else_there bs (a_stop nowhere a)))

stops : (p : Program) (ks : Kinds) (gs : Types_of) (a t : Nameless) → HasKind p.decls ks [] t kind.Star → placed ks a ≡ t → HasType p ks gs (a_stop nowhere a) t
stops p ks gs a t value at = (subst (λ z. HasKind p.decls ks [] z kind.Star) (sym at) value, sym at)

-- the fields before this one have the types that they had
abbrev Before : Types_of → Types_of → ℕ → Type 0
Before gs new i = (j : ℕ) → j < i → var_type new (suc j) ≡ var_type gs (suc j)

bound_to : (a : Nameless) (i n : ℕ) (b : Code) → ((apart_code a i (suc n) b).0 ≡ 0) ⊎ ((apart_code a i (suc n) b).0 ≡ suc i)
bound_to a i zero b = inr refl
bound_to a i (suc n) b = inl refl

not_field : (r i j : ℕ) → (r ≡ 0) ⊎ (r ≡ suc (suc i)) → j ≤ i → r ≡ suc j → ⊥
not_field r i j (inl e) le is = omega arith
not_field r i j (inr e) le is = omega arith

of_product : (p : Program) → HasShapes p → (a b : Nameless) → IsData p.decls (applied (applied (con (prelude_type PROD)) a) b) product_data (a ∷ b ∷ [])
of_product p shapes a b = record { there = shapes.product; type = refl; whole = refl }

of_sum : (p : Program) → HasShapes p → (a b : Nameless) → IsData p.decls (applied (applied (con (prelude_type SUM)) a) b) sum_data (a ∷ b ∷ [])
of_sum p shapes a b = record { there = shapes.sum; type = refl; whole = refl }

of_layer : (p : Program) → HasShapes p → (a : Nameless) → IsData p.decls (applied (con (prelude_type CON)) a) layer_data (a ∷ [])
of_layer p shapes a = record { there = shapes.layer; type = refl; whole = refl }

of_unit : (p : Program) → HasShapes p → IsData p.decls (con (prelude_type UNIT)) unit_data []
of_unit p shapes = record { there = shapes.unit; type = refl; whole = refl }

product_fields : (a b : Nameless) → fields_at (product_data, product_con) (a ∷ b ∷ []) ≡ a ∷ b ∷ []
product_fields a b = λ i. at_types (b ∷ a ∷ []) (first_of_two i) ∷ at_types (b ∷ a ∷ []) (second_of_two i) ∷ []

layer_fields : (a : Nameless) → fields_at (layer_data, layer_con) (a ∷ []) ≡ a ∷ []
layer_fields a = λ i. at_types (a ∷ []) (only_of_one i) ∷ []

left_fields : (a b : Nameless) → fields_at (sum_data, inl_con) (a ∷ b ∷ []) ≡ a ∷ []
left_fields a b = λ i. at_types (b ∷ a ∷ []) (first_of_two i) ∷ []

right_fields : (a b : Nameless) → fields_at (sum_data, inr_con) (a ∷ b ∷ []) ≡ b ∷ []
right_fields a b = λ i. at_types (b ∷ a ∷ []) (second_of_two i) ∷ []

apart_typed : (p : Program) (d : DeclData) (gs : Types_of) (a t : Nameless) (us : List Nameless) (n i : ℕ) (b : Code) → HasShapes p → n ≡ length us
    → HasKind p.decls (round d) [] t kind.Star → placed (round d) a ≡ t → var_type gs (apart_code a i n b).0 ≡ Some (joined_types PROD us)
    → ((new : Types_of) → Before gs new i → HasFields new i us → HasType p (round d) new b t) → HasType p (round d) gs (apart_code a i n b).1 t
apart_typed p d gs a t [] (suc n) i b shapes e value at there next = absurd (cc)
apart_typed p d gs a t (u ∷ us) zero i b shapes e value at there next = absurd (cc)
apart_typed p d gs a t (u ∷ w ∷ us) (suc zero) i b shapes e value at there next = absurd (omega arith)
apart_typed p d gs a t (u ∷ []) (suc (suc n)) i b shapes e value at there next = absurd (omega arith)
apart_typed p d gs a t [] zero i b shapes e value at there next =
    looked_at p (round d) gs a t (con (prelude_type UNIT)) unit_data [] (con_branch (prelude_value UNIT) [] b ∷ []) there (of_unit p shapes) value at
    (((unit_data, unit_con), [], shapes.nothing, of_unit p shapes, refl, next gs (λ j lt. refl) tt), stops p (round d) gs a t value at)
apart_typed p d gs a t (u ∷ []) (suc zero) i b shapes e value at there next = next gs (λ j lt. refl) (there, tt)
apart_typed p d gs a t (u ∷ w ∷ us) (suc (suc n)) i b shapes e value at there next =
    let rest = joined_types PROD (w ∷ us) in
    let r = (apart_code a (suc i) (suc n) b).0 in
    let body = (apart_code a (suc i) (suc n) b).1 in
    let inner : Types_of = (suc i, Some u) ∷ (r, Some rest) ∷ gs in
    let place = bound_to a (suc i) n b in
    let rest_there : var_type inner r ≡ Some rest =
    ap (λ v. cond v (Some u) (cond (r == r) (Some rest) (var_type gs r))) (unequal_is (suc i) r (λ h. not_field r i i place (omega arith) (sym h)))
    ∙ ap (λ v. cond v (Some rest) (var_type gs r)) (equal_is r r refl) in
    let first_there : var_type inner (suc i) ≡ Some u = ap (λ v. cond v (Some u) (var_type ((r, Some rest) ∷ gs) (suc i))) (equal_is (suc i) (suc i) refl) in
    let kept : Before gs inner i = λ j lt.
    ap (λ v. cond v (Some u) (cond (r == suc j) (Some rest) (var_type gs (suc j)))) (unequal_is (suc i) (suc j) (λ h. omega arith))
    ∙ ap (λ v. cond v (Some rest) (var_type gs (suc j))) (unequal_is r (suc j) (not_field r i j place (omega arith))) in
    looked_at p (round d) gs a t (joined_types PROD (u ∷ w ∷ us)) product_data (u ∷ rest ∷ []) (con_branch (prelude_value PRODUCT) (suc i ∷ r ∷ []) body ∷ []) there (of_product p shapes u rest) value at (
      (
        (product_data, product_con),
        u ∷ rest ∷ [],
        shapes.pair,
        of_product p shapes u rest,
        refl,
        subst (λ l. HasType p (round d) (paired (suc i ∷ r ∷ []) l ++ gs) body t) (sym (product_fields u rest))
            (apart_typed p d inner a t (w ∷ us) (suc n) (suc i) b shapes (omega arith) value at rest_there
            (λ new before fields. next new (λ j lt. before j (omega arith) ∙ kept j lt) (before i (omega arith) ∙ first_there, fields))),
      ),
      stops p (round d) gs a t value at,
    )

layer_typed : (p : Program) (d : DeclData) (gs : Types_of) (c : DeclCon) (a : Nameless) → Knows p d → con_of p.decls c.origin ≡ Some (d, c) → FieldsFit p.decls (reverse d.params) (field_types d c)
    → placed (round d) a ≡ self_type d (own d) → var_type gs 0 ≡ Some (layer_type d c.fields) → HasType p (round d) gs (layer_case_code (own d) a c) (self_type d (own d))
layer_typed p d gs c a knows known fit at there =
    let t = self_type d (own d) in
    let value = self_value p d knows in
    let us = fields_seen d c.fields in
    let n = length c.fields in
    let b = fields_given (con_at c.origin (own d)) 0 n in
    let count : n ≡ length us = sym (seen_length d c.fields) in
    let r = (apart_code a 0 n b).0 in
    let body = (apart_code a 0 n b).1 in
    let product = joined_types PROD us in
    let inner : Types_of = (r, Some product) ∷ gs in
    looked_at p (round d) gs a t (layer_type d c.fields) layer_data (product ∷ []) (con_branch (prelude_value CON) (r ∷ []) body ∷ []) there (of_layer p knows.shapes product) value at (
      (
        (layer_data, layer_con),
        product ∷ [],
        knows.shapes.put_on,
        of_layer p knows.shapes product,
        refl,
        subst (λ l. HasType p (round d) (paired (r ∷ []) l ++ gs) body t) (sym (layer_fields product))
            (apart_typed p d inner a t us n 0 b knows.shapes count value at
            (ap (λ v. cond v (Some product) (var_type gs r)) (equal_is r r refl))
            (λ new before fields. fields_typed p (round d) new us n 0 (con_at c.origin (own d)) t count (constructor_typed p d new c knows known fit) fields)),
      ),
      stops p (round d) gs a t value at,
    )
  where
    seen_length : (d : DeclData) (fields : List TyNode) → length (fields_seen d fields) ≡ length fields
    seen_length d [] = refl
    seen_length d (t ∷ fields) = ap suc (seen_length d fields)

to_case_typed : (p : Program) (d : DeclData) (gs : Types_of) (cs : List DeclCon) (a : Nameless) → Knows p d → ConsKnown p d cs → ConsFit p.decls d cs
    → placed (round d) a ≡ self_type d (own d) → var_type gs 0 ≡ Some (sum_type d cs) → HasType p (round d) gs (to_case_code (own d) a cs) (self_type d (own d))
to_case_typed p d gs [] a knows known fit at there = stops p (round d) gs a (self_type d (own d)) (self_value p d knows) at
to_case_typed p d gs (c ∷ []) a knows known fit at there = layer_typed p d gs c a knows known.0 fit.0 at there
to_case_typed p d gs (c ∷ e ∷ es) a knows known fit at there =
    let t = self_type d (own d) in
    let value = self_value p d knows in
    let left = layer_type d c.fields in
    let right = sum_type d (e ∷ es) in
    looked_at p (round d) gs a t (sum_type d (c ∷ e ∷ es)) sum_data (left ∷ right ∷ [])
    (con_branch (prelude_value INL) (0 ∷ []) (layer_case_code (own d) a c) ∷ con_branch (prelude_value INR) (0 ∷ []) (to_case_code (own d) a (e ∷ es)) ∷ []) there (of_sum p knows.shapes left right) value at (
      (
        (sum_data, inl_con),
        left ∷ right ∷ [],
        knows.shapes.left,
        of_sum p knows.shapes left right,
        refl,
        subst (λ l. HasType p (round d) (paired (0 ∷ []) l ++ gs) (layer_case_code (own d) a c) t) (sym (left_fields left right))
            (layer_typed p d ((0, Some left) ∷ gs) c a knows known.0 fit.0 at refl),
      ),
      (
        (
          (sum_data, inr_con),
          left ∷ right ∷ [],
          knows.shapes.right,
          of_sum p knows.shapes left right,
          refl,
          subst (λ l. HasType p (round d) (paired (0 ∷ []) l ++ gs) (to_case_code (own d) a (e ∷ es)) t) (sym (right_fields left right))
              (to_case_typed p d ((0, Some right) ∷ gs) (e ∷ es) a knows known.1 fit.1 at refl),
        ),
        stops p (round d) gs a t value at,
      ),
    )

pub to_typed : (p : Program) (d : DeclData) → Knows p d → HasType p [] [] (to_code d) (placed [] (to_type d))
to_typed p d knows =
    let keeps = inside_keeps d.params in
    let none = keeps_none (length d.params) in
    let self = self_type d (own d) in
    let sum = sum_type d d.constructors in
    let written = sum_at (own d) (map layer_of d.constructors) in
    let sum_is = sum_placed p d (round d) keeps d.constructors knows.fields in
    let body = to_case_typed p d ((0, Some sum) ∷ []) d.constructors self knows knows.constructors knows.fields (self_placed d (round d) keeps) refl in
    let function : HasType p (round d) [] (a_lam 0 written (to_case_code (own d) self d.constructors)) (arrow sum self) = (
      self,
      subst (λ z. HasKind p.decls (round d) [] z kind.Star) (sym sum_is) (sum_value p d knows.shapes d.constructors knows.fields),
      subst (λ z. HasType p (round d) ((0, Some z) ∷ []) (to_case_code (own d) self d.constructors) self) (sym sum_is) body,
      ap (λ z. arrow z self) (sym sum_is),
    ) in
    subst (HasType p [] [] (to_code d))
    (sym (params_placed 0 d.params (arrow written self)
    ∙ (λ i. for_params 0 d.params (arrow (sum_placed p d [] none d.constructors knows.fields i) (self_placed d [] none i)))))
    (tylams_typed p [] 0 d.params [] (a_lam 0 written (to_case_code (own d) self d.constructors)) (arrow sum self) refl function)
