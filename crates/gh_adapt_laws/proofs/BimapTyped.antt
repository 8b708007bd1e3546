-- The pair of conversions of a datatype is typed.
use Rattle.std.proofs.Common.{◌≡◌, ℕ, zero, suc, ◌+◌, ◌-◌, ◌<◌, ◌≤◌, cond, ◌==◌, inl, List, [], ◌∷◌, ◌++◌, length, map, max, reverse, Option, Some, None, slice_get, unwrap_or, refl, sym, ap, ◌∙◌, subst, arith}
use Rattle.std.proofs.lemmas.Option.{slice_get_within}
use Rattle.gh_base.specs.declared.place.TyCon.TheVariants as tycon
use Rattle.gh_typeterm.specs.declared.kind.Kind.{Kind}
use Rattle.gh_typeterm.specs.declared.kind.Kind.TheVariants as kind
use Rattle.gh_typeterm.specs.declared.decl.DeclCon.{DeclCon}
use Rattle.gh_typeterm.specs.declared.decl.DeclData.{DeclData}
use Rattle.gh_typeterm.specs.declared.ty.TyNode.{TyNode}
use Rattle.gh_core.specs.SameType.{Nameless, free, con, applied, forall, any}
use Rattle.gh_core.specs.Typing.{Program, Kinds, Types_of, Code, a_var, a_con, a_lam, an_app, a_tylam, a_stop, Branch, con_branch, branches_of, placed, level_in, closed_over, arrow, arrows, arrow_kinds, applied_to, con_of, field_type, field_types, fields_at, at_types, var_type, paired, kind_at, HasKind, HasType, AllGive, IsData, FieldsFit, ConsFit}
use Rattle.gh_kind_index.specs.KindIndex.{slot, base_at}
use Rattle.gh_kind_index.specs.Levels.{above_all}
use Rattle.gh_kind_index.proofs.Putting.{Fits, equal_is, unequal_is}
use Rattle.gh_adapt.specs.Conversions.{nowhere, field_names}
use Rattle.gh_adapt.specs.declared.ways.Way.{Way}
use Rattle.gh_adapt.specs.declared.ways.Way.TheVariants.{Forth, Back}
use Rattle.gh_adapt.specs.Types.{ConsKnown}
use Rattle.gh_adapt.specs.Typed.{self_type, case_code, types_given}
use Rattle.gh_adapt.specs.TypedPairs.{ep_type, id_code, pair_code, pair_at_code, converted_code, every_second, param_codes, source, target, rebuilt_code, rebuilding_branch, rebuild_code, param_type, with_params, bimap_code}
use Rattle.gh_adapt_laws.specs.PairTypes.{HasPairs, bimap_type, HaveBimaps, datatypes_in, TermHasKind, FieldsHaveBimaps, ConsHaveBimaps, KnowsBimaps, BimapTyped}
use Rattle.gh_adapt.proofs.Placing.{Keeps, inside, inside_keeps, inside_length, kind_inside}
use Rattle.gh_adapt_laws.proofs.FlatTypes.{Leveled, leveled_more}
use Rattle.gh_adapt.proofs.Shapes.{HasFields, fields_bound}
use Rattle.gh_adapt.proofs.FromTyped.{names_length, else_there}
use Rattle.gh_adapt_laws.proofs.PairKinds.{kind_at_more, kind_last, ep_at, under_two, ep_star, ep_arrow, ep_any, ep_kind, place, placed_pair}
use Rattle.gh_adapt_laws.proofs.PairParts.{pair_typed, select_typed}
use Rattle.gh_adapt_laws.proofs.PairTyped.{pair_moved, LeavesFit, pair_at_typed}
use Rattle.gh_adapt_laws.proofs.AtTypes.{Fit, fit_length, self_same, self_kind, constructor_at, field_at, field_seen}

-- ---- the parameters

-- the same functions, the first type variable of a parameter given
abbrev with_params_from : ℕ → ℕ → List Kind → Code → Code
with_params_from i m [] b = b
with_params_from i m (k ∷ ks) b = a_tylam m k (a_tylam (suc m) k (a_lam i (param_type m k) (with_params_from (suc i) (suc (suc m)) ks b)))

with_same : (i m : ℕ) (ks : List Kind) (b : Code) → i + i ≡ m → with_params i ks b ≡ with_params_from i m ks b
with_same i m [] b e = refl
with_same i m (k ∷ ks) b e =
    let rest = with_same (suc i) (suc (suc m)) ks b (omega arith) in
    λ j. a_tylam (e j) k (a_tylam (suc (e j)) k (a_lam i (param_type (e j) k) (rest j)))

-- the kinds of the type variables: two for each parameter
abbrev twice : List Kind → List Kind
twice [] = []
twice (k ∷ ks) = k ∷ k ∷ twice ks

-- the variables of the pairs, with their types
abbrev pair_vars : ℕ → ℕ → List Kind → Types_of → Types_of
pair_vars i m [] gs = gs
pair_vars i m (k ∷ ks) gs = pair_vars (suc i) (suc (suc m)) ks ((i, Some (ep_at (suc (suc m)) k (free m) (free (suc m)))) ∷ gs)

params_typed : (p : Program) → HasPairs p → (params : List Kind) (i : ℕ) (acc : Kinds) (gs : Types_of) (f g : Nameless) (b : Code) → Leveled acc (length acc)
    → HasType p (inside (length acc) (twice params) acc) (pair_vars i (length acc) params gs) b
    (ep_type (applied_to f (every_second (length acc) (length params))) (applied_to g (every_second (suc (length acc)) (length params))))
    → HasType p acc gs (with_params_from i (length acc) params b) (ep_at (length acc) (arrow_kinds params) f g)
params_typed p known [] i acc gs f g b lev h = subst (HasType p acc gs b) (sym (ep_star (length acc) f g)) h
params_typed p known (k ∷ params) i acc gs f g b lev h =
    let m = length acc in
    let l = arrow_kinds params in
    let acc1 : Kinds = (m, k) ∷ acc in
    let acc2 : Kinds = (suc m, k) ∷ acc1 in
    let lev2 : Leveled acc2 (suc (suc m)) = leveled_more (suc m) k acc1 refl (leveled_more m k acc refl lev) in
    let first : level_in acc2 m (suc (suc m)) ≡ m = lev2 m (suc (suc m)) (omega arith) in
    let second : level_in acc2 (suc m) (suc (suc m)) ≡ suc m = lev2 (suc m) (suc (suc m)) (omega arith) in
    let fits : Fits (place acc2) (above_all (free m ∷ free (suc m) ∷ [])) (suc (suc m)) =
    λ x lt. let e = lev2 x (suc (suc m)) (omega arith) in omega arith in
    let t = ep_at (suc (suc m)) k (free m) (free (suc m)) in
    let is : placed acc2 (param_type m k) ≡ t =
    placed_pair acc2 (suc (suc m)) k (free m) (free (suc m)) tt tt fits ∙ (λ j. ep_at (suc (suc m)) k (free (first j)) (free (second j))) in
    let value : HasKind p.decls acc2 [] t kind.Star =
    ep_kind p known k acc2 (free m) (free (suc m)) (kind_at_more acc1 (suc m) k m k (kind_last acc m k)) (kind_last acc1 (suc m) k) in
    let rest = with_params_from (suc i) (suc (suc m)) params b in
    let u = ep_at (suc (suc m)) l (applied f (free m)) (applied g (free (suc m))) in
    let inner : HasType p acc2 ((i, Some t) ∷ gs) rest u = params_typed p known params (suc i) acc2 ((i, Some t) ∷ gs) (applied f (free m)) (applied g (free (suc m))) b lev2 h in
    let function : HasType p acc2 gs (a_lam i (param_type m k) rest) (under_two m k l f g) =
    (u, subst (λ z. HasKind p.decls acc2 [] z kind.Star) (sym is) value, subst (λ z. HasType p acc2 ((i, Some z) ∷ gs) rest u) (sym is) inner, ap (λ z. arrow z u) (sym is)) in
    subst (HasType p acc gs (with_params_from i m (k ∷ params) b)) (sym (ep_arrow m k l f g))
    (forall k (closed_over (suc m) 0 (under_two m k l f g)), (under_two m k l f g, function, refl), refl)

-- ---- the variables inside

twice_even : (params : List Kind) (x y : ℕ) (k : Kind) → y ≡ x + x → slice_get params x ≡ Some k → slice_get (twice params) y ≡ Some k
twice_even [] x y k e h = absurd (cc)
twice_even (l ∷ params) zero y k e h = let start : y ≡ 0 = omega arith in ap (slice_get (twice (l ∷ params))) start ∙ h
twice_even (l ∷ params) (suc x) y k e h =
    let shift : y ≡ suc (suc (x + x)) = omega arith in ap (slice_get (twice (l ∷ params))) shift ∙ twice_even params x (x + x) k refl h

twice_odd : (params : List Kind) (x y : ℕ) (k : Kind) → y ≡ suc (x + x) → slice_get params x ≡ Some k → slice_get (twice params) y ≡ Some k
twice_odd [] x y k e h = absurd (cc)
twice_odd (l ∷ params) zero y k e h = let start : y ≡ 1 = omega arith in ap (slice_get (twice (l ∷ params))) start ∙ h
twice_odd (l ∷ params) (suc x) y k e h =
    let shift : y ≡ suc (suc (suc (x + x))) = omega arith in ap (slice_get (twice (l ∷ params))) shift ∙ twice_odd params x (suc (x + x)) k refl h

twice_length : (params : List Kind) → length (twice params) ≡ length params + length params
twice_length [] = refl
twice_length (k ∷ params) = let h = twice_length params in omega arith

second_at : (w n x : ℕ) → x < n → slice_get (every_second w n) x ≡ Some (free (w + (x + x)))
second_at w zero x lt = absurd (omega arith)
second_at w (suc n) zero lt = let e : w ≡ w + 0 = omega arith in ap (λ l. Some (free l)) e
second_at w (suc n) (suc x) lt =
    let e : suc (suc w) + (x + x) ≡ w + (suc x + suc x) = omega arith in second_at (suc (suc w)) n x (omega arith) ∙ ap (λ l. Some (free l)) e

code_at : (i n x : ℕ) → x < n → slice_get (param_codes i n) x ≡ Some (a_var (i + x))
code_at i zero x lt = absurd (omega arith)
code_at i (suc n) zero lt = let e : i ≡ i + 0 = omega arith in ap (λ l. Some (a_var l)) e
code_at i (suc n) (suc x) lt = let e : suc i + x ≡ i + suc x = omega arith in code_at (suc i) n x (omega arith) ∙ ap (λ l. Some (a_var l)) e

vars_before : (params : List Kind) (i m x : ℕ) (gs : Types_of) → x < i → var_type (pair_vars i m params gs) x ≡ var_type gs x
vars_before [] i m x gs lt = refl
vars_before (k ∷ params) i m x gs lt =
    vars_before params (suc i) (suc (suc m)) x ((i, Some (ep_at (suc (suc m)) k (free m) (free (suc m)))) ∷ gs) (omega arith)
    ∙ ap (λ b. cond b (Some (ep_at (suc (suc m)) k (free m) (free (suc m)))) (var_type gs x)) (unequal_is i x (λ e. omega arith))

-- the type of a parameter's pair
abbrev pair_of : ℕ → Kind → Nameless
pair_of m k = ep_at (suc (suc m)) k (free m) (free (suc m))

var_at : (params : List Kind) (i m x y l : ℕ) (k : Kind) (gs : Types_of) → slice_get params x ≡ Some k → y ≡ i + x → l ≡ m + (x + x) → var_type (pair_vars i m params gs) y ≡ Some (pair_of l k)
var_at [] i m x y l k gs h e f = absurd (cc)
var_at (k' ∷ params) i m zero y l k gs h e f =
    let same : k' ≡ k = cc in
    let at : y ≡ i = omega arith in
    let level : m ≡ l = omega arith in
    ap (var_type (pair_vars (suc i) (suc (suc m)) params ((i, Some (pair_of m k')) ∷ gs))) at
    ∙ vars_before params (suc i) (suc (suc m)) i ((i, Some (pair_of m k')) ∷ gs) (omega arith)
    ∙ ap (λ b. cond b (Some (pair_of m k')) (var_type gs i)) (equal_is i i refl)
    ∙ (λ j. Some (pair_of (level j) (same j)))
var_at (k' ∷ params) i m (suc x) y l k gs h e f =
    var_at params (suc i) (suc (suc m)) x y l k ((i, Some (pair_of m k')) ∷ gs) h (omega arith) (omega arith)

-- the types at the one side
abbrev round : List Kind → Kinds
round params = inside 0 (twice params) []

round_length : (params : List Kind) → length (round params) ≡ length params + length params
round_length params = let a = inside_length 0 (twice params) [] in let b = twice_length params in omega arith

round_keeps : (params : List Kind) (x : ℕ) → x < length params + length params → placed (round params) (free x) ≡ free x
round_keeps params x lt = let b = twice_length params in ap free (inside_keeps (twice params) x (omega arith))

seconds_fit : (p : Program) (ks : Kinds) (params : List Kind) (w : ℕ) → ((x : ℕ) (k : Kind) → slice_get params x ≡ Some k → (placed ks (free (w + (x + x))) ≡ free (w + (x + x))) × (kind_at ks (w + (x + x)) ≡ Some k))
    → Fit p ks params (every_second w (length params))
seconds_fit p ks [] w each = tt
seconds_fit p ks (k ∷ params) w each =
    let start : w + 0 ≡ w = omega arith in
    let here = each 0 k refl in (
      subst (λ z. placed ks (free z) ≡ free z) start here.0,
      subst (λ z. kind_at ks z ≡ Some k) start here.1,
      seconds_fit p ks params (suc (suc w)) (λ x l h.
          let shift : w + (suc x + suc x) ≡ suc (suc w) + (x + x) = omega arith in
          subst (λ z. (placed ks (free z) ≡ free z) × (kind_at ks z ≡ Some l)) shift (each (suc x) l h)),
    )

left_fit : (p : Program) (params : List Kind) → Fit p (round params) params (every_second 0 (length params))
left_fit p params =
    seconds_fit p (round params) params 0 (λ x k h.
    let lt = slice_get_within params x k h in
    (round_keeps params (0 + (x + x)) (omega arith), kind_inside (twice params) (0 + (x + x)) k (twice_even params x (0 + (x + x)) k (omega arith) h)))

right_fit : (p : Program) (params : List Kind) → Fit p (round params) params (every_second 1 (length params))
right_fit p params =
    seconds_fit p (round params) params 1 (λ x k h.
    let lt = slice_get_within params x k h in
    (round_keeps params (1 + (x + x)) (omega arith), kind_inside (twice params) (1 + (x + x)) k (twice_odd params x (1 + (x + x)) k (omega arith) h)))

-- variables that have the pairs' types
abbrev HasPairVars : List Kind → Types_of → Type 0
HasPairVars params gs = (x : ℕ) (k : Kind) → slice_get params x ≡ Some k → var_type gs x ≡ Some (pair_of (x + x) k)

own_pairs : (params : List Kind) → HasPairVars params (pair_vars 0 0 params [])
own_pairs params x k h = var_at params 0 0 x x (x + x) k [] h (omega arith) (omega arith)

leaves : (p : Program) (params : List Kind) (gs : Types_of) → HasPairVars params gs
    → LeavesFit p (round params) gs params (every_second 0 (length params)) (every_second 1 (length params)) [] (param_codes 0 (length params))
leaves p params gs vars x k h =
    let n = length params in
    let ks = round params in
    let lt = slice_get_within params x k h in
    let count = round_length params in
    let zero_x : 0 + x ≡ x = omega arith in
    let zero_xx : 0 + (x + x) ≡ x + x = omega arith in
    let one_xx : 1 + (x + x) ≡ suc (x + x) = omega arith in
    let a : slot (every_second 0 n) [] x ≡ free (x + x) =
    ap (λ o. unwrap_or o (unwrap_or (slice_get [] (x - length (every_second 0 n))) (any kind.Star))) (second_at 0 n x lt) ∙ ap free zero_xx in
    let b : slot (every_second 1 n) [] x ≡ free (suc (x + x)) =
    ap (λ o. unwrap_or o (unwrap_or (slice_get [] (x - length (every_second 1 n))) (any kind.Star))) (second_at 1 n x lt) ∙ ap free one_xx in
    let pa : placed ks (slot (every_second 0 n) [] x) ≡ free (x + x) = ap (placed ks) a ∙ round_keeps params (x + x) (omega arith) in
    let pb : placed ks (slot (every_second 1 n) [] x) ≡ free (suc (x + x)) = ap (placed ks) b ∙ round_keeps params (suc (x + x)) (omega arith) in
    let m : a_var x ≡ unwrap_or (slice_get (param_codes 0 n) x) (id_code (slot (every_second 0 n) [] x)) =
    sym (ap (λ o. unwrap_or o (id_code (slot (every_second 0 n) [] x))) (code_at 0 n x lt) ∙ ap a_var zero_x) in
    pair_moved p ks gs k (a_var x) (unwrap_or (slice_get (param_codes 0 n) x) (id_code (slot (every_second 0 n) [] x)))
    (free (x + x)) (placed ks (slot (every_second 0 n) [] x)) (free (suc (x + x))) (placed ks (slot (every_second 1 n) [] x)) m (sym pa) (sym pb) (
      kind_inside (twice params) (x + x) k (twice_even params x (x + x) k refl h),
      kind_inside (twice params) (suc (x + x)) k (twice_odd params x (suc (x + x)) k refl h),
      vars x k h ∙ ap Some (ep_any (suc (suc (x + x))) (length ks) k (free (x + x)) (free (suc (x + x))) (omega arith) (omega arith) (omega arith)),
    )

-- ---- the fields

abbrev left_of : List Kind → List Nameless
left_of params = every_second 0 (length params)

abbrev right_of : List Kind → List Nameless
right_of params = every_second 1 (length params)

-- the types at the side from which a direction goes, and at the one to which it goes
abbrev from_side : Way → List Kind → List Nameless
from_side way params = source way (left_of params) (right_of params)

abbrev to_side : Way → List Kind → List Nameless
to_side way params = target way (left_of params) (right_of params)

from_fit : (p : Program) (way : Way) (params : List Kind) → Fit p (round params) params (from_side way params)
from_fit p Forth params = left_fit p params
from_fit p Back params = right_fit p params

to_fit : (p : Program) (way : Way) (params : List Kind) → Fit p (round params) params (to_side way params)
to_fit p Forth params = right_fit p params
to_fit p Back params = left_fit p params

converted_typed : (p : Program) (params : List Kind) (gs : Types_of) (way : Way) (t : TyNode) → HasPairs p → HasPairVars params gs → TermHasKind p.decls params t kind.Star → HaveBimaps p (datatypes_in t)
    → HasType p (round params) gs (converted_code way (left_of params) (right_of params) [] (param_codes 0 (length params)) t)
    (arrow (field_at (from_side way params) (length params) t) (field_at (to_side way params) (length params) t))
converted_typed p params gs Forth t known vars kinded has =
    let ks = round params in
    let l = left_of params in
    let r = right_of params in
    let pair = pair_at_typed p ks gs params l r [] (param_codes 0 (length params)) known (leaves p params gs vars) t kind.Star kinded has in
    let a = placed ks (base_at l [] t) in
    let b = placed ks (base_at r [] t) in
    subst (HasType p ks gs (converted_code Forth l r [] (param_codes 0 (length params)) t))
    (λ i. arrow (field_seen p ks params l (left_fit p params) t kind.Star kinded i) (field_seen p ks params r (right_fit p params) t kind.Star kinded i))
    (select_typed p ks gs Forth (base_at l [] t) (base_at r [] t) a b (pair_at_code l r [] (param_codes 0 (length params)) t) known refl refl pair.0 pair.1
    (subst (HasType p ks gs (pair_at_code l r [] (param_codes 0 (length params)) t)) (ep_star (length ks) a b) pair.2))
converted_typed p params gs Back t known vars kinded has =
    let ks = round params in
    let l = left_of params in
    let r = right_of params in
    let pair = pair_at_typed p ks gs params l r [] (param_codes 0 (length params)) known (leaves p params gs vars) t kind.Star kinded has in
    let a = placed ks (base_at l [] t) in
    let b = placed ks (base_at r [] t) in
    subst (HasType p ks gs (converted_code Back l r [] (param_codes 0 (length params)) t))
    (λ i. arrow (field_seen p ks params r (right_fit p params) t kind.Star kinded i) (field_seen p ks params l (left_fit p params) t kind.Star kinded i))
    (select_typed p ks gs Back (base_at l [] t) (base_at r [] t) a b (pair_at_code l r [] (param_codes 0 (length params)) t) known refl refl pair.0 pair.1
    (subst (HasType p ks gs (pair_at_code l r [] (param_codes 0 (length params)) t)) (ep_star (length ks) a b) pair.2))

abbrev sides : List Nameless → ℕ → List TyNode → List Nameless
sides us n fields = map (field_at us n) fields

rebuilt_typed : (p : Program) (params : List Kind) (gs : Types_of) (way : Way) (fields : List TyNode) (i : ℕ) (f : Code) (t : Nameless) → HasPairs p → HasPairVars params gs
    → FieldsFit p.decls (reverse params) (map (field_type (length params)) fields) → FieldsHaveBimaps p fields
    → HasType p (round params) gs f (arrows (sides (to_side way params) (length params) fields) t) → HasFields gs i (sides (from_side way params) (length params) fields)
    → HasType p (round params) gs (rebuilt_code way (left_of params) (right_of params) (param_codes 0 (length params)) f i fields) t
rebuilt_typed p params gs way [] i f t known vars fit has h there = h
rebuilt_typed p params gs way (u ∷ fields) i f t known vars fit has h there =
    let n = length params in
    let conversion = converted_code way (left_of params) (right_of params) [] (param_codes 0 n) u in
    let field : HasType p (round params) gs (an_app conversion (a_var (suc i))) (field_at (to_side way params) n u) =
    (field_at (from_side way params) n u, converted_typed p params gs way u known vars fit.0 has.0, there.0) in
    rebuilt_typed p params gs way fields (suc i) (an_app f (an_app conversion (a_var (suc i)))) t known vars fit.1 has.1
    (field_at (to_side way params) n u, h, field) there.1

-- ---- the case

skip_names : (i m x : ℕ) (ts : List Nameless) (gs : Types_of) → x ≤ i → var_type (paired (field_names i m) ts ++ gs) x ≡ var_type gs x
skip_names i zero x ts gs le = refl
skip_names i (suc m) x [] gs le =
    ap (λ b. cond b None (var_type (paired (field_names (suc i) m) [] ++ gs) x)) (unequal_is (suc i) x (λ e. omega arith)) ∙ skip_names (suc i) m x [] gs (omega arith)
skip_names i (suc m) x (t ∷ ts) gs le =
    ap (λ b. cond b (Some t) (var_type (paired (field_names (suc i) m) ts ++ gs) x)) (unequal_is (suc i) x (λ e. omega arith)) ∙ skip_names (suc i) m x ts gs (omega arith)

sides_are : (d : DeclData) (us : List Nameless) (fields : List TyNode) → map (at_types (reverse us)) (map (field_type (length d.params)) fields) ≡ sides us (length d.params) fields
sides_are d us [] = refl
sides_are d us (t ∷ fields) = ap (λ l. field_at us (length d.params) t ∷ l) (sides_are d us fields)

sides_length : (us : List Nameless) (n : ℕ) (fields : List TyNode) → length (sides us n fields) ≡ length fields
sides_length us n [] = refl
sides_length us n (t ∷ fields) = ap suc (sides_length us n fields)

of_self : (p : Program) (d : DeclData) (ks : Kinds) (us : List Nameless) → KnowsBimaps p d → Fit p ks d.params us → IsData p.decls (self_type d us) d us
of_self p d ks us knows fit = record { there = knows.there; type = refl; whole = fit_length p ks d.params us fit }

gives_all : (p : Program) (d : DeclData) (way : Way) (gs : Types_of) (cs : List DeclCon) → KnowsBimaps p d → HasPairVars d.params gs → ConsKnown p d cs → ConsFit p.decls d cs → ConsHaveBimaps p cs
    → AllGive p (round d.params) ((length d.params, Some (self_type d (from_side way d.params))) ∷ gs) (self_type d (from_side way d.params)) (self_type d (to_side way d.params))
    (branches_of (map (rebuilding_branch way (left_of d.params) (right_of d.params) (param_codes 0 (length d.params)) (length d.params)) cs) (Some (a_stop nowhere (self_type d (to_side way d.params)))))
gives_all p d way gs [] knows vars known fit has =
    let ks = round d.params in
    let us = to_side way d.params in
    let is = self_same p d ks us (to_fit p way d.params) in
    (subst (λ z. HasKind p.decls ks [] z kind.Star) (sym is) (self_kind p d ks us knows.there (to_fit p way d.params)), sym is)
gives_all p d way gs (c ∷ cs) knows vars known fit has =
    let params = d.params in
    let n = length params in
    let ks = round params in
    let m = length c.fields in
    let from = from_side way params in
    let to = to_side way params in
    let here = sides from n c.fields in
    let outer : Types_of = (n, Some (self_type d from)) ∷ gs in
    let inner : Types_of = paired (field_names n m) here ++ outer in
    let inside : HasPairVars params inner =
    λ x k h. let lt = slice_get_within params x k h in
    skip_names n m x here outer (omega arith) ∙ ap (λ b. cond b (Some (self_type d from)) (var_type gs x)) (unequal_is n x (λ e. omega arith)) ∙ vars x k h in
    let head : HasType p ks inner (types_given (a_con c.origin) to) (arrows (sides to n c.fields) (self_type d to)) =
    subst (λ us. HasType p ks inner (types_given (a_con c.origin) to) (arrows us (self_type d to))) (sides_are d to c.fields)
    (constructor_at p d ks inner to c (to_fit p way params) known.0 fit.0) in
    let body : HasType p ks inner (rebuilt_code way (left_of params) (right_of params) (param_codes 0 n) (types_given (a_con c.origin) to) n c.fields) (self_type d to) =
    rebuilt_typed p params inner way c.fields n (types_given (a_con c.origin) to) (self_type d to) knows.known inside fit.0 has.0 head
    (fields_bound outer n m here (sym (sides_length from n c.fields))) in (
      (
        (d, c),
        from,
        known.0,
        of_self p d ks from knows (from_fit p way params),
        names_length n m,
        subst (λ us. HasType p ks (paired (field_names n m) us ++ outer) (rebuilt_code way (left_of params) (right_of params) (param_codes 0 n) (types_given (a_con c.origin) to) n c.fields) (self_type d to))
            (sym (sides_are d from c.fields)) body,
      ),
      gives_all p d way gs cs knows vars known.1 fit.1 has.1,
    )

rebuild_typed : (p : Program) (d : DeclData) (way : Way) (gs : Types_of) → KnowsBimaps p d → HasPairVars d.params gs
    → HasType p (round d.params) gs (rebuild_code way (left_of d.params) (right_of d.params) (param_codes 0 (length d.params)) (length d.params) d)
    (arrow (self_type d (from_side way d.params)) (self_type d (to_side way d.params)))
rebuild_typed p d way gs knows vars =
    let params = d.params in
    let n = length params in
    let ks = round params in
    let from = from_side way params in
    let to = to_side way params in
    let a = self_type d from in
    let b = self_type d to in
    let a_is = self_same p d ks from (from_fit p way params) in
    let b_is = self_same p d ks to (to_fit p way params) in
    let a_value = self_kind p d ks from knows.there (from_fit p way params) in
    let b_value = self_kind p d ks to knows.there (to_fit p way params) in
    let branches = map (rebuilding_branch way (left_of params) (right_of params) (param_codes 0 n) n) d.constructors in
    let inner : Types_of = (n, Some a) ∷ gs in
    let body : HasType p ks inner (case_code (a_var n) b branches) b = (
      a,
      ap (λ z. cond z (Some a) (var_type gs n)) (equal_is n n refl),
      subst (λ z. HasKind p.decls ks [] z kind.Star) (sym b_is) b_value,
      sym b_is,
      inl (d, from, of_self p d ks from knows (from_fit p way params)),
      gives_all p d way gs d.constructors knows vars knows.constructors knows.fields knows.bimaps,
      inl (else_there branches (a_stop nowhere b)),
    ) in (
      b,
      subst (λ z. HasKind p.decls ks [] z kind.Star) (sym a_is) a_value,
      subst (λ z. HasType p ks ((n, Some z) ∷ gs) (case_code (a_var n) b branches) b) (sym a_is) body,
      ap (λ z. arrow z b) (sym a_is),
    )

-- ---- the whole

pub bimap_typed : (d : DeclData) → BimapTyped d (bimap_code d)
bimap_typed d p knows =
    let params = d.params in
    let n = length params in
    let ks = round params in
    let l = left_of params in
    let r = right_of params in
    let gs = pair_vars 0 0 params [] in
    let f = rebuild_code Forth l r (param_codes 0 n) n d in
    let g = rebuild_code Back l r (param_codes 0 n) n d in
    let body = pair_code (self_type d l) (self_type d r) f g in
    let c = con (tycon.Named d.origin) in
    let inside : HasType p ks gs body (ep_type (self_type d l) (self_type d r)) =
    pair_typed p ks gs (self_type d l) (self_type d r) (self_type d l) (self_type d r) f g knows.known
    (self_same p d ks l (left_fit p params)) (self_same p d ks r (right_fit p params))
    (self_kind p d ks l knows.there (left_fit p params)) (self_kind p d ks r knows.there (right_fit p params))
    (rebuild_typed p d Forth gs knows (own_pairs params)) (rebuild_typed p d Back gs knows (own_pairs params)) in
    let whole : HasType p [] [] (with_params_from 0 0 params body) (ep_at 0 (arrow_kinds params) c c) =
    params_typed p knows.known params 0 [] [] c c body (λ x count lt. absurd (omega arith)) inside in
    subst (λ m. HasType p [] [] m (placed [] (bimap_type d.origin (arrow_kinds params)))) (sym (with_same 0 0 params body refl))
    (subst (HasType p [] [] (with_params_from 0 0 params body)) (sym (placed_pair [] 0 (arrow_kinds params) c c refl refl (λ x lt. absurd (omega arith)))) whole)
