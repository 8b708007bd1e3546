-- The pair of conversions at a type is typed, and so is the conversion at a base type.
use Rattle.std.proofs.Common.{◌≡◌, ℕ, zero, suc, ◌+◌, ◌-◌, ◌<◌, ◌≤◌, List, [], ◌∷◌, ◌++◌, length, map, max, reverse, Option, Some, None, slice_get, unwrap_or, refl, sym, ap, ◌∙◌, subst, arith}
use Rattle.std.proofs.lemmas.Option.{slice_get_past}
use Rattle.gh_base.specs.declared.fixed.TheConstants.{EP, CON}
use Rattle.gh_base.specs.declared.place.Origin.{Origin}
use Rattle.gh_base.specs.declared.place.TyCon.{TyCon}
use Rattle.gh_base.specs.declared.place.TyCon.TheVariants as tycon
use Rattle.gh_typeterm.specs.declared.kind.Kind.{Kind}
use Rattle.gh_typeterm.specs.declared.kind.Kind.TheVariants as kind
use Rattle.gh_typeterm.specs.declared.ty.TyNode.{TyNode}
use Rattle.gh_typeterm.specs.declared.ty.TyNode.TheVariants as ty
use Rattle.gh_typeterm.proofs.Folds.{fold-Con, fold-Var, fold-App, fold-Name, term_induction}
use Rattle.gh_core.specs.SameType.{Nameless, con, applied, any}
use Rattle.gh_core.specs.declared.terms.CoreName.TheVariants.{Bimap}
use Rattle.gh_core.specs.Typing.{Program, Kinds, Types_of, Code, a_global, an_app, a_tyapp, placed, layered, arrow, con_kind, field_step, HasKind, HasType, IsValueType}
use Rattle.gh_kind_index.specs.KindIndex.{slot, base_step, base_at}
use Rattle.gh_adapt.specs.declared.ways.Way.TheVariants.{Forth, Back}
use Rattle.gh_adapt.specs.Types.{type_name}
use Rattle.gh_adapt.specs.TypedPairs.{ep_type, id_code, head_code, leaf_code, pair_at_code, adapter_code}
use Rattle.gh_adapt_laws.specs.PairTypes.{HasPairs, bimap_type, HasBimap, HaveBimaps, datatype_of, datatypes_step, datatypes_in, TermHasKind, values, PairsFit, AreValueTypes, AdapterFits, AdapterTyped}
use Rattle.gh_adapt.proofs.Placing.{reversed_none}
use Rattle.gh_adapt_laws.proofs.FlatTypes.{param_case}
use Rattle.gh_adapt.proofs.PairForms.{pair_con, pair_var, pair_app}
use Rattle.gh_adapt_laws.proofs.PairKinds.{ep_at, ep_star, placed_pair}
use Rattle.gh_adapt_laws.proofs.PairParts.{select_typed, id_typed, given_two, arrow_typed}

-- a term is a pair between two types of a kind
abbrev pub IsPair : Program → Kinds → Types_of → Code → Kind → Nameless → Nameless → Type 0
IsPair p ks gs m k a b = HasKind p.decls ks [] a k × HasKind p.decls ks [] b k × HasType p ks gs m (ep_at (length ks) k a b)

pub pair_moved : (p : Program) (ks : Kinds) (gs : Types_of) (k : Kind) (m m' : Code) (a a' b b' : Nameless) → m ≡ m' → a ≡ a' → b ≡ b' → IsPair p ks gs m k a b → IsPair p ks gs m' k a' b'
pair_moved p ks gs k m m' a a' b b' em ea eb h = subst (λ (q : Code × Nameless × Nameless). IsPair p ks gs q.0 k q.1 q.2) (λ i. (em i, ea i, eb i)) h

-- ---- at a constructor

data_typed : (p : Program) (ks : Kinds) (gs : Types_of) (o : Origin) (k : Kind) → HasBimap p o → con_kind p.decls (tycon.Named o) ≡ Some k
    → HasType p ks gs (a_global (Bimap (tycon.Named o))) (ep_at (length ks) k (con (tycon.Named o)) (con (tycon.Named o)))
data_typed p ks gs o k has is =
    has k is ∙ ap Some (placed_pair [] (length ks) k (con (tycon.Named o)) (con (tycon.Named o)) refl refl (λ x lt. absurd (omega arith)))

head_typed : (p : Program) (ks : Kinds) (gs : Types_of) (c : TyCon) (k : Kind) → HasPairs p → HaveBimaps p (datatype_of c) → con_kind p.decls (layered c) ≡ Some k
    → HasType p ks gs (head_code c) (ep_at (length ks) k (con (layered c)) (con (layered c)))
head_typed p ks gs (tycon.Named o) k known has is = data_typed p ks gs o k has.0 is
head_typed p ks gs tycon.Arrow k known has is =
    let same : kind.Arrow kind.Star (kind.Arrow kind.Star kind.Star) ≡ k = cc in
    subst (λ z. HasType p ks gs (head_code tycon.Arrow) (ep_at (length ks) z (con tycon.Arrow) (con tycon.Arrow))) same (arrow_typed p ks gs known)
head_typed p ks gs tycon.Int k known has is =
    let same : kind.Star ≡ k = cc in
    subst (λ z. HasType p ks gs (head_code tycon.Int) (ep_at (length ks) z (con tycon.Int) (con tycon.Int))) same
    (subst (HasType p ks gs (head_code tycon.Int)) (sym (ep_star (length ks) (con tycon.Int) (con tycon.Int))) (id_typed p ks gs (con tycon.Int) (con tycon.Int) known refl refl))
head_typed p ks gs tycon.Char k known has is =
    let same : kind.Star ≡ k = cc in
    subst (λ z. HasType p ks gs (head_code tycon.Char) (ep_at (length ks) z (con tycon.Char) (con tycon.Char))) same
    (subst (HasType p ks gs (head_code tycon.Char)) (sym (ep_star (length ks) (con tycon.Char) (con tycon.Char))) (id_typed p ks gs (con tycon.Char) (con tycon.Char) known refl refl))
head_typed p ks gs (tycon.ConOf o) k known has is = data_typed p ks gs (type_name CON) k has.0 is

-- ---- at a type

have_left : (p : Program) (os qs : List Origin) → HaveBimaps p (os ++ qs) → HaveBimaps p os
have_left p [] qs h = tt
have_left p (o ∷ os) qs h = (h.0, have_left p os qs h.1)

have_right : (p : Program) (os qs : List Origin) → HaveBimaps p (os ++ qs) → HaveBimaps p qs
have_right p [] qs h = h
have_right p (o ∷ os) qs h = have_right p os qs h.1

-- the pairs at the variables
abbrev pub LeavesFit : Program → Kinds → Types_of → List Kind → List Nameless → List Nameless → List Nameless → List Code → Type 0
LeavesFit p ks gs params l r o ps =
    (x : ℕ) (k : Kind) → slice_get params x ≡ Some k → IsPair p ks gs (unwrap_or (slice_get ps x) (id_code (slot l o x))) k (placed ks (slot l o x)) (placed ks (slot r o x))

abbrev FitsAt : Program → Kinds → Types_of → List Kind → List Nameless → List Nameless → List Nameless → List Code → TyNode → Type 0
FitsAt p ks gs params l r o ps t =
    (k : Kind) → TermHasKind p.decls params t k → HaveBimaps p (datatypes_in t)
    → IsPair p ks gs (pair_at_code l r o ps t) k (placed ks (base_at l o t)) (placed ks (base_at r o t))

pub pair_at_typed : (p : Program) (ks : Kinds) (gs : Types_of) (params : List Kind) (l r o : List Nameless) (ps : List Code) → HasPairs p → LeavesFit p ks gs params l r o ps
    → (t : TyNode) → FitsAt p ks gs params l r o ps t
pair_at_typed p ks gs params l r o ps known leaves =
    let n = length params in
    term_induction (FitsAt p ks gs params l r o ps)
    (λ c k h has.
    let is = subst (λ z. HasKind p.decls [] (reverse params) z k) (fold-Con Nameless (field_step n) c) h in
    let there = subst (HaveBimaps p) (fold-Con (List Origin) datatypes_step c) has in
    pair_moved p ks gs k (head_code c) (pair_at_code l r o ps (ty.Con c)) (con (layered c)) (placed ks (base_at l o (ty.Con c))) (con (layered c)) (placed ks (base_at r o (ty.Con c)))
    (sym (pair_con l r o ps c)) (sym (ap (placed ks) (fold-Con Nameless (base_step l o) c))) (sym (ap (placed ks) (fold-Con Nameless (base_step r o) c)))
    (is, is, head_typed p ks gs c k known there is))
    (λ x k h has.
    param_case params x k (IsPair p ks gs (pair_at_code l r o ps (ty.Var x)) k (placed ks (base_at l o (ty.Var x))) (placed ks (base_at r o (ty.Var x))))
    (subst (λ z. HasKind p.decls [] (reverse params) z k) (fold-Var Nameless (field_step n) x) h)
    (λ lt is there.
    pair_moved p ks gs k (unwrap_or (slice_get ps x) (id_code (slot l o x))) (pair_at_code l r o ps (ty.Var x))
    (placed ks (slot l o x)) (placed ks (base_at l o (ty.Var x))) (placed ks (slot r o x)) (placed ks (base_at r o (ty.Var x)))
    (ap (λ z. unwrap_or (slice_get ps x) (id_code z)) (sym (fold-Var Nameless (base_step l o) x)) ∙ sym (pair_var l r o ps x))
    (sym (ap (placed ks) (fold-Var Nameless (base_step l o) x))) (sym (ap (placed ks) (fold-Var Nameless (base_step r o) x)))
    (leaves x k there)))
    (λ f s q w k h has.
    let parts = subst (λ z. HasKind p.decls [] (reverse params) z k) (fold-App Nameless (field_step n) f s) h in
    let there = subst (HaveBimaps p) (fold-App (List Origin) datatypes_step f s) has in
    let a = parts.0 in
    let fa = placed ks (base_at l o f) in
    let fb = placed ks (base_at r o f) in
    let sa = placed ks (base_at l o s) in
    let sb = placed ks (base_at r o s) in
    let head = q (kind.Arrow a k) parts.1 (have_left p (datatypes_in f) (datatypes_in s) there) in
    let argument = w a parts.2 (have_right p (datatypes_in f) (datatypes_in s) there) in
    pair_moved p ks gs k (an_app (a_tyapp (a_tyapp (pair_at_code l r o ps f) (base_at l o s)) (base_at r o s)) (pair_at_code l r o ps s)) (pair_at_code l r o ps (ty.App f s))
    (applied fa sa) (placed ks (base_at l o (ty.App f s))) (applied fb sb) (placed ks (base_at r o (ty.App f s)))
    (sym (pair_app l r o ps f s)) (sym (ap (placed ks) (fold-App Nameless (base_step l o) f s))) (sym (ap (placed ks) (fold-App Nameless (base_step r o) f s))) (
      (a, head.0, argument.0),
      (a, head.1, argument.1),
      (
        ep_at (length ks) a sa sb,
        given_two p ks gs (pair_at_code l r o ps f) a k fa fb (base_at l o s) (base_at r o s) sa sb refl refl head.0 head.1 argument.0 argument.1 head.2,
        argument.2,
      ),
    ))
    (λ m k h has.
    let none = sym (subst (λ z. HasKind p.decls [] (reverse params) z k) (fold-Name Nameless (field_step n) m) h) ∙ reversed_none params (n + m) (omega arith) in
    absurd (cc))

-- ---- at a base type

value_kind : (n x : ℕ) (k : Kind) → slice_get (values n) x ≡ Some k → kind.Star ≡ k
value_kind zero x k h = absurd (cc)
value_kind (suc n) zero k h = cc
value_kind (suc n) (suc x) k h = value_kind n x k h

other_at : (p : Program) (ks : Kinds) (o : List Nameless) (x : ℕ) (k : Kind) → AreValueTypes p ks o → slice_get (values (length o)) x ≡ Some k → IsValueType p ks (unwrap_or (slice_get o x) (any kind.Star))
other_at p ks [] x k h e = absurd (cc)
other_at p ks (t ∷ o) zero k h e = h.0
other_at p ks (t ∷ o) (suc x) k h e = other_at p ks o x k h.1 e

-- an identity at one of the other variables
id_pair : (p : Program) (ks : Kinds) (gs : Types_of) (u : Nameless) → HasPairs p → IsValueType p ks u → IsPair p ks gs (id_code u) kind.Star (placed ks u) (placed ks u)
id_pair p ks gs u known h = (h, h, subst (HasType p ks gs (id_code u)) (sym (ep_star (length ks) (placed ks u) (placed ks u))) (id_typed p ks gs u (placed ks u) known refl h))

slot_next : (l o : List Nameless) (a : Nameless) (x : ℕ) → slot l o x ≡ slot (a ∷ l) o (suc x)
slot_next l o a x =
    let same : x - length l ≡ suc x - suc (length l) = omega arith in
    ap (λ n. unwrap_or (slice_get l x) (unwrap_or (slice_get o n) (any kind.Star))) same

leaves_fit : (p : Program) (ks : Kinds) (gs : Types_of) (l r o : List Nameless) (ps : List Code) → HasPairs p → PairsFit p ks gs l r ps → AreValueTypes p ks o
    → (x : ℕ) → slice_get (values (length ps + length o)) x ≡ Some kind.Star
    → IsPair p ks gs (unwrap_or (slice_get ps x) (id_code (slot l o x))) kind.Star (placed ks (slot l o x)) (placed ks (slot r o x))
leaves_fit p ks gs [] [] o [] known fit others x h =
    let same : x - 0 ≡ x = omega arith in
    let none : 0 + length o ≡ length o = omega arith in
    let there = subst (λ n. slice_get (values n) x ≡ Some kind.Star) none h in
    subst (λ y. IsPair p ks gs (id_code (unwrap_or (slice_get o y) (any kind.Star))) kind.Star (placed ks (unwrap_or (slice_get o y) (any kind.Star))) (placed ks (unwrap_or (slice_get o y) (any kind.Star)))) (sym same)
    (id_pair p ks gs (unwrap_or (slice_get o x) (any kind.Star)) known (other_at p ks o x kind.Star others there))
leaves_fit p ks gs [] [] o (m ∷ ps) known fit others x h = absurd fit
leaves_fit p ks gs [] (b ∷ r) o ps known fit others x h = absurd fit
leaves_fit p ks gs (a ∷ l) [] o ps known fit others x h = absurd fit
leaves_fit p ks gs (a ∷ l) (b ∷ r) o [] known fit others x h = absurd fit
leaves_fit p ks gs (a ∷ l) (b ∷ r) o (m ∷ ps) known fit others zero h =
    (fit.0, fit.1, subst (HasType p ks gs m) (sym (ep_star (length ks) (placed ks a) (placed ks b))) fit.2)
leaves_fit p ks gs (a ∷ l) (b ∷ r) o (m ∷ ps) known fit others (suc x) h =
    let one : suc (length ps) + length o ≡ suc (length ps + length o) = omega arith in
    let left : slot l o x ≡ slot (a ∷ l) o (suc x) = slot_next l o a x in
    let right : slot r o x ≡ slot (b ∷ r) o (suc x) = slot_next r o b x in
    pair_moved p ks gs kind.Star (unwrap_or (slice_get ps x) (id_code (slot l o x))) (unwrap_or (slice_get ps x) (id_code (slot (a ∷ l) o (suc x))))
    (placed ks (slot l o x)) (placed ks (slot (a ∷ l) o (suc x))) (placed ks (slot r o x)) (placed ks (slot (b ∷ r) o (suc x)))
    (ap (λ z. unwrap_or (slice_get ps x) (id_code z)) left) (ap (placed ks) left) (ap (placed ks) right)
    (leaves_fit p ks gs l r o ps known fit.3 others x (subst (λ n. slice_get (values n) (suc x) ≡ Some kind.Star) one h))

pub adapter_typed : (base : TyNode) (l r o : List Nameless) (ps : List Code) → AdapterTyped base l r o ps (adapter_code base l r o ps)
adapter_typed base l r o ps p ks gs fits =
    let params = values (length ps + length o) in
    let a = placed ks (base_at l o base) in
    let b = placed ks (base_at r o base) in
    let pair = pair_at_typed p ks gs params l r o ps fits.known
    (λ x k e.
    let same = value_kind (length ps + length o) x k e in
    subst (λ z. IsPair p ks gs (unwrap_or (slice_get ps x) (id_code (slot l o x))) z (placed ks (slot l o x)) (placed ks (slot r o x))) same
    (leaves_fit p ks gs l r o ps fits.known fits.pairs_fit fits.others_fit x (e ∙ ap Some (sym same))))
    base kind.Star fits.base_kind fits.bimaps in
    select_typed p ks gs Back (base_at l o base) (base_at r o base) a b (pair_at_code l r o ps base) fits.known refl refl pair.0 pair.1
    (subst (HasType p ks gs (pair_at_code l r o ps base)) (ep_star (length ks) a b) pair.2)
