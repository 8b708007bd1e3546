-- Types of sums, products and layers, and the constructors of the Prelude at types.
use Rattle.std.proofs.Common.{◌≡◌, ℕ, zero, suc, ◌<◌, cond, List, [], ◌∷◌, ◌++◌, length, map, reverse, Option, Some, refl, sym, ap, ◌∙◌, subst, arith}
use Rattle.gh_base.specs.declared.fixed.TheConstants.{UNIT, SUM, PROD, PRODUCT, CON, INL, INR}
use Rattle.gh_base.specs.declared.names.NameId.{NameId}
use Rattle.gh_base.specs.declared.place.Origin.{Origin}
use Rattle.gh_base.specs.declared.place.TyCon.TheVariants as tycon
use Rattle.gh_typeterm.specs.declared.kind.Kind.{Kind}
use Rattle.gh_typeterm.specs.declared.kind.Kind.TheVariants as kind
use Rattle.gh_typeterm.specs.declared.decl.DeclCon.{DeclCon}
use Rattle.gh_typeterm.specs.declared.decl.DeclData.{DeclData}
use Rattle.gh_typeterm.specs.declared.ty.TyNode.{TyNode}
use Rattle.gh_typeterm.specs.declared.ty.TyNode.TheVariants as ty
use Rattle.gh_typeterm.specs.Representation.{joined, nested, layer_of, sum_of, product_of}
use Rattle.gh_typeterm.specs.Representation as rep
use Rattle.gh_typeterm.proofs.Folds.{fold-Con, fold-Var, fold-App}
use Rattle.gh_core.specs.Primitives.{prelude_value}
use Rattle.gh_core.specs.SameType.{Nameless, bound, con, applied, forall}
use Rattle.gh_core.specs.Typing.{Program, Kinds, Types_of, placed, opened, arrow, prelude_type, con_kind, decl_kind, con_of, con_type_of, HasKind, HasType, FieldsFit, ConsFit, field_types, field_step, field_type, fields_at, at_types, var_type, paired}
use Rattle.gh_kind_index.specs.KindIndex.{base_step, variables_from}
use Rattle.gh_adapt.specs.Conversions.{field_names}
use Rattle.gh_adapt.specs.Typed.{at, at_two, sum_at}
use Rattle.gh_adapt.specs.Types.{HasShapes}
use Rattle.gh_adapt.proofs.Placing.{Keeps, inside, seen, placed_at, seen_kind, kinded_opened}
use Rattle.gh_adapt.proofs.Running.{equal_is, unequal_is}

-- types nested to the right by one of the Prelude
abbrev pub joined_types : NameId → List Nameless → Nameless
joined_types j [] = con (prelude_type UNIT)
joined_types j (a ∷ []) = a
joined_types j (a ∷ b ∷ rest) = applied (applied (con (prelude_type j)) a) (joined_types j (b ∷ rest))

at_joined : (ts : List Nameless) (j : NameId) (a b : TyNode) → at ts (joined j a b) ≡ applied (applied (con (prelude_type j)) (at ts a)) (at ts b)
at_joined ts j a b =
    fold-App Nameless (base_step ts []) (ty.App (rep.prelude_type j) a) b
    ∙ ap (λ u. applied u (at ts b)) (fold-App Nameless (base_step ts []) (rep.prelude_type j) a ∙ ap (λ u. applied u (at ts a)) (fold-Con Nameless (base_step ts []) (prelude_type j)))

pub placed_nested : (ks : Kinds) (ts : List Nameless) (j : NameId) (us : List TyNode) → placed ks (at ts (nested (joined j) us)) ≡ joined_types j (map (λ u. placed ks (at ts u)) us)
placed_nested ks ts j [] = ap (placed ks) (fold-Con Nameless (base_step ts []) (prelude_type UNIT))
placed_nested ks ts j (u ∷ []) = refl
placed_nested ks ts j (u ∷ w ∷ ws) =
    ap (placed ks) (at_joined ts j u (nested (joined j) (w ∷ ws))) ∙ ap (applied (applied (con (prelude_type j)) (placed ks (at ts u)))) (placed_nested ks ts j (w ∷ ws))

-- ---- the fields of a datatype

-- the parameters as variables
abbrev pub own : DeclData → List Nameless
own d = variables_from 0 (length d.params)

abbrev pub fields_seen : DeclData → List TyNode → List Nameless
fields_seen d fields = map (seen (length d.params)) fields

pub fields_are : (d : DeclData) (c : DeclCon) → fields_at (d, c) (own d) ≡ fields_seen d c.fields
fields_are d c = all_same d c.fields
  where
    all_same : (d : DeclData) (fields : List TyNode) → map (at_types (reverse (own d))) (map (field_type (length d.params)) fields) ≡ fields_seen d fields
    all_same d [] = refl
    all_same d (t ∷ fields) = ap (λ l. seen (length d.params) t ∷ l) (all_same d fields)

pub fields_placed : (p : Program) (d : DeclData) (ks : Kinds) → Keeps ks (length d.params) → (fields : List TyNode) → FieldsFit p.decls (reverse d.params) (map (field_type (length d.params)) fields)
    → map (λ u. placed ks (at (own d) u)) fields ≡ fields_seen d fields
fields_placed p d ks keeps [] fit = refl
fields_placed p d ks keeps (t ∷ fields) fit = λ i. placed_at p.decls d.params ks keeps t kind.Star fit.0 i ∷ fields_placed p d ks keeps fields fit.1 i

-- a layer, as core sees it
abbrev pub layer_type : DeclData → List TyNode → Nameless
layer_type d fields = applied (con (prelude_type CON)) (joined_types PROD (fields_seen d fields))

pub layer_placed : (p : Program) (d : DeclData) (ks : Kinds) → Keeps ks (length d.params) → (c : DeclCon) → FieldsFit p.decls (reverse d.params) (field_types d c)
    → placed ks (at (own d) (layer_of c)) ≡ layer_type d c.fields
layer_placed p d ks keeps c fit =
    ap (placed ks) (fold-App Nameless (base_step (own d) []) (ty.Con (tycon.ConOf c.origin)) (nested product_of c.fields)
    ∙ ap (λ u. applied u (at (own d) (nested product_of c.fields))) (fold-Con Nameless (base_step (own d) []) (tycon.ConOf c.origin)))
    ∙ ap (applied (con (prelude_type CON))) (placed_nested ks (own d) PROD c.fields ∙ ap (joined_types PROD) (fields_placed p d ks keeps c.fields fit))

abbrev pub layer_types : DeclData → List DeclCon → List Nameless
layer_types d [] = []
layer_types d (c ∷ cs) = layer_type d c.fields ∷ layer_types d cs

pub layers_placed : (p : Program) (d : DeclData) (ks : Kinds) → Keeps ks (length d.params) → (cs : List DeclCon) → ConsFit p.decls d cs
    → map (λ u. placed ks (at (own d) u)) (map layer_of cs) ≡ layer_types d cs
layers_placed p d ks keeps [] fit = refl
layers_placed p d ks keeps (c ∷ cs) fit = λ i. layer_placed p d ks keeps c fit.0 i ∷ layers_placed p d ks keeps cs fit.1 i

abbrev pub sum_type : DeclData → List DeclCon → Nameless
sum_type d cs = joined_types SUM (layer_types d cs)

pub sum_placed : (p : Program) (d : DeclData) (ks : Kinds) → Keeps ks (length d.params) → (cs : List DeclCon) → ConsFit p.decls d cs
    → placed ks (sum_at (own d) (map layer_of cs)) ≡ sum_type d cs
sum_placed p d ks keeps cs fit = placed_nested ks (own d) SUM (map layer_of cs) ∙ ap (joined_types SUM) (layers_placed p d ks keeps cs fit)

-- ---- kinds

abbrev pub AllValues : Program → Kinds → List Nameless → Type 0
AllValues p ks [] = Unit {0}
AllValues p ks (t ∷ ts) = HasKind p.decls ks [] t kind.Star × AllValues p ks ts

abbrev pub two_kind : Kind
two_kind = kind.Arrow kind.Star (kind.Arrow kind.Star kind.Star)

pub joined_kind : (p : Program) (ks : Kinds) (j : NameId) → HasShapes p → con_kind p.decls (prelude_type j) ≡ Some two_kind → (ts : List Nameless) → AllValues p ks ts
    → HasKind p.decls ks [] (joined_types j ts) kind.Star
joined_kind p ks j shapes is [] h = ap decl_kind shapes.unit
joined_kind p ks j shapes is (t ∷ []) h = h.0
joined_kind p ks j shapes is (t ∷ u ∷ us) h = (kind.Star, (kind.Star, is, h.0), joined_kind p ks j shapes is (u ∷ us) h.1)

pub product_kind : (p : Program) → HasShapes p → con_kind p.decls (prelude_type PROD) ≡ Some two_kind
product_kind p shapes = ap decl_kind shapes.product

pub sum_kind : (p : Program) → HasShapes p → con_kind p.decls (prelude_type SUM) ≡ Some two_kind
sum_kind p shapes = ap decl_kind shapes.sum

pub fields_values : (p : Program) (d : DeclData) (fields : List TyNode) → FieldsFit p.decls (reverse d.params) (map (field_type (length d.params)) fields)
    → AllValues p (inside 0 d.params []) (fields_seen d fields)
fields_values p d [] fit = tt
fields_values p d (t ∷ fields) fit = (seen_kind p.decls d.params t kind.Star fit.0, fields_values p d fields fit.1)

pub layer_value : (p : Program) (d : DeclData) → HasShapes p → (c : DeclCon) → FieldsFit p.decls (reverse d.params) (field_types d c)
    → HasKind p.decls (inside 0 d.params []) [] (layer_type d c.fields) kind.Star
layer_value p d shapes c fit =
    (kind.Star, ap decl_kind shapes.layer, joined_kind p (inside 0 d.params []) PROD shapes (product_kind p shapes) (fields_seen d c.fields) (fields_values p d c.fields fit))

pub layers_values : (p : Program) (d : DeclData) → HasShapes p → (cs : List DeclCon) → ConsFit p.decls d cs → AllValues p (inside 0 d.params []) (layer_types d cs)
layers_values p d shapes [] fit = tt
layers_values p d shapes (c ∷ cs) fit = (layer_value p d shapes c fit.0, layers_values p d shapes cs fit.1)

pub sum_value : (p : Program) (d : DeclData) → HasShapes p → (cs : List DeclCon) → ConsFit p.decls d cs → HasKind p.decls (inside 0 d.params []) [] (sum_type d cs) kind.Star
sum_value p d shapes cs fit = joined_kind p (inside 0 d.params []) SUM shapes (sum_kind p shapes) (layer_types d cs) (layers_values p d shapes cs fit)

-- ---- constructors at two types

pub con_two : (p : Program) (ks : Kinds) (gs : Types_of) (c : Origin) (body a b a' b' t : Nameless) → con_type_of (con_of p.decls c) ≡ Some (forall kind.Star (forall kind.Star body))
    → placed ks a ≡ a' → placed ks b ≡ b' → HasKind p.decls ks [] a' kind.Star → HasKind p.decls ks [] b' kind.Star → opened 0 b' (opened 1 a' body) ≡ t
    → HasType p ks gs (at_two c a b) t
con_two p ks gs c body a b a' b' t is ea eb ka kb e = (
  kind.Star,
  opened 1 (placed ks a) body,
  (kind.Star, forall kind.Star body, is, subst (λ z. HasKind p.decls ks [] z kind.Star) (sym ea) ka, refl),
  subst (λ z. HasKind p.decls ks [] z kind.Star) (sym eb) kb,
  sym e ∙ sym (λ i. opened 0 (eb i) (opened 1 (ea i) body)),
)

pub first_of_two : field_type 2 (ty.Var 0) ≡ bound 1
first_of_two = fold-Var Nameless (field_step 2) 0

pub second_of_two : field_type 2 (ty.Var 1) ≡ bound 0
second_of_two = fold-Var Nameless (field_step 2) 1

pub only_of_one : field_type 1 (ty.Var 0) ≡ bound 0
only_of_one = fold-Var Nameless (field_step 1) 0

abbrev of_two : NameId → Nameless
of_two j = applied (applied (con (prelude_type j)) (bound 1)) (bound 0)

inl_is : (p : Program) → HasShapes p → con_type_of (con_of p.decls (prelude_value INL)) ≡ Some (forall kind.Star (forall kind.Star (arrow (bound 1) (of_two SUM))))
inl_is p shapes = ap con_type_of shapes.left ∙ ap (λ a. Some (forall kind.Star (forall kind.Star (arrow a (of_two SUM))))) first_of_two

inr_is : (p : Program) → HasShapes p → con_type_of (con_of p.decls (prelude_value INR)) ≡ Some (forall kind.Star (forall kind.Star (arrow (bound 0) (of_two SUM))))
inr_is p shapes = ap con_type_of shapes.right ∙ ap (λ a. Some (forall kind.Star (forall kind.Star (arrow a (of_two SUM))))) second_of_two

pair_is : (p : Program) → HasShapes p → con_type_of (con_of p.decls (prelude_value PRODUCT)) ≡ Some (forall kind.Star (forall kind.Star (arrow (bound 1) (arrow (bound 0) (of_two PROD)))))
pair_is p shapes = ap con_type_of shapes.pair ∙ (λ i. Some (forall kind.Star (forall kind.Star (arrow (first_of_two i) (arrow (second_of_two i) (of_two PROD))))))

pub layer_is : (p : Program) → HasShapes p → con_type_of (con_of p.decls (prelude_value CON)) ≡ Some (forall kind.Star (arrow (bound 0) (applied (con (prelude_type CON)) (bound 0))))
layer_is p shapes = ap con_type_of shapes.put_on ∙ ap (λ a. Some (forall kind.Star (arrow a (applied (con (prelude_type CON)) (bound 0))))) only_of_one

pub inl_typed : (p : Program) (ks : Kinds) (gs : Types_of) (a b a' b' : Nameless) → HasShapes p → placed ks a ≡ a' → placed ks b ≡ b'
    → HasKind p.decls ks [] a' kind.Star → HasKind p.decls ks [] b' kind.Star → HasType p ks gs (at_two (prelude_value INL) a b) (arrow a' (applied (applied (con (prelude_type SUM)) a') b'))
inl_typed p ks gs a b a' b' shapes ea eb ka kb =
    con_two p ks gs (prelude_value INL) (arrow (bound 1) (of_two SUM)) a b a' b' (arrow a' (applied (applied (con (prelude_type SUM)) a') b')) (inl_is p shapes) ea eb ka kb
    (ap (λ z. arrow z (applied (applied (con (prelude_type SUM)) z) b')) (kinded_opened p.decls ks [] a' kind.Star 0 b' ka (omega arith)))

pub inr_typed : (p : Program) (ks : Kinds) (gs : Types_of) (a b a' b' : Nameless) → HasShapes p → placed ks a ≡ a' → placed ks b ≡ b'
    → HasKind p.decls ks [] a' kind.Star → HasKind p.decls ks [] b' kind.Star → HasType p ks gs (at_two (prelude_value INR) a b) (arrow b' (applied (applied (con (prelude_type SUM)) a') b'))
inr_typed p ks gs a b a' b' shapes ea eb ka kb =
    con_two p ks gs (prelude_value INR) (arrow (bound 0) (of_two SUM)) a b a' b' (arrow b' (applied (applied (con (prelude_type SUM)) a') b')) (inr_is p shapes) ea eb ka kb
    (ap (λ z. arrow b' (applied (applied (con (prelude_type SUM)) z) b')) (kinded_opened p.decls ks [] a' kind.Star 0 b' ka (omega arith)))

pub pair_typed : (p : Program) (ks : Kinds) (gs : Types_of) (a b a' b' : Nameless) → HasShapes p → placed ks a ≡ a' → placed ks b ≡ b'
    → HasKind p.decls ks [] a' kind.Star → HasKind p.decls ks [] b' kind.Star
    → HasType p ks gs (at_two (prelude_value PRODUCT) a b) (arrow a' (arrow b' (applied (applied (con (prelude_type PROD)) a') b')))
pair_typed p ks gs a b a' b' shapes ea eb ka kb =
    con_two p ks gs (prelude_value PRODUCT) (arrow (bound 1) (arrow (bound 0) (of_two PROD))) a b a' b' (arrow a' (arrow b' (applied (applied (con (prelude_type PROD)) a') b'))) (pair_is p shapes) ea eb ka kb
    (ap (λ z. arrow z (arrow b' (applied (applied (con (prelude_type PROD)) z) b'))) (kinded_opened p.decls ks [] a' kind.Star 0 b' ka (omega arith)))

-- ---- variables of fields

-- the fields from the i-th on have these types
abbrev pub HasFields : Types_of → ℕ → List Nameless → Type 0
HasFields gs i [] = Unit {0}
HasFields gs i (t ∷ ts) = (var_type gs (suc i) ≡ Some t) × HasFields gs (suc i) ts

fields_skip : (gs : Types_of) (x k : ℕ) (o : Option Nameless) (ts : List Nameless) → x < suc k → HasFields gs k ts → HasFields ((x, o) ∷ gs) k ts
fields_skip gs x k o [] lt h = tt
fields_skip gs x k o (t ∷ ts) lt h = (ap (λ b. cond b o (var_type gs (suc k))) (unequal_is x (suc k) (λ e. omega arith)) ∙ h.0, fields_skip gs x (suc k) o ts (omega arith) h.1)

pub fields_bound : (gs : Types_of) (i n : ℕ) (ts : List Nameless) → n ≡ length ts → HasFields (paired (field_names i n) ts ++ gs) i ts
fields_bound gs i zero [] e = tt
fields_bound gs i zero (t ∷ ts) e = absurd (cc)
fields_bound gs i (suc n) [] e = absurd (cc)
fields_bound gs i (suc n) (t ∷ ts) e = (
  ap (λ b. cond b (Some t) (var_type (paired (field_names (suc i) n) ts ++ gs) (suc i))) (equal_is (suc i) (suc i) refl),
  fields_skip (paired (field_names (suc i) n) ts ++ gs) (suc i) (suc i) (Some t) ts (omega arith) (fields_bound gs (suc i) n ts (omega arith)),
)
