-- The conversion into the representation is typed.
use Rattle.std.proofs.Common.{◌≡◌, ℕ, zero, suc, ◌+◌, ◌≤◌, Bool, true, false, cond, ◌==◌, inl, List, [], ◌∷◌, ◌++◌, length, map, reverse, Some, slice_get, refl, sym, ap, ◌∙◌, subst, arith}
use Rattle.gh_base.specs.declared.fixed.TheConstants.{PROD, CON}
use Rattle.gh_base.specs.declared.place.TyCon.TheVariants as tycon
use Rattle.gh_typeterm.specs.declared.kind.Kind.{Kind}
use Rattle.gh_typeterm.specs.declared.kind.Kind.TheVariants as kind
use Rattle.gh_typeterm.specs.declared.decl.DeclCon.{DeclCon}
use Rattle.gh_typeterm.specs.declared.decl.DeclData.{DeclData}
use Rattle.gh_typeterm.specs.declared.ty.TyNode.{TyNode}
use Rattle.gh_typeterm.specs.Representation.{layer_of}
use Rattle.gh_core.specs.SameType.{Nameless, bound, free, con, applied, forall, any}
use Rattle.gh_core.specs.Typing.{Program, Kinds, Types_of, Code, a_var, a_lam, a_stop, Branch, branches_of, has_else, placed, closed_over, arrow, arrow_kinds, applied_to, prelude_type, decl_kind, con_type_of, HasKind, HasType, AllGive, IsData, FieldsFit, ConsFit, field_types, field_type, paired}
use Rattle.gh_kind_index.specs.KindIndex.{variables_from}
use Rattle.gh_adapt.specs.Conversions.{nowhere, field_names}
use Rattle.gh_adapt.specs.Typed.{at, self_type, sum_at, product_at, tylams, product_code, injected_code, layer_code, from_branches, case_code, from_code}
use Rattle.gh_adapt.specs.Types.{HasShapes, Knows, ConsKnown, for_params, from_type}
use Rattle.gh_adapt.proofs.Placing.{Keeps, keeps_none, inside, inside_keeps, kind_inside, seen, placed_at, variables_count}
use Rattle.gh_adapt.proofs.Shapes.{joined_types, placed_nested, own, fields_seen, fields_are, fields_placed, layer_type, layer_placed, sum_type, sum_placed, joined_kind, product_kind, fields_values, layer_value, sum_value, layer_is, inl_typed, inr_typed, pair_typed, HasFields, fields_bound}

-- the parameters of a datatype as the type variables round a term
abbrev pub round : DeclData → Kinds
round d = inside 0 d.params []

product_typed : (p : Program) (d : DeclData) (gs : Types_of) (i : ℕ) (fields : List TyNode) → HasShapes p → FieldsFit p.decls (reverse d.params) (map (field_type (length d.params)) fields)
    → HasFields gs i (fields_seen d fields) → HasType p (round d) gs (product_code (own d) i fields) (joined_types PROD (fields_seen d fields))
product_typed p d gs i [] shapes fit h = ap con_type_of shapes.nothing
product_typed p d gs i (t ∷ []) shapes fit h = h.0
product_typed p d gs i (t ∷ u ∷ us) shapes fit h =
    let keeps = inside_keeps d.params in
    let values = fields_values p d (t ∷ u ∷ us) fit in
    let first = seen (length d.params) t in
    let rest = joined_types PROD (fields_seen d (u ∷ us)) in (
      rest,
      (
        first,
        pair_typed p (round d) gs (at (own d) t) (product_at (own d) (u ∷ us)) first rest shapes
            (placed_at p.decls d.params (round d) keeps t kind.Star fit.0)
            (placed_nested (round d) (own d) PROD (u ∷ us) ∙ ap (joined_types PROD) (fields_placed p d (round d) keeps (u ∷ us) fit.1))
            values.0 (joined_kind p (round d) PROD shapes (product_kind p shapes) (fields_seen d (u ∷ us)) values.1),
        h.0,
      ),
      product_typed p d gs (suc i) (u ∷ us) shapes fit.1 h.1,
    )

layer_typed : (p : Program) (d : DeclData) (gs : Types_of) (c : DeclCon) → HasShapes p → FieldsFit p.decls (reverse d.params) (field_types d c)
    → HasFields gs 0 (fields_seen d c.fields) → HasType p (round d) gs (layer_code (own d) c) (layer_type d c.fields)
layer_typed p d gs c shapes fit h =
    let product = joined_types PROD (fields_seen d c.fields) in
    let is = placed_nested (round d) (own d) PROD c.fields ∙ ap (joined_types PROD) (fields_placed p d (round d) (inside_keeps d.params) c.fields fit) in
    let value = joined_kind p (round d) PROD shapes (product_kind p shapes) (fields_seen d c.fields) (fields_values p d c.fields fit) in (
      product,
      (
        kind.Star,
        arrow (bound 0) (applied (con (prelude_type CON)) (bound 0)),
        layer_is p shapes,
        subst (λ z. HasKind p.decls (round d) [] z kind.Star) (sym is) value,
        sym (λ i. arrow (is i) (applied (con (prelude_type CON)) (is i))),
      ),
      product_typed p d gs 0 c.fields shapes fit h,
    )

injected_typed : (p : Program) (d : DeclData) (gs : Types_of) (cs : List DeclCon) (index : ℕ) (c : DeclCon) (e : Code) → HasShapes p → ConsFit p.decls d cs → slice_get cs index ≡ Some c
    → HasType p (round d) gs e (layer_type d c.fields) → HasType p (round d) gs (injected_code (own d) (map layer_of cs) index e) (sum_type d cs)
injected_typed p d gs [] index c e shapes fit is h = absurd (cc)
injected_typed p d gs (b ∷ []) zero c e shapes fit is h = let same : c ≡ b = cc in subst (λ (z : DeclCon). HasType p (round d) gs e (layer_type d z.fields)) same h
injected_typed p d gs (b ∷ []) (suc index) c e shapes fit is h = absurd (cc)
injected_typed p d gs (b ∷ b' ∷ bs) zero c e shapes fit is h =
    let keeps = inside_keeps d.params in
    let same : c ≡ b = cc in (
      layer_type d b.fields,
      inl_typed p (round d) gs (at (own d) (layer_of b)) (sum_at (own d) (map layer_of (b' ∷ bs))) (layer_type d b.fields) (sum_type d (b' ∷ bs)) shapes
          (layer_placed p d (round d) keeps b fit.0) (sum_placed p d (round d) keeps (b' ∷ bs) fit.1) (layer_value p d shapes b fit.0) (sum_value p d shapes (b' ∷ bs) fit.1),
      subst (λ (z : DeclCon). HasType p (round d) gs e (layer_type d z.fields)) same h,
    )
injected_typed p d gs (b ∷ b' ∷ bs) (suc index) c e shapes fit is h =
    let keeps = inside_keeps d.params in (
      sum_type d (b' ∷ bs),
      inr_typed p (round d) gs (at (own d) (layer_of b)) (sum_at (own d) (map layer_of (b' ∷ bs))) (layer_type d b.fields) (sum_type d (b' ∷ bs)) shapes
          (layer_placed p d (round d) keeps b fit.0) (sum_placed p d (round d) keeps (b' ∷ bs) fit.1) (layer_value p d shapes b fit.0) (sum_value p d shapes (b' ∷ bs) fit.1),
      injected_typed p d gs (b' ∷ bs) index c e shapes fit.1 is h,
    )

-- ---- the case

pub names_length : (i n : ℕ) → length (field_names i n) ≡ n
names_length i zero = refl
names_length i (suc n) = ap suc (names_length (suc i) n)

pub own_data : (p : Program) (d : DeclData) → Knows p d → IsData p.decls (self_type d (own d)) d (own d)
own_data p d knows = record { there = knows.there; type = refl; whole = variables_count 0 (length d.params) }

gives_all : (p : Program) (d : DeclData) (gs : Types_of) (rest : List DeclCon) (index : ℕ) → Knows p d
    → ((j : ℕ) (c : DeclCon) → slice_get rest j ≡ Some c → slice_get d.constructors (index + j) ≡ Some c) → ConsKnown p d rest → ConsFit p.decls d rest
    → AllGive p (round d) gs (self_type d (own d)) (sum_type d d.constructors)
    (branches_of (from_branches (own d) (map layer_of d.constructors) index rest) (Some (a_stop nowhere (sum_at (own d) (map layer_of d.constructors)))))
gives_all p d gs [] index knows there known fit =
    let is = sum_placed p d (round d) (inside_keeps d.params) d.constructors knows.fields in
    (subst (λ z. HasKind p.decls (round d) [] z kind.Star) (sym is) (sum_value p d knows.shapes d.constructors knows.fields), sym is)
gives_all p d gs (c ∷ rest) index knows there known fit =
    let k = length c.fields in
    let zero_last : index + 0 ≡ index = omega arith in
    let names = field_names 0 k in
    let inner = paired names (fields_seen d c.fields) ++ gs in
    let at_index = ap (slice_get d.constructors) (sym zero_last) ∙ there 0 c refl in (
      (
        (d, c),
        own d,
        known.0,
        own_data p d knows,
        names_length 0 k,
        subst (λ us. HasType p (round d) (paired names us ++ gs) (injected_code (own d) (map layer_of d.constructors) index (layer_code (own d) c)) (sum_type d d.constructors)) (sym (fields_are d c))
            (injected_typed p d inner d.constructors index c (layer_code (own d) c) knows.shapes knows.fields at_index
            (layer_typed p d inner c knows.shapes fit.0 (fields_bound gs 0 k (fields_seen d c.fields) (sym (seen_length d c.fields))))),
      ),
      gives_all p d gs rest (suc index) knows (λ j b e. let shift : index + suc j ≡ suc index + j = omega arith in ap (slice_get d.constructors) (sym shift) ∙ there (suc j) b e) known.1 fit.1,
    )
  where
    seen_length : (d : DeclData) (fields : List TyNode) → length (fields_seen d fields) ≡ length fields
    seen_length d [] = refl
    seen_length d (t ∷ fields) = ap suc (seen_length d fields)

pub else_there : (bs : List Branch) (e : Code) → has_else (branches_of bs (Some e)) ≡ true
else_there [] e = refl
else_there (b ∷ bs) e = else_there bs e

-- ---- type functions

pub tylams_typed : (p : Program) (gs : Types_of) (level : ℕ) (ks : List Kind) (acc : Kinds) (b : Code) (t : Nameless) → length acc ≡ level
    → HasType p (inside level ks acc) gs b t → HasType p acc gs (tylams level ks b) (for_params level ks t)
tylams_typed p gs level [] acc b t len h = h
tylams_typed p gs level (k ∷ ks) acc b t len h = (
  for_params (suc level) ks t,
  tylams_typed p gs (suc level) ks ((level, k) ∷ acc) b t (ap suc len) h,
  ap (λ l. forall k (closed_over l 0 (for_params (suc level) ks t))) (sym len),
)

free_placed : (b : Bool) (d x : ℕ) → 0 + x ≡ x → placed [] (cond b (bound d) (free x)) ≡ cond b (bound d) (free x)
free_placed true d x e = refl
free_placed false d x e = ap free e

closed_placed : (l d : ℕ) (t : Nameless) → placed [] (closed_over l d t) ≡ closed_over l d (placed [] t)
closed_placed l d (bound i) = refl
closed_placed l d (free x) =
    let zero_first : 0 + x ≡ x = omega arith in
    free_placed (x == l) d x zero_first ∙ ap (λ y. closed_over l d (free y)) (sym zero_first)
closed_placed l d (con c) = refl
closed_placed l d (applied f x) = λ i. applied (closed_placed l d f i) (closed_placed l d x i)
closed_placed l d (forall k b) = ap (forall k) (closed_placed l (suc d) b)
closed_placed l d (any k) = refl

pub params_placed : (level : ℕ) (ks : List Kind) (t : Nameless) → placed [] (for_params level ks t) ≡ for_params level ks (placed [] t)
params_placed level [] t = refl
params_placed level (k ∷ ks) t =
    ap (forall k) (closed_placed level 0 (for_params (suc level) ks t) ∙ ap (closed_over level 0) (params_placed (suc level) ks t))

-- ---- the datatype itself

applied_placed : (ks : Kinds) (ts : List Nameless) (h : Nameless) → placed ks (applied_to h ts) ≡ applied_to (placed ks h) (map (placed ks) ts)
applied_placed ks [] h = refl
applied_placed ks (t ∷ ts) h = applied_placed ks ts (applied h t)

variables_placed : (ks : Kinds) (n level count : ℕ) → Keeps ks n → level + count ≤ n → map (placed ks) (variables_from level count) ≡ variables_from level count
variables_placed ks n level zero keeps le = refl
variables_placed ks n level (suc count) keeps le = λ i. free (keeps level (omega arith) i) ∷ variables_placed ks n (suc level) count keeps (omega arith) i

pub self_placed : (d : DeclData) (ks : Kinds) → Keeps ks (length d.params) → placed ks (self_type d (own d)) ≡ self_type d (own d)
self_placed d ks keeps =
    applied_placed ks (own d) (con (tycon.Named d.origin)) ∙ ap (applied_to (con (tycon.Named d.origin))) (variables_placed ks (length d.params) 0 (length d.params) keeps (omega arith))

applied_kind : (p : Program) (ks : Kinds) (params : List Kind) (level : ℕ) (h : Nameless) → HasKind p.decls ks [] h (arrow_kinds params)
    → ((x : ℕ) (k : Kind) → slice_get params x ≡ Some k → HasKind p.decls ks [] (free (level + x)) k) → HasKind p.decls ks [] (applied_to h (variables_from level (length params))) kind.Star
applied_kind p ks [] level h is each = is
applied_kind p ks (k ∷ params) level h is each =
    let zero_last : level + 0 ≡ level = omega arith in
    applied_kind p ks params (suc level) (applied h (free level)) (k, is, subst (λ l. HasKind p.decls ks [] (free l) k) zero_last (each 0 k refl))
    (λ x l e. let shift : level + suc x ≡ suc level + x = omega arith in subst (λ z. HasKind p.decls ks [] (free z) l) shift (each (suc x) l e))

pub self_value : (p : Program) (d : DeclData) → Knows p d → HasKind p.decls (round d) [] (self_type d (own d)) kind.Star
self_value p d knows =
    applied_kind p (round d) d.params 0 (con (tycon.Named d.origin)) (ap decl_kind knows.there)
    (λ x k e. let zero_first : x ≡ 0 + x = omega arith in subst (λ z. HasKind p.decls (round d) [] (free z) k) zero_first (kind_inside d.params x k e))

pub from_typed : (p : Program) (d : DeclData) → Knows p d → HasType p [] [] (from_code d) (placed [] (from_type d))
from_typed p d knows =
    let keeps = inside_keeps d.params in
    let none = keeps_none (length d.params) in
    let self = self_type d (own d) in
    let sum = sum_type d d.constructors in
    let written = sum_at (own d) (map layer_of d.constructors) in
    let self_is = self_placed d (round d) keeps in
    let sum_is = sum_placed p d (round d) keeps d.constructors knows.fields in
    let gs : Types_of = (0, Some self) ∷ [] in
    let branches = from_branches (own d) (map layer_of d.constructors) 0 d.constructors in
    let body : HasType p (round d) gs (case_code (a_var 0) written branches) sum = (
      self,
      refl,
      subst (λ z. HasKind p.decls (round d) [] z kind.Star) (sym sum_is) (sum_value p d knows.shapes d.constructors knows.fields),
      sym sum_is,
      inl (d, own d, own_data p d knows),
      gives_all p d gs d.constructors 0 knows (λ j c e. let zero_first : 0 + j ≡ j = omega arith in ap (slice_get d.constructors) zero_first ∙ e) knows.constructors knows.fields,
      inl (else_there branches (a_stop nowhere written)),
    ) in
    let function : HasType p (round d) [] (a_lam 0 self (case_code (a_var 0) written branches)) (arrow self sum) = (
      sum,
      subst (λ z. HasKind p.decls (round d) [] z kind.Star) (sym self_is) (self_value p d knows),
      subst (λ z. HasType p (round d) ((0, Some z) ∷ []) (case_code (a_var 0) written branches) sum) (sym self_is) body,
      ap (λ z. arrow z sum) (sym self_is),
    ) in
    subst (HasType p [] [] (from_code d))
    (sym (params_placed 0 d.params (arrow self written)
    ∙ (λ i. for_params 0 d.params (arrow (self_placed d [] none i) (sum_placed p d [] none d.constructors knows.fields i)))))
    (tylams_typed p [] 0 d.params [] (a_lam 0 self (case_code (a_var 0) written branches)) (arrow self sum) refl function)
