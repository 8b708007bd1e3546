-- The types of the conversions, and what a program of core has for them to be typed.
use Rattle.std.specs.Prelude.{◌≡◌, ℕ, suc, ◌<◌, false, List, [], ◌∷◌, length, true, Some}
use Rattle.gh_base.specs.declared.fixed.TheConstants.{PRELUDE, UNIT, SUM, PROD, PRODUCT, CON, INL, INR}
use Rattle.gh_base.specs.declared.names.NameId.{NameId}
use Rattle.gh_base.specs.declared.place.Origin.{Origin}
use Rattle.gh_base.specs.declared.place.Space.TheVariants.{Types}
use Rattle.gh_typeterm.specs.declared.kind.Kind.{Kind}
use Rattle.gh_typeterm.specs.declared.kind.Kind.TheVariants as kind
use Rattle.gh_typeterm.specs.declared.decl.DeclCon.{DeclCon}
use Rattle.gh_typeterm.specs.declared.decl.DeclData.{DeclData}
use Rattle.gh_typeterm.specs.declared.ty.TyNode.TheVariants as ty
use Rattle.gh_typeterm.specs.Representation.{rep_of}
use Rattle.gh_core.specs.Primitives.{prelude_value}
use Rattle.gh_core.specs.SameType.{Nameless, forall}
use Rattle.gh_core.specs.Typing.{Program, closed_over, arrow, decl_of, con_of, ConsFit}
use Rattle.gh_kind_index.specs.KindIndex.{variables_from}
use Rattle.gh_adapt.specs.Typed.{at, self_type}

-- a type for all types of these kinds, which stand for the variables from `level` on
abbrev pub for_params : ℕ → List Kind → Nameless → Nameless
for_params level [] t = t
for_params level (k ∷ ks) t = forall k (closed_over level 0 (for_params (suc level) ks t))

-- for all parameters, from the datatype to its representation
abbrev pub from_type : DeclData → Nameless
from_type d =
    let ts = variables_from 0 (length d.params) in
    for_params 0 d.params (arrow (self_type d ts) (at ts (rep_of d)))

-- for all parameters, from the representation to the datatype
abbrev pub to_type : DeclData → Nameless
to_type d =
    let ts = variables_from 0 (length d.params) in
    for_params 0 d.params (arrow (at ts (rep_of d)) (self_type d ts))

-- ---- the Prelude's datatypes of representations

abbrev pub type_name : NameId → Origin
type_name name = record { «module» = PRELUDE; space = Types; name = name }

-- `Inl a` and `Inr b`
abbrev pub inl_con : DeclCon
inl_con = record { origin = prelude_value INL; fields = ty.Var 0 ∷ [] }

abbrev pub inr_con : DeclCon
inr_con = record { origin = prelude_value INR; fields = ty.Var 1 ∷ [] }

abbrev pub sum_data : DeclData
sum_data = record { origin = type_name SUM; is_newtype = false; params = kind.Star ∷ kind.Star ∷ []; constructors = inl_con ∷ inr_con ∷ [] }

-- `a :*: b`
abbrev pub product_con : DeclCon
product_con = record { origin = prelude_value PRODUCT; fields = ty.Var 0 ∷ ty.Var 1 ∷ [] }

abbrev pub product_data : DeclData
product_data = record { origin = type_name PROD; is_newtype = false; params = kind.Star ∷ kind.Star ∷ []; constructors = product_con ∷ [] }

abbrev pub unit_con : DeclCon
unit_con = record { origin = prelude_value UNIT; fields = [] }

abbrev pub unit_data : DeclData
unit_data = record { origin = type_name UNIT; is_newtype = false; params = []; constructors = unit_con ∷ [] }

-- the layer `Con a`, which is a newtype
abbrev pub layer_con : DeclCon
layer_con = record { origin = prelude_value CON; fields = ty.Var 0 ∷ [] }

abbrev pub layer_data : DeclData
layer_data = record { origin = type_name CON; is_newtype = true; params = kind.Star ∷ []; constructors = layer_con ∷ [] }

-- the program has them
pub record HasShapes (p : Program) : Type 0 where
  pub sum : decl_of p.decls (type_name SUM) ≡ Some sum_data
  pub left : con_of p.decls (prelude_value INL) ≡ Some (sum_data, inl_con)
  pub right : con_of p.decls (prelude_value INR) ≡ Some (sum_data, inr_con)
  pub product : decl_of p.decls (type_name PROD) ≡ Some product_data
  pub pair : con_of p.decls (prelude_value PRODUCT) ≡ Some (product_data, product_con)
  pub unit : decl_of p.decls (type_name UNIT) ≡ Some unit_data
  pub nothing : con_of p.decls (prelude_value UNIT) ≡ Some (unit_data, unit_con)
  pub layer : decl_of p.decls (type_name CON) ≡ Some layer_data
  pub put_on : con_of p.decls (prelude_value CON) ≡ Some (layer_data, layer_con)

abbrev pub ConsKnown : Program → DeclData → List DeclCon → Type 0
ConsKnown p d [] = Unit {0}
ConsKnown p d (c ∷ cs) = (con_of p.decls c.origin ≡ Some (d, c)) × ConsKnown p d cs

-- the program has the datatype with its constructors, of which there is one at least, and each field has the kind of values
pub record Knows (p : Program) (d : DeclData) : Type 0 where
  pub there : decl_of p.decls d.origin ≡ Some d
  pub constructors : ConsKnown p d d.constructors
  pub fields : ConsFit p.decls d d.constructors
  pub some : 0 < length d.constructors
  pub shapes : HasShapes p
