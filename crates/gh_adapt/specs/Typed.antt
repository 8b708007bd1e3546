-- The same terms with their types: a view of what the code makes.
use Rattle.std.specs.Prelude.{ℕ, zero, suc, List, [], ◌∷◌, length, map, Some}
use Rattle.gh_base.specs.declared.fixed.TheConstants.{UNIT, PRODUCT, CON, INL, INR}
use Rattle.gh_base.specs.declared.place.Origin.{Origin}
use Rattle.gh_base.specs.declared.place.TyCon.TheVariants as tycon
use Rattle.gh_typeterm.specs.declared.kind.Kind.{Kind}
use Rattle.gh_typeterm.specs.declared.decl.DeclCon.{DeclCon}
use Rattle.gh_typeterm.specs.declared.decl.DeclData.{DeclData}
use Rattle.gh_typeterm.specs.declared.ty.TyNode.{TyNode}
use Rattle.gh_typeterm.specs.Representation.{nested, sum_of, product_of, layer_of}
use Rattle.gh_core.specs.declared.terms.CoreAlt.{CoreAlt, fold-CoreAlt}
use Rattle.gh_core.specs.Primitives.{prelude_value}
use Rattle.gh_core.specs.SameType.{Nameless, con}
use Rattle.gh_core.specs.Typing.{applied_to, Code, a_var, a_con, a_lam, an_app, a_tylam, a_tyapp, a_case, a_stop, Branch, con_branch, branches_of, branch_step, code_step}
use Rattle.gh_kind_index.specs.KindIndex.{base_at, variables_from}
use Rattle.gh_adapt.specs.Conversions.{nowhere, field_names}

-- a type term at types for its variables
abbrev pub at : List Nameless → TyNode → Nameless
at ts t = base_at ts [] t

-- a datatype at types for its parameters
abbrev pub self_type : DeclData → List Nameless → Nameless
self_type d ts = applied_to (con (tycon.Named d.origin)) ts

-- the sum that stands for some of the constructors, and the product that stands for some fields
abbrev pub sum_at : List Nameless → List TyNode → Nameless
sum_at ts layers = at ts (nested sum_of layers)

abbrev pub product_at : List Nameless → List TyNode → Nameless
product_at ts fields = at ts (nested product_of fields)

-- a constructor of two type parameters at two types
abbrev pub at_two : Origin → Nameless → Nameless → Code
at_two c a b = a_tyapp (a_tyapp (a_con c) a) b

-- the branch of an alternative
abbrev pub branch_of : CoreAlt → Branch
branch_of = fold-CoreAlt Branch Code branch_step code_step

-- a case with these branches, which fails otherwise
abbrev pub case_code : Code → Nameless → List Branch → Code
case_code e ty bs = a_case e ty (branches_of bs (Some (a_stop nowhere ty)))

abbrev pub one_case : Nameless → Branch → Code
one_case ty b = case_code (a_var 0) ty (b ∷ [])

abbrev pub tylams : ℕ → List Kind → Code → Code
tylams level [] b = b
tylams level (k ∷ ks) b = a_tylam level k (tylams (suc level) ks b)

abbrev pub product_code : List Nameless → ℕ → List TyNode → Code
product_code ts i [] = a_con (prelude_value UNIT)
product_code ts i (t ∷ []) = a_var (suc i)
product_code ts i (t ∷ u ∷ us) =
    an_app (an_app (at_two (prelude_value PRODUCT) (at ts t) (product_at ts (u ∷ us))) (a_var (suc i))) (product_code ts (suc i) (u ∷ us))

-- the layers that are left, from the first on
abbrev pub injected_code : List Nameless → List TyNode → ℕ → Code → Code
injected_code ts [] i e = e
injected_code ts (l ∷ []) i e = e
injected_code ts (l ∷ m ∷ ms) zero e = an_app (at_two (prelude_value INL) (at ts l) (sum_at ts (m ∷ ms))) e
injected_code ts (l ∷ m ∷ ms) (suc i) e = an_app (at_two (prelude_value INR) (at ts l) (sum_at ts (m ∷ ms))) (injected_code ts (m ∷ ms) i e)

abbrev pub layer_code : List Nameless → DeclCon → Code
layer_code ts c = an_app (a_tyapp (a_con (prelude_value CON)) (product_at ts c.fields)) (product_code ts 0 c.fields)

abbrev pub from_branch : List Nameless → List TyNode → ℕ → DeclCon → Branch
from_branch ts layers index c = con_branch c.origin (field_names 0 (length c.fields)) (injected_code ts layers index (layer_code ts c))

abbrev pub from_branches : List Nameless → List TyNode → ℕ → List DeclCon → List Branch
from_branches ts layers index [] = []
from_branches ts layers index (c ∷ cs) = from_branch ts layers index c ∷ from_branches ts layers (suc index) cs

abbrev pub from_code : DeclData → Code
from_code d =
    let ts = variables_from 0 (length d.params) in
    let layers = map layer_of d.constructors in
    tylams 0 d.params (a_lam 0 (self_type d ts) (case_code (a_var 0) (sum_at ts layers) (from_branches ts layers 0 d.constructors)))

abbrev pub types_given : Code → List Nameless → Code
types_given f [] = f
types_given f (t ∷ ts) = types_given (a_tyapp f t) ts

-- a constructor at types for its datatype's parameters, with its fields
abbrev pub con_at : Origin → List Nameless → Code
con_at c ts = types_given (a_con c) ts

abbrev pub fields_given : Code → ℕ → ℕ → Code
fields_given f i zero = f
fields_given f i (suc n) = fields_given (an_app f (a_var (suc i))) (suc i) n

abbrev pub apart_code : Nameless → ℕ → ℕ → Code → ℕ × Code
apart_code ty i zero b = (0, one_case ty (con_branch (prelude_value UNIT) [] b))
apart_code ty i (suc zero) b = (suc i, b)
apart_code ty i (suc (suc n)) b =
    let rest = apart_code ty (suc i) (suc n) b in
    (0, one_case ty (con_branch (prelude_value PRODUCT) (suc i ∷ rest.0 ∷ []) rest.1))

abbrev pub layer_case_code : List Nameless → Nameless → DeclCon → Code
layer_case_code ts ty c =
    let parts = apart_code ty 0 (length c.fields) (fields_given (con_at c.origin ts) 0 (length c.fields)) in
    one_case ty (con_branch (prelude_value CON) (parts.0 ∷ []) parts.1)

abbrev pub to_case_code : List Nameless → Nameless → List DeclCon → Code
to_case_code ts ty [] = a_stop nowhere ty
to_case_code ts ty (c ∷ []) = layer_case_code ts ty c
to_case_code ts ty (c ∷ d ∷ ds) =
    case_code (a_var 0) ty
    (con_branch (prelude_value INL) (0 ∷ []) (layer_case_code ts ty c) ∷ con_branch (prelude_value INR) (0 ∷ []) (to_case_code ts ty (d ∷ ds)) ∷ [])

abbrev pub to_code : DeclData → Code
to_code d =
    let ts = variables_from 0 (length d.params) in
    tylams 0 d.params (a_lam 0 (sum_at ts (map layer_of d.constructors)) (to_case_code ts (self_type d ts) d.constructors))
