-- The terms of core, without their types, that convert between a datatype and its structural representation (Löh, Exploring
-- Generic Haskell, embedding-projection pairs; the layer and the nesting to the right are this project's own).
use Rattle.std.specs.Prelude.{ℕ, zero, suc, Bool, true, false, List, [], ◌∷◌, length}
use Rattle.gh_base.specs.declared.fixed.TheConstants.{UNIT, PRODUCT, CON, INL, INR}
use Rattle.gh_base.specs.declared.place.Origin.{Origin}
use Rattle.gh_base.specs.declared.place.Span.{Span}
use Rattle.gh_typeterm.specs.declared.decl.DeclCon.{DeclCon}
use Rattle.gh_typeterm.specs.declared.decl.DeclData.{DeclData}
use Rattle.gh_typeterm.specs.Representation.{paths_of}
use Rattle.gh_core.specs.Primitives.{prelude_value}
use Rattle.gh_core.specs.Terms.{Term, var, con, lam, app, cases, stop, con_alt, Alts, else_to, alt}

-- a conversion's own cases fail on no typed value. Where they do fail, it is at this one place, which is no text's
abbrev pub nowhere : Span
nowhere = record { file = 0; from = 0; to = 0 }

abbrev pub failing : Alts
failing = else_to (stop nowhere)

-- what is looked at is the variable 0, and a constructor's fields are the variables 1 and up
abbrev pub here : Term
here = var 0

abbrev pub field_names : ℕ → ℕ → List ℕ
field_names i zero = []
field_names i (suc n) = suc i ∷ field_names (suc i) n

abbrev pub field_vars : ℕ → ℕ → List Term
field_vars i zero = []
field_vars i (suc n) = var (suc i) ∷ field_vars (suc i) n

abbrev pub applied_all : Term → List Term → Term
applied_all f [] = f
applied_all f (e ∷ es) = applied_all (app f e) es

-- a constructor with its arguments
abbrev pub made : Origin → List Term → Term
made c es = applied_all (con c) es

-- ---- into the representation

-- terms nested to the right by the product: `Unit` for none, and one alone for itself
abbrev pub product : List Term → Term
product [] = con (prelude_value UNIT)
product (e ∷ []) = e
product (e ∷ f ∷ es) = made (prelude_value PRODUCT) (e ∷ product (f ∷ es) ∷ [])

-- past the constructors before, and then into the sum
abbrev pub injection : Bool → Origin
injection true = prelude_value INR
injection false = prelude_value INL

abbrev pub injected : List Bool → Term → Term
injected [] e = e
injected (b ∷ bs) e = app (con (injection b)) (injected bs e)

-- what stands for the constructor at `index` of `count`, with these fields: its layer, round their product, in the sum
abbrev pub represented : ℕ → ℕ → List Term → Term
represented count index es = injected (paths_of count index) (app (con (prelude_value CON)) (product es))

abbrev pub from_alts : ℕ → ℕ → List DeclCon → Alts
from_alts count index [] = failing
from_alts count index (c ∷ cs) =
    alt (con_alt c.origin (field_names 0 (length c.fields)) (represented count index (field_vars 0 (length c.fields)))) (from_alts count (suc index) cs)

-- each constructor goes to what stands for it
abbrev pub from_of : DeclData → Term
from_of d = lam 0 (cases here (from_alts (length d.constructors) 0 d.constructors))

-- ---- out of the representation

-- the parts of a product, so many, are given to the variables from `i + 1` on: the variable that the whole is bound to, and what goes on
-- with them
abbrev pub apart : ℕ → ℕ → Term → ℕ × Term
apart i zero b = (0, cases here (alt (con_alt (prelude_value UNIT) [] b) failing))
apart i (suc zero) b = (suc i, b)
apart i (suc (suc n)) b =
    let rest = apart (suc i) (suc n) b in
    (0, cases here (alt (con_alt (prelude_value PRODUCT) (suc i ∷ rest.0 ∷ []) rest.1) failing))

-- a constructor's layer goes to the constructor
abbrev pub layer_case : DeclCon → Term
layer_case c =
    let parts = apart 0 (length c.fields) (made c.origin (field_vars 0 (length c.fields))) in
    cases here (alt (con_alt (prelude_value CON) (parts.0 ∷ []) parts.1) failing)

abbrev pub to_case : List DeclCon → Term
to_case [] = stop nowhere
to_case (c ∷ []) = layer_case c
to_case (c ∷ d ∷ ds) =
    cases here (alt (con_alt (prelude_value INL) (0 ∷ []) (layer_case c)) (alt (con_alt (prelude_value INR) (0 ∷ []) (to_case (d ∷ ds))) failing))

-- what stands for a constructor goes to it
abbrev pub to_of : DeclData → Term
to_of d = lam 0 (to_case d.constructors)
