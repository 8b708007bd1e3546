-- Conversions between a datatype and its representation, and at base types (Hinze, embedding-projection pairs; Löh, bimap).
use Rattle.std.specs.Prelude.{ℕ, suc, Bool, true, false, cond, nat_lt, List, [], ◌∷◌, Option, Some, None, length}
use Rattle.gh_base.specs.declared.fixed.TheConstants.{UNIT, PRODUCT, CON, INL, INR}
use Rattle.gh_base.specs.declared.place.Origin.{Origin}
use Rattle.gh_base.specs.declared.place.Span.{Span}
use Rattle.gh_base.specs.declared.place.TyCon.{TyCon}
use Rattle.gh_base.specs.declared.place.TyCon.TheVariants as head
use Rattle.gh_typeterm.specs.Representation.{paths_of}
use Rattle.gh_core.specs.Primitives.{prelude_value}
use Rattle.gh_kernel.specs.Instances.{nth, type_at}
use Rattle.gh_kernel.specs.Programs.{Exp, Constructor, Datatype, datatype_of}
use Rattle.gh_kernel.specs.Terms.{Pat, pvar, pcon, Pats, no_pat, pat, Direction, from_data, to_data, TypeTerm, tycon, tyvar, tyapp, var, con, lam, app, cases, whole, convert, no_expr, expr, no_group, Rows, no_row, row, no_body, always}

abbrev pub turned : Direction → Direction
turned from_data = to_data
turned to_data = from_data

-- The place of all that conversions are made of, the empty one at byte 0 of file 0: a conversion is one for all its calls, so nothing
-- in it says where it was called. Its cases fail on no typed value.
abbrev pub nowhere : Span
nowhere = record { file = 0; from = 0; to = 0 }

-- a term applied to others
abbrev pub applied : Span → Exp → List Exp → Exp
applied n f [] = f
applied n f (e ∷ es) = applied n (app n f e) es

-- a constructor of the Prelude
abbrev pub made : Span → Origin → List Exp → Exp
made n c es = applied n (con n c) es

abbrev pub one_pattern : Pat Span → Pats Span
one_pattern p = pat p no_pat

-- a case on one term
abbrev pub case_on : Exp → Rows Span → Exp
case_on e rows = cases nowhere (expr (whole e) no_expr) rows

-- a row of one pattern, and the body
abbrev pub one_row : Pat Span → Exp → Rows Span → Rows Span
one_row p e rest = row (one_pattern p) no_group (always e no_body) rest

-- the variables i and up, one for each field
abbrev pub variables : {A : Type 0} → ℕ → List A → List Exp
variables i [] = []
variables i (f ∷ fs) = var nowhere i ∷ variables (suc i) fs

abbrev pub variable_patterns : {A : Type 0} → ℕ → List A → List (Pat Span)
variable_patterns i [] = []
variable_patterns i (f ∷ fs) = pvar nowhere i ∷ variable_patterns (suc i) fs

abbrev pub patterns_of : List (Pat Span) → Pats Span
patterns_of [] = no_pat
patterns_of (p ∷ ps) = pat p (patterns_of ps)

-- a constructor with a variable for each field
abbrev pub opened : Constructor → Pat Span
opened c = pcon nowhere c.name (patterns_of (variable_patterns 0 c.fields))

-- terms, and patterns, nested to the right by the Prelude's product
abbrev pub product : List Exp → Exp
product [] = con nowhere (prelude_value UNIT)
product (e ∷ []) = e
product (e ∷ f ∷ es) = made nowhere (prelude_value PRODUCT) (e ∷ product (f ∷ es) ∷ [])

abbrev pub product_pattern : List (Pat Span) → Pat Span
product_pattern [] = pcon nowhere (prelude_value UNIT) no_pat
product_pattern (p ∷ []) = p
product_pattern (p ∷ q ∷ ps) = pcon nowhere (prelude_value PRODUCT) (pat p (one_pattern (product_pattern (q ∷ ps))))

-- past the constructors before this one, and into the sum
abbrev pub injection : Bool → Origin
injection true = prelude_value INR
injection false = prelude_value INL

abbrev pub injected : List Bool → Exp → Exp
injected [] e = e
injected (b ∷ bs) e = made nowhere (injection b) (injected bs e ∷ [])

abbrev pub injected_pattern : List Bool → Pat Span → Pat Span
injected_pattern [] p = p
injected_pattern (b ∷ bs) p = pcon nowhere (injection b) (one_pattern (injected_pattern bs p))

-- the value that stands for a constructor's, the constructor being the one at `index` of `count`
abbrev pub represented : ℕ → ℕ → Constructor → Exp
represented count index c = injected (paths_of count index) (made nowhere (prelude_value CON) (product (variables 0 c.fields) ∷ []))

abbrev pub represented_pattern : ℕ → ℕ → Constructor → Pat Span
represented_pattern count index c =
    injected_pattern (paths_of count index) (pcon nowhere (prelude_value CON) (one_pattern (product_pattern (variable_patterns 0 c.fields))))

abbrev pub from_rows : ℕ → ℕ → List Constructor → Rows Span
from_rows count index [] = no_row
from_rows count index (c ∷ cs) = one_row (opened c) (represented count index c) (from_rows count (suc index) cs)

abbrev pub to_rows : ℕ → ℕ → List Constructor → Rows Span
to_rows count index [] = no_row
to_rows count index (c ∷ cs) = one_row (represented_pattern count index c) (made nowhere c.name (variables 0 c.fields)) (to_rows count (suc index) cs)

abbrev pub rows_for : Direction → List Constructor → Rows Span
rows_for from_data cs = from_rows (length cs) 0 cs
rows_for to_data cs = to_rows (length cs) 0 cs

-- the layer of a constructor is taken away, or put on
abbrev pub layer_moved : Direction → Exp → Exp
layer_moved from_data e = case_on e (one_row (pcon nowhere (prelude_value CON) (one_pattern (pvar nowhere 0))) (var nowhere 0) no_row)
layer_moved to_data e = made nowhere (prelude_value CON) (whole e ∷ [])

abbrev pub moved_in : Direction → Option Datatype → Exp → Option Exp
moved_in d None e = None
moved_in d (Some t) e = Some (case_on e (rows_for d t.constructors))

-- one layer of a value, between a datatype or a constructor's layer and what represents it
abbrev pub moved : List Datatype → Direction → TyCon → Exp → Option Exp
moved ds d (head.Named c) e = moved_in d (datatype_of ds c) e
moved ds d (head.ConOf c) e = Some (layer_moved d e)
moved ds d head.Arrow e = None
moved ds d head.Int e = None
moved ds d head.Char e = None

-- each field converted at its type
abbrev pub converted_fields : (TypeTerm Span → Exp) → ℕ → List (TypeTerm Span) → List Exp
converted_fields by i [] = []
converted_fields by i (t ∷ ts) = app nowhere (by t) (var nowhere i) ∷ converted_fields by (suc i) ts

-- the rows that rebuild each constructor
abbrev pub rebuilding_rows : (TypeTerm Span → Exp) → List Constructor → Rows Span
rebuilding_rows by [] = no_row
rebuilding_rows by (c ∷ cs) = one_row (opened c) (made nowhere c.name (converted_fields by 0 c.fields)) (rebuilding_rows by cs)

abbrev pub rebuilt : (TypeTerm Span → Exp) → Option Datatype → Exp → Option Exp
rebuilt by None e = None
rebuilt by (Some t) e = Some (case_on e (rebuilding_rows by t.constructors))

-- a function that converts what it is given the other way, and what it answers
abbrev pub around : (Direction → TypeTerm Span → Exp) → Direction → TypeTerm Span → TypeTerm Span → Exp → Exp
around by d s t f = lam nowhere 0 (app nowhere (by d t) (app nowhere (whole f) (app nowhere (by (turned d) s) (var nowhere 0))))

-- what a conversion of the base type applied to a term goes to: `t` with the arguments that it was applied to. At a
-- marker it is that of the datatype `h`; at a function it goes round it; at a datatype it rebuilds each constructor, with
-- the fields converted at their types; at numbers, characters and non-generic variables it is the term itself
abbrev pub converted : List Datatype → Direction → TyCon → ℕ → TypeTerm Span → List (TypeTerm Span) → Exp → Option Exp
converted ds d h generic (tyapp f t) ts e = converted ds d h generic f (t ∷ ts) e
converted ds d h generic (tyvar v) [] e = cond (nat_lt v generic) (moved ds d h e) (Some e)
converted ds d h generic (tycon head.Int) [] e = Some e
converted ds d h generic (tycon head.Char) [] e = Some e
converted ds d h generic (tycon head.Arrow) (s ∷ t ∷ []) e = Some (around (λ d' u. convert nowhere d' h generic u) d s t e)
converted ds d h generic (tycon (head.Named c)) ts e = rebuilt (λ u. convert nowhere d h generic (type_at (nth ts) u)) (datatype_of ds c) e
converted ds d h generic t ts e = None
