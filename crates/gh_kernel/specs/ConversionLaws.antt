-- Laws of conversions and of bodies without a case.
use Rattle.std.specs.Prelude.{◌≡◌, ◌<◌, ℕ, List, [], ◌∷◌, length}
use Rattle.gh_base.specs.declared.place.Origin.{Origin}
use Rattle.gh_base.specs.declared.place.Span.{Span}
use Rattle.gh_base.specs.declared.place.TyCon.{TyCon}
use Rattle.gh_kernel.specs.Conversions.{made, nowhere, rows_for}
use Rattle.gh_kernel.specs.Instances.{instance, named_at, nth, type_at}
use Rattle.gh_kernel.specs.Programs.{Constructor, Exp, Function}
use Rattle.gh_kernel.specs.Steps.{body_at, with_names}
use Rattle.gh_kernel.specs.Terms.{Pat, pvar, pcon, Pats, no_pat, pat, from_data, to_data, TypeTerm, tycon, tyvar, tyapp, tyname, tylocal, var, app, call, convert, no_group, Rows, no_row, row, no_body, always}

-- a type whose variables are the first so many, without type names
abbrev pub IsOver : ℕ → TypeTerm Span → Type 0
IsOver m (tycon c) = Unit {0}
IsOver m (tyvar v) = v < m
IsOver m (tyapp f t) = IsOver m f × IsOver m t
IsOver m (tyname k) = ⊥
IsOver m (tylocal k table) = Unit {0}

-- type names for the variables, and then types for the names, are types for the variables
abbrev pub NamesThenTypes : Type 0
NamesThenTypes = (ts : List (TypeTerm Span)) (t : TypeTerm Span) → IsOver (length ts) t → named_at (nth ts) (with_names t) ≡ type_at (nth ts) t

-- an instance of the body without a case is the call at the instance of the representation, converted at the function's base type
abbrev pub BodyInstances : Type 0
BodyInstances =
    (h : TyCon) (f : Function) (ts : List (TypeTerm Span)) (t : TypeTerm Span) → IsOver (length ts) t
    → instance (λ w. w) (body_at h f (with_names t)) (nth ts) ≡ app nowhere (convert nowhere to_data h f.generic f.base) (call nowhere f.name (type_at (nth ts) t))

-- a pattern takes apart what a term puts together, and binds each variable to that variable
mutual
  pub data Fits : Pat Span → Exp → Type 0 where
    fits_variable : (n m : Span) (x : ℕ) → Fits (pvar n x) (var m x)
    fits_constructor : (n m : Span) (c : Origin) (ps : Pats Span) (es : List Exp) → FitAll ps es → Fits (pcon n c ps) (made m c es)

  pub data FitAll : Pats Span → List Exp → Type 0 where
    fit_none : FitAll no_pat []
    fit_more : {p : Pat Span} {ps : Pats Span} {e : Exp} {es : List Exp} → Fits p e → FitAll ps es → FitAll (pat p ps) (e ∷ es)

-- rows of one pattern and one body each, in pairs: each row's pattern takes apart what the other row of the pair puts together
abbrev pub Undo : Rows Span → Rows Span → Type 0
Undo no_row no_row = Unit {0}
Undo (row (pat p no_pat) no_group (always e no_body) rest) (row (pat q no_pat) no_group (always d no_body) more) = Fits q e × Fits p d × Undo rest more
Undo rows others = ⊥

-- `to` undoes `from`, and `from` undoes `to`, constructor by constructor (Hinze's embedding-projection pairs)
abbrev pub ConversionsUndo : Type 0
ConversionsUndo = (cs : List Constructor) → Undo (rows_for from_data cs) (rows_for to_data cs)
