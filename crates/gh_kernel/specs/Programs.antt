-- Programs as the type-passing meaning reads them, and what it looks up in them.
use Rattle.std.specs.Prelude.{ℕ, zero, suc, Bool, true, false, cond, ◌==◌, ◌&&◌, ◌||◌, List, [], ◌∷◌, Option, Some, None, length}
use Rattle.gh_base.specs.declared.fixed.TheConstants.{PRELUDE, UNIT, SUM, PROD, CON, NIL, CONS, COLON, EMPTY_BRACKETS, EMPTY_PARENTHESES, TUPLE_0, TUPLE_2, TUPLE_3, TUPLE_4, TUPLE_5, TUPLE_6, TUPLE_7, TUPLE_2_SYNTAX, TUPLE_3_SYNTAX, TUPLE_4_SYNTAX, TUPLE_5_SYNTAX, TUPLE_6_SYNTAX, TUPLE_7_SYNTAX}
use Rattle.gh_base.specs.declared.names.NameId.{NameId}
use Rattle.gh_base.specs.declared.place.Origin.{Origin}
use Rattle.gh_base.specs.declared.place.Span.{Span}
use Rattle.gh_base.specs.declared.place.Space.TheVariants.{Types}
use Rattle.gh_base.specs.declared.place.TyCon.{TyCon}
use Rattle.gh_base.specs.declared.place.TyCon.TheVariants.{Named, Arrow, Int, Char, ConOf}
use Rattle.gh_core.specs.Primitives.{prelude_value, same_origin}
use Rattle.gh_core.specs.Reduce.{same_con}
use Rattle.gh_kernel.specs.declared.functions.Extension.{Extension}
use Rattle.gh_kernel.specs.declared.names.Head.{Head}
use Rattle.gh_kernel.specs.declared.names.Head.TheVariants.{Of, Layer, Bad}
use Rattle.gh_kernel.specs.declared.names.TopName.{TopName}
use Rattle.gh_kernel.specs.declared.names.TopName.TheVariants as name
use Rattle.gh_kernel.specs.Terms.{TypeTerm, Expr, Table, no_entry, entry}

-- a term whose notes are the places of its nodes
abbrev pub Exp : Type 0
Exp = Expr Span

pub record Constructor : Type 0 where
  pub name : Origin
  pub fields : List (TypeTerm Span)

-- a datatype; its parameters are the type variables 0 and up in the fields and in the representation
pub record Datatype : Type 0 where
  pub name : Origin
  pub is_newtype : Bool
  pub constructors : List Constructor
  pub representation : TypeTerm Span

-- a generic function: in its base type the variables below `generic` are the generic ones
pub record Function : Type 0 where
  pub name : Origin
  pub generic : ℕ
  pub base : TypeTerm Span
  pub dependencies : List Origin

-- a case of a generic function; the parameters of its head are the type names 0 and up in the body
pub record Case : Type 0 where
  pub function : Origin
  pub head : Head
  pub body : Exp

pub record Program : Type 0 where
  -- the table of names
  pub texts : List (List ℕ)
  pub datatypes : List Datatype
  pub bindings : List (TopName × Exp)
  pub functions : List Function
  -- each function's own cases
  pub cases : List Case
  pub extensions : List Extension

abbrev pub same_top : TopName → TopName → Bool
same_top (name.Named a) (name.Named b) = same_origin a b
same_top (name.Named a) (name.Hidden m j) = false
same_top (name.Hidden m i) (name.Named b) = false
same_top (name.Hidden m i) (name.Hidden o j) = (m.0 == o.0) && (i == j)

-- the first binding of this name
abbrev pub bound_to : List (TopName × Exp) → TopName → Option Exp
bound_to [] x = None
bound_to (b ∷ bs) x = cond (same_top b.0 x) (Some b.1) (bound_to bs x)

abbrev pub datatype_of : List Datatype → Origin → Option Datatype
datatype_of [] c = None
datatype_of (d ∷ ds) c = cond (same_origin d.name c) (Some d) (datatype_of ds c)

abbrev pub function_of : List Function → Origin → Option Function
function_of [] w = None
function_of (f ∷ fs) w = cond (same_origin f.name w) (Some f) (function_of fs w)

abbrev pub constructor_in : List Constructor → Origin → Option Constructor
constructor_in [] c = None
constructor_in (k ∷ ks) c = cond (same_origin k.name c) (Some k) (constructor_in ks c)

abbrev pub or_else : {A : Type 0} → Option A → Option A → Option A
or_else None o = o
or_else (Some a) o = Some a

abbrev pub constructor_of : List Datatype → Origin → Option Constructor
constructor_of [] c = None
constructor_of (d ∷ ds) c = or_else (constructor_in d.constructors c) (constructor_of ds c)

abbrev pub is_some : {A : Type 0} → Option A → Bool
is_some None = false
is_some (Some a) = true

-- the constructor is that of a newtype
abbrev pub is_newtype : List Datatype → Origin → Bool
is_newtype [] c = false
is_newtype (d ∷ ds) c = (d.is_newtype && is_some (constructor_in d.constructors c)) || is_newtype ds c

abbrev pub is_one_of : List Origin → Origin → Bool
is_one_of [] w = false
is_one_of (v ∷ vs) w = same_origin v w || is_one_of vs w

-- the term of a function in a table: the first entry counts
abbrev pub entry_of : Table Span → Origin → Option Exp
entry_of no_entry w = None
entry_of (entry v place e rest) w = cond (same_origin v w) (Some e) (entry_of rest w)

-- the case is for this type constructor
abbrev pub is_for : Head → TyCon → Bool
is_for (Of c) h = same_con c h
is_for Layer (ConOf c) = true
is_for Layer (Named c) = false
is_for Layer Arrow = false
is_for Layer Int = false
is_for Layer Char = false
is_for Bad h = false

abbrev pub own_case : List Case → Origin → TyCon → Option Exp
own_case [] w h = None
own_case (c ∷ cs) w h = cond (same_origin c.function w && is_for c.head h) (Some c.body) (own_case cs w h)

abbrev pub giver_of : List Extension → Origin → Option Origin
giver_of [] w = None
giver_of (x ∷ xs) w = cond (same_origin x.taker w) (Some x.giver) (giver_of xs w)

-- calls of one function become calls of another
abbrev pub renaming : Origin → Origin → Origin → Origin
renaming old new w = cond (same_origin w old) new w

abbrev pub unnamed : Option Exp → Option ((Origin → Origin) × Exp)
unnamed None = None
unnamed (Some e) = Some ((λ w. w), e)

abbrev pub renamed : Origin → Origin → Option ((Origin → Origin) × Exp) → Option ((Origin → Origin) × Exp)
renamed old new None = None
renamed old new (Some c) = Some ((λ w. renaming old new (c.0 w)), c.1)

abbrev pub taken_from : Option Origin → Origin → (Origin → Option ((Origin → Origin) × Exp)) → Option ((Origin → Origin) × Exp)
taken_from None w find = None
taken_from (Some giver) w find = renamed giver w (find giver)

-- a function's case for a type constructor, its own or else the one that it takes, through so many extensions at most;
-- with it, what becomes of the functions that it calls: at each extension those of the giver become those of the taker
abbrev pub case_within : Program → ℕ → Origin → TyCon → Option ((Origin → Origin) × Exp)
case_within p zero w h = unnamed (own_case p.cases w h)
case_within p (suc n) w h = or_else (unnamed (own_case p.cases w h)) (taken_from (giver_of p.extensions w) w (λ v. case_within p n v h))

abbrev pub case_of : Program → Origin → TyCon → Option ((Origin → Origin) × Exp)
case_of p w h = case_within p (length p.extensions) w h

-- the types of the Prelude that have no representation
abbrev pub is_structural : Origin → Bool
is_structural c =
    is_one_of (prelude_of UNIT ∷ prelude_of SUM ∷ prelude_of PROD ∷ prelude_of CON ∷ []) c
  where
    prelude_of : NameId → Origin
    prelude_of n = record { «module» = PRELUDE; space = Types; name = n }

-- a constructor's name as the source writes it, where that is not the name of its origin
abbrev pub written_as : List (NameId × NameId) → Origin → NameId
written_as [] c = c.name
written_as (w ∷ ws) c = cond (same_origin (prelude_value w.0) c) w.1 (written_as ws c)

abbrev pub written : Origin → NameId
written = written_as ((NIL, EMPTY_BRACKETS) ∷ (CONS, COLON) ∷ (TUPLE_0, EMPTY_PARENTHESES) ∷ (TUPLE_2, TUPLE_2_SYNTAX)
    ∷ (TUPLE_3, TUPLE_3_SYNTAX) ∷ (TUPLE_4, TUPLE_4_SYNTAX) ∷ (TUPLE_5, TUPLE_5_SYNTAX) ∷ (TUPLE_6, TUPLE_6_SYNTAX)
    ∷ (TUPLE_7, TUPLE_7_SYNTAX) ∷ [])
