-- Types of values: their kinds, schemes, and what is given of a program before its terms are typed.
use Rattle.std.specs.Prelude.{◌≡◌, ℕ, zero, suc, Bool, false, cond, ◌==◌, ◌||◌, List, [], ◌∷◌, ◌++◌, map, Option, Some, None}
use Rattle.gh_base.specs.declared.fixed.TheConstants.{BOOL, LIST, PLUS, MINUS, TIMES, QUOT, REM, EQUAL, LESS, EQ_CHAR, ORD, CHR, SHOW_INT, ERROR}
use Rattle.gh_base.specs.declared.names.NameId.{NameId}
use Rattle.gh_base.specs.declared.place.Origin.{Origin}
use Rattle.gh_base.specs.declared.place.TyCon.{TyCon}
use Rattle.gh_base.specs.declared.place.TyCon.TheVariants as head
use Rattle.gh_typeterm.specs.declared.decl.DeclCon.{DeclCon}
use Rattle.gh_typeterm.specs.declared.decl.DeclData.{DeclData}
use Rattle.gh_typeterm.specs.declared.kind.Kind.{Kind}
use Rattle.gh_typeterm.specs.declared.kind.Kind.TheVariants.{Star}
use Rattle.gh_typeterm.specs.declared.kind.Kind.TheVariants as kind
use Rattle.gh_core.specs.Primitives.{prelude_value, same_origin}
use Rattle.gh_core.specs.Terms.{Literal, int, char}
use Rattle.gh_unify.specs.Types as ty
use Rattle.gh_unify.specs.Types.{Mono, Val, inst, has, mono}
use Rattle.gh_kernel.specs.declared.functions.GenFun.{GenFun}
use Rattle.gh_kernel.specs.declared.names.TopName.{TopName}
use Rattle.gh_kernel.specs.declared.names.TopName.TheVariants.{Named}
use Rattle.gh_kernel.specs.declared.signatures.Signed.{Signed}
use Rattle.gh_kernel.specs.BuiltIn.{built_in, prelude_type}
use Rattle.gh_kernel.specs.Programs.{same_top}

-- types ------------------------------------------------------------------------------------------------------------------

abbrev pub arrow : Mono → Mono → Mono
arrow s t = ty.app (ty.app (ty.con head.Arrow) s) t

-- a function of several arguments
abbrev pub arrows : List Mono → Mono → Mono
arrows [] t = t
arrows (s ∷ ss) t = arrow s (arrows ss t)

abbrev pub applied_to : Mono → List Mono → Mono
applied_to t [] = t
applied_to t (s ∷ ss) = applied_to (ty.app t s) ss

abbrev pub of_prelude : NameId → Mono
of_prelude n = ty.con (head.Named (prelude_type n))

abbrev pub int_type : Mono
int_type = ty.con head.Int

abbrev pub char_type : Mono
char_type = ty.con head.Char

abbrev pub list_type : Mono → Mono
list_type t = ty.app (of_prelude LIST) t

abbrev pub literal_type : Literal → Mono
literal_type (int n) = int_type
literal_type (char c) = char_type

abbrev pub item : {A : Type 0} → List A → ℕ → Option A
item [] i = None
item (x ∷ xs) zero = Some x
item (x ∷ xs) (suc i) = item xs i

-- a type for each of these variables; every other one stands for itself
abbrev pub assigned : List ℕ → List Mono → Val
assigned [] ts v = ty.var v
assigned (x ∷ xs) [] v = ty.var v
assigned (x ∷ xs) (t ∷ ts) v = cond (v == x) t (assigned xs ts v)

-- kinds: of type constructors as kind inference gives them, and of type variables
abbrev pub HasKind : (TyCon → Option Kind) → (ℕ → Kind) → Mono → Kind → Type 0
HasKind heads κ (ty.con c) k = heads c ≡ Some k
HasKind heads κ (ty.var v) k = κ v ≡ k
HasKind heads κ (ty.app f a) k = (j : Kind) × HasKind heads κ f (kind.Arrow j k) × HasKind heads κ a j
HasKind heads κ (ty.name n) k = ⊥

-- schemes ----------------------------------------------------------------------------------------------------------------

-- a type for all types of the variables' kinds
pub record Scheme : Type 0 where
  pub vars : List ℕ
  pub kinds : List Kind
  pub ty : Mono

abbrev pub monomorphic : Mono → Scheme
monomorphic t = record { vars = []; kinds = []; ty = t }

-- the variables of a written type are all quantified
abbrev pub signed_scheme : Signed → Scheme
signed_scheme s = record { vars = map (λ (v : ℕ × Kind). v.0) s.kinds; kinds = map (λ (v : ℕ × Kind). v.1) s.kinds; ty = mono s.ty }

abbrev pub is_among : ℕ → List ℕ → Bool
is_among v [] = false
is_among v (x ∷ xs) = (v == x) || is_among v xs

-- the variable occurs in the scheme, and is not quantified there
abbrev pub is_free : ℕ → Scheme → Bool
is_free v s = cond (is_among v s.vars) false (has v s.ty)

-- what is given of a program -----------------------------------------------------------------------------------------------

pub record Given : Type 0 where
  -- the kind of each type constructor
  pub heads : TyCon → Option Kind
  -- the datatypes that the modules declare
  pub datatypes : List DeclData
  pub functions : List GenFun

-- a constructor: the parameters of its datatype with their kinds, its fields, and its datatype at these parameters
pub record Shape : Type 0 where
  pub vars : List ℕ
  pub kinds : List Kind
  pub fields : List Mono
  pub result : Mono

abbrev pub places_from : {A : Type 0} → ℕ → List A → List ℕ
places_from i [] = []
places_from i (x ∷ xs) = i ∷ places_from (suc i) xs

abbrev pub shape_of : DeclData → DeclCon → Shape
shape_of d c = record {
  vars = places_from 0 d.params;
  kinds = d.params;
  fields = map mono c.fields;
  result = applied_to (ty.con (head.Named d.origin)) (map ty.var (places_from 0 d.params));
}

abbrev pub shape_in : DeclData → List DeclCon → Origin → Option Shape → Option Shape
shape_in d [] c other = other
shape_in d (k ∷ ks) c other = cond (same_origin k.origin c) (Some (shape_of d k)) (shape_in d ks c other)

abbrev pub shape_among : List DeclData → Origin → Option Shape
shape_among [] c = None
shape_among (d ∷ ds) c = shape_in d d.constructors c (shape_among ds c)

-- a constructor of the program, by its name
abbrev pub shape : Given → Origin → Option Shape
shape g c = shape_among (built_in ++ g.datatypes) c

abbrev pub constructor_scheme : Shape → Scheme
constructor_scheme s = record { vars = s.vars; kinds = s.kinds; ty = arrows s.fields s.result }

abbrev pub function_among : List GenFun → Origin → Option GenFun
function_among [] w = None
function_among (f ∷ fs) w = cond (same_origin f.origin w) (Some f) (function_among fs w)

-- the base type of a function with types for its generic variables, and for its non-generic ones
abbrev pub base_at : GenFun → List Mono → List Mono → Mono
base_at f types others = inst (assigned (places_from 0 (types ++ others)) (types ++ others)) (mono f.base)

-- names in scope -------------------------------------------------------------------------------------------------------------

-- a local variable or a name of the top level
pub data Bound : Type 0 where
  local : (x : ℕ) → Bound
  global : (x : TopName) → Bound

abbrev pub same_bound : Bound → Bound → Bool
same_bound (local x) (local y) = x == y
same_bound (local x) (global y) = false
same_bound (global x) (local y) = false
same_bound (global x) (global y) = same_top x y

abbrev pub Scope : Type 0
Scope = List (Bound × Scheme)

abbrev pub scheme_of : Scope → Bound → Option Scheme
scheme_of [] x = None
scheme_of (e ∷ es) x = cond (same_bound e.0 x) (Some e.1) (scheme_of es x)

-- the variable occurs in the type of a name in scope
abbrev pub occurs_in : Scope → ℕ → Bool
occurs_in [] v = false
occurs_in (e ∷ es) v = is_free v e.1 || occurs_in es v

-- a type name: the types that it stands for, one for each generic variable, and those that it fixes for non-generic ones
pub record TypeName : Type 0 where
  pub types : List Mono
  pub fixes : List Mono

abbrev pub TypeNames : Type 0
TypeNames = ℕ → Option TypeName

-- the primitives of the Prelude ----------------------------------------------------------------------------------------------

abbrev pub two_integers : Mono → Mono
two_integers t = arrows (int_type ∷ int_type ∷ []) t

abbrev pub primitive_scheme : NameId × Mono → Bound × Scheme
primitive_scheme p = (global (Named (prelude_value p.0)), monomorphic p.1)

abbrev pub primitive_scope : Scope
primitive_scope = (global (Named (prelude_value ERROR)), record { vars = 0 ∷ []; kinds = Star ∷ []; ty = arrow (list_type char_type) (ty.var 0) })
    ∷ map primitive_scheme ((PLUS, two_integers int_type) ∷ (MINUS, two_integers int_type) ∷ (TIMES, two_integers int_type)
    ∷ (QUOT, two_integers int_type) ∷ (REM, two_integers int_type) ∷ (EQUAL, two_integers (of_prelude BOOL)) ∷ (LESS, two_integers (of_prelude BOOL))
    ∷ (EQ_CHAR, arrows (char_type ∷ char_type ∷ []) (of_prelude BOOL)) ∷ (ORD, arrow char_type int_type) ∷ (CHR, arrow int_type char_type)
    ∷ (SHOW_INT, arrow int_type (list_type char_type)) ∷ [])
