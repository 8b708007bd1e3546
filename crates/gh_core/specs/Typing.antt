-- The typing of core: the rules of the higher-order polymorphic lambda calculus (Girard's Fω, with the kinds of Haskell 98
-- Report, 4.1.1), with recursive bindings, one-level cases and primitives.
use Rattle.std.specs.Prelude.{◌≡◌, ℕ, suc, ◌+◌, ◌-◌, ℤ, Bool, true, false, cond, ◌==◌, ◌⊎◌, List, [], ◌∷◌, ◌++◌, map, reverse, length, Option, Some, None, slice_get, nat_lt, unwrap_or, IsTrue}
use Rattle.gh_base.specs.declared.fixed.TheConstants.{LIST, BOOL, CON}
use Rattle.gh_base.specs.declared.names.NameId.{NameId}
use Rattle.gh_base.specs.declared.place.Origin.{Origin}
use Rattle.gh_base.specs.declared.place.Space.TheVariants.{Types}
use Rattle.gh_base.specs.declared.place.Span.{Span}
use Rattle.gh_base.specs.declared.place.TyCon.{TyCon}
use Rattle.gh_base.specs.declared.place.TyCon.TheVariants as tycon
use Rattle.gh_base.specs.declared.fixed.TheConstants.{PRELUDE}
use Rattle.gh_typeterm.specs.declared.kind.Kind.{Kind}
use Rattle.gh_typeterm.specs.declared.kind.Kind.TheVariants as kind
use Rattle.gh_typeterm.specs.declared.ty.TyNode.{TyNode, fold-TyNode}
use Rattle.gh_typeterm.specs.declared.ty.TyNode.TheOpen.{TyNode-F}
use Rattle.gh_typeterm.specs.declared.decl.DeclCon.{DeclCon}
use Rattle.gh_typeterm.specs.declared.decl.DeclData.{DeclData}
use Rattle.gh_core.specs.declared.types.CoreType.{CoreType}
use Rattle.gh_core.specs.declared.terms.CoreName.{CoreName}
use Rattle.gh_core.specs.declared.terms.CoreTerm.{CoreTerm, fold-CoreTerm}
use Rattle.gh_core.specs.declared.terms.CoreAlt.TheOpen.{CoreTerm-F, CoreAlt-F}
use Rattle.gh_core.specs.declared.terms.CoreProgram.{CoreProgram}
use Rattle.gh_core.specs.declared.terms.Def.{Def}
use Rattle.gh_core.specs.Primitives.{same_origin, Unary, Binary, Primitive, error, unary, binary, named, primitives, ord, chr, show_int, plus, minus, times, quot, rem, equal, less, eq_char}
use Rattle.gh_core.specs.Reduce.{same_name}
use Rattle.gh_core.specs.SameType.{Nameless, bound, free, con, applied, forall, any, nameless}

-- ---- types
-- A type inside binders is a nameless type: a variable of a `forall` in it is the number of binders between it and its
-- own, and a variable of the binders round it is its level, which is how many of them are further out. So types that are
-- equal up to bound names are equal, and a type stays as it is when it is used inside more binders.

-- the type variables round a term, each a number with its kind, the nearest first
abbrev pub Kinds : Type 0
Kinds = List (ℕ × Kind)

-- the variables round a term, each a number with its type, the nearest first; one to which an alternative gives no type has
-- none, and hides those of its number all the same
abbrev pub Types_of : Type 0
Types_of = List (ℕ × Option Nameless)

-- the level of a type variable; one that nothing binds has a level of its own, past them all
abbrev pub level_in : Kinds → ℕ → ℕ → ℕ
level_in [] x count = count + x
level_in (k ∷ ks) x count = cond (k.0 == x) (length ks) (level_in ks x count)

abbrev pub kind_at : Kinds → ℕ → Option Kind
kind_at [] level = None
kind_at (k ∷ ks) level = cond (level == length ks) (Some k.1) (kind_at ks level)

abbrev pub prelude_type : NameId → TyCon
prelude_type name = tycon.Named (record { «module» = PRELUDE; space = Types; name = name })

-- the layer of a constructor is one type for all constructors
abbrev pub layered : TyCon → TyCon
layered (tycon.Named o) = tycon.Named o
layered tycon.Arrow = tycon.Arrow
layered tycon.Int = tycon.Int
layered tycon.Char = tycon.Char
layered (tycon.ConOf o) = prelude_type CON

-- a type with its free variables at their levels
abbrev pub placed : Kinds → Nameless → Nameless
placed ks (bound i) = bound i
placed ks (free x) = free (level_in ks x (length ks))
placed ks (con c) = con (layered c)
placed ks (applied f x) = applied (placed ks f) (placed ks x)
placed ks (forall k b) = forall k (placed ks b)
placed ks (any k) = any k

-- the body of a `forall` at a type
abbrev pub opened : ℕ → Nameless → Nameless → Nameless
opened depth u (bound i) = cond (i == depth) u (bound i)
opened depth u (free l) = free l
opened depth u (con c) = con c
opened depth u (applied f x) = applied (opened depth u f) (opened depth u x)
opened depth u (forall k b) = forall k (opened (suc depth) u b)
opened depth u (any k) = any k

-- a type as the body of a `forall` that binds the variable of a level
abbrev pub closed_over : ℕ → ℕ → Nameless → Nameless
closed_over level depth (bound i) = bound i
closed_over level depth (free l) = cond (l == level) (bound depth) (free l)
closed_over level depth (con c) = con c
closed_over level depth (applied f x) = applied (closed_over level depth f) (closed_over level depth x)
closed_over level depth (forall k b) = forall k (closed_over level (suc depth) b)
closed_over level depth (any k) = any k

abbrev pub arrow : Nameless → Nameless → Nameless
arrow a b = applied (applied (con tycon.Arrow) a) b

abbrev pub arrows : List Nameless → Nameless → Nameless
arrows [] t = t
arrows (a ∷ rest) t = arrow a (arrows rest t)

abbrev pub applied_to : Nameless → List Nameless → Nameless
applied_to head [] = head
applied_to head (a ∷ rest) = applied_to (applied head a) rest

abbrev pub int_type : Nameless
int_type = con tycon.Int

abbrev pub char_type : Nameless
char_type = con tycon.Char

abbrev pub string_type : Nameless
string_type = applied (con (prelude_type LIST)) char_type

abbrev pub bool_type : Nameless
bool_type = con (prelude_type BOOL)

-- ---- datatypes

abbrev pub decl_of : List DeclData → Origin → Option DeclData
decl_of [] o = None
decl_of (d ∷ ds) o = cond (same_origin d.origin o) (Some d) (decl_of ds o)

abbrev pub con_in : List DeclCon → Origin → Option DeclCon
con_in [] o = None
con_in (c ∷ cs) o = cond (same_origin c.origin o) (Some c) (con_in cs o)

abbrev pub with_decl : DeclData → Option DeclCon → Option (DeclData × DeclCon) → Option (DeclData × DeclCon)
with_decl d None other = other
with_decl d (Some c) other = Some (d, c)

-- the datatype of a constructor, and the constructor in it
abbrev pub con_of : List DeclData → Origin → Option (DeclData × DeclCon)
con_of [] o = None
con_of (d ∷ ds) o = with_decl d (con_in d.constructors o) (con_of ds o)

abbrev pub arrow_kinds : List Kind → Kind
arrow_kinds [] = kind.Star
arrow_kinds (k ∷ ks) = kind.Arrow k (arrow_kinds ks)

abbrev pub decl_kind : Option DeclData → Option Kind
decl_kind None = None
decl_kind (Some d) = Some (arrow_kinds d.params)

-- the kind of a type constructor
abbrev pub con_kind : List DeclData → TyCon → Option Kind
con_kind decls (tycon.Named o) = decl_kind (decl_of decls o)
con_kind decls tycon.Arrow = Some (kind.Arrow kind.Star (kind.Arrow kind.Star kind.Star))
con_kind decls tycon.Int = Some kind.Star
con_kind decls tycon.Char = Some kind.Star
con_kind decls (tycon.ConOf o) = None

-- a type has a kind, inside type variables with kinds (by level) and binders of `forall` with kinds (the nearest first)
abbrev pub HasKind : List DeclData → Kinds → List Kind → Nameless → Kind → Type 0
HasKind decls ks bs (bound i) k = slice_get bs i ≡ Some k
HasKind decls ks bs (free l) k = kind_at ks l ≡ Some k
HasKind decls ks bs (con c) k = con_kind decls c ≡ Some k
HasKind decls ks bs (applied f x) k = (a : Kind) × HasKind decls ks bs f (kind.Arrow a k) × HasKind decls ks bs x a
HasKind decls ks bs (forall l b) k = (k ≡ kind.Star) × HasKind decls ks (l ∷ bs) b kind.Star
HasKind decls ks bs (any l) k = l ≡ k

-- the number of binders between a parameter and its own, the last being the nearest; what is no parameter is bound by none
abbrev pub param_index : ℕ → ℕ → ℕ
param_index count x = cond (nat_lt x count) (count - suc x) (count + x)

-- the type of a field, the parameters being variables of `forall`
abbrev pub field_step : ℕ → TyNode-F Nameless → Nameless
field_step count (TyNode-F.Con c) = con (layered c)
field_step count (TyNode-F.Var x) = bound (param_index count x)
field_step count (TyNode-F.App f x) = applied f x
field_step count (TyNode-F.Name n) = bound (count + n)

abbrev pub field_type : ℕ → TyNode → Nameless
field_type count = fold-TyNode Nameless (field_step count)

abbrev pub field_types : DeclData → DeclCon → List Nameless
field_types d c = map (field_type (length d.params)) c.fields

-- the parameters of a datatype as variables, the first being the furthest
abbrev pub params_from : ℕ → List Nameless
params_from ℕ.zero = []
params_from (ℕ.suc n) = bound n ∷ params_from n

abbrev pub foralls : List Kind → Nameless → Nameless
foralls [] t = t
foralls (k ∷ ks) t = forall k (foralls ks t)

-- the type of a constructor: from its fields to its datatype, for all parameters
abbrev pub con_type : DeclData × DeclCon → Nameless
con_type p =
    foralls p.0.params (arrows (field_types p.0 p.1) (applied_to (con (tycon.Named p.0.origin)) (params_from (length p.0.params))))

abbrev pub con_type_of : Option (DeclData × DeclCon) → Option Nameless
con_type_of None = None
con_type_of (Some p) = Some (con_type p)

-- a type with types for the variables of `forall` in it, the nearest first
abbrev pub at_types : List Nameless → Nameless → Nameless
at_types ts (bound i) = unwrap_or (slice_get ts i) (bound i)
at_types ts (free l) = free l
at_types ts (con c) = con c
at_types ts (applied f x) = applied (at_types ts f) (at_types ts x)
at_types ts (forall k b) = forall k b
at_types ts (any k) = any k

-- the types of the fields of a constructor, where the datatype is applied to these types
abbrev pub fields_at : DeclData × DeclCon → List Nameless → List Nameless
fields_at p ts = map (at_types (reverse ts)) (field_types p.0 p.1)

-- ---- terms as plain trees, with nameless types whose free variables are still numbers

mutual
  pub data Code : Type 0 where
    a_var : (x : ℕ) → Code
    a_global : (name : CoreName) → Code
    a_con : (c : Origin) → Code
    an_int : (n : ℤ) → Code
    a_char : (c : ℕ) → Code
    a_string : (cs : List ℕ) → Code
    a_prim : (p : Origin) (place : Span) (ty : Option Nameless) → Code
    a_lam : (x : ℕ) (ty : Nameless) (body : Code) → Code
    an_app : (f e : Code) → Code
    a_tylam : (x : ℕ) (k : Kind) (body : Code) → Code
    a_tyapp : (f : Code) (ty : Nameless) → Code
    a_letrec : (bs : Bindings) (body : Code) → Code
    a_case : (scrutinee : Code) (ty : Nameless) (alts : Branches) → Code
    a_stop : (place : Span) (ty : Nameless) → Code

  pub data Bindings : Type 0 where
    no_binding : Bindings
    binding : (x : ℕ) (ty : Nameless) (t : Code) (rest : Bindings) → Bindings

  pub data Branch : Type 0 where
    con_branch : (c : Origin) (xs : List ℕ) (t : Code) → Branch
    int_branch : (n : ℤ) (t : Code) → Branch
    char_branch : (c : ℕ) (t : Code) → Branch

  pub data Branches : Type 0 where
    no_branch : Branches
    else_branch : (t : Code) → Branches
    branch : (b : Branch) (rest : Branches) → Branches

abbrev pub type_of : CoreType → Nameless
type_of t = nameless t []

abbrev pub result_of : Option CoreType → Option Nameless
result_of None = None
result_of (Some t) = Some (type_of t)

abbrev pub bindings_of : List (ℕ × CoreType × Code) → Bindings
bindings_of [] = no_binding
bindings_of (b ∷ bs) = binding b.0 (type_of b.1) b.2 (bindings_of bs)

abbrev pub branches_of : List Branch → Option Code → Branches
branches_of [] None = no_branch
branches_of [] (Some t) = else_branch t
branches_of (b ∷ bs) other = branch b (branches_of bs other)

abbrev pub branch_step : CoreAlt-F Branch Code → Branch
branch_step (CoreAlt-F.CoreAlt::Con c xs t) = con_branch c xs t
branch_step (CoreAlt-F.CoreAlt::Int n t) = int_branch n t
branch_step (CoreAlt-F.CoreAlt::Char c t) = char_branch c t

abbrev pub code_step : CoreTerm-F Branch Code → Code
code_step (CoreTerm-F.Var x) = a_var x
code_step (CoreTerm-F.Global name) = a_global name
code_step (CoreTerm-F.CoreTerm::Con c) = a_con c
code_step (CoreTerm-F.CoreTerm::Int n) = an_int n
code_step (CoreTerm-F.CoreTerm::Char c) = a_char c
code_step (CoreTerm-F.Str cs) = a_string cs
code_step (CoreTerm-F.Prim p place ty) = a_prim p place (result_of ty)
code_step (CoreTerm-F.Lam x ty body) = a_lam x (type_of ty) body
code_step (CoreTerm-F.App f e) = an_app f e
code_step (CoreTerm-F.TyLam x k body) = a_tylam x k body
code_step (CoreTerm-F.TyApp f ty) = a_tyapp f (type_of ty)
code_step (CoreTerm-F.LetRec bs body) = a_letrec (bindings_of bs) body
code_step (CoreTerm-F.Case t ty alts other) = a_case t (type_of ty) (branches_of alts other)
code_step (CoreTerm-F.Stop place ty) = a_stop place (type_of ty)

-- a term of the program as a plain tree
abbrev pub code_of : CoreTerm → Code
code_of = fold-CoreTerm Branch Code branch_step code_step

-- ---- the rules

-- definitions by name, each with its type
abbrev pub Globals : Type 0
Globals = List (CoreName × Nameless)

abbrev pub global_type : Globals → CoreName → Option Nameless
global_type [] name = None
global_type (g ∷ gs) name = cond (same_name g.0 name) (Some g.1) (global_type gs name)

-- the datatypes and definitions that a term may use
pub record Program : Type 0 where
  pub decls : List DeclData
  pub globals : Globals

abbrev pub var_type : Types_of → ℕ → Option Nameless
var_type [] x = None
var_type (g ∷ gs) x = cond (g.0 == x) g.1 (var_type gs x)

-- the type of a primitive but `error`
abbrev pub unary_type : Unary → Nameless
unary_type ord = arrow char_type int_type
unary_type chr = arrow int_type char_type
unary_type show_int = arrow int_type string_type

abbrev pub binary_type : Binary → Nameless
binary_type plus = arrow int_type (arrow int_type int_type)
binary_type minus = arrow int_type (arrow int_type int_type)
binary_type times = arrow int_type (arrow int_type int_type)
binary_type quot = arrow int_type (arrow int_type int_type)
binary_type rem = arrow int_type (arrow int_type int_type)
binary_type equal = arrow int_type (arrow int_type bool_type)
binary_type less = arrow int_type (arrow int_type bool_type)
binary_type eq_char = arrow char_type (arrow char_type bool_type)

-- a written type is one of values
abbrev pub IsValueType : Program → Kinds → Nameless → Type 0
IsValueType p ks ty = HasKind p.decls ks [] (placed ks ty) kind.Star

-- a primitive has this type: `error` has its result's type written with it, and no other has one
abbrev pub PrimHas : Program → Kinds → Option Primitive → Option Nameless → Nameless → Type 0
PrimHas p ks None ty t = ⊥
PrimHas p ks (Some error) None t = ⊥
PrimHas p ks (Some error) (Some a) t = IsValueType p ks a × (t ≡ arrow string_type (placed ks a))
PrimHas p ks (Some (unary u)) None t = t ≡ unary_type u
PrimHas p ks (Some (unary u)) (Some a) t = ⊥
PrimHas p ks (Some (binary b)) None t = t ≡ binary_type b
PrimHas p ks (Some (binary b)) (Some a) t = ⊥

-- names with types; where there are more names than types, the last have none
abbrev pub paired : List ℕ → List Nameless → Types_of
paired [] ts = []
paired (x ∷ xs) [] = (x, None) ∷ paired xs []
paired (x ∷ xs) (t ∷ ts) = (x, Some t) ∷ paired xs ts

abbrev pub bound_types : Kinds → Bindings → Types_of
bound_types ks no_binding = []
bound_types ks (binding x ty t rest) = (x, Some (placed ks ty)) ∷ bound_types ks rest

-- the type is a datatype of the program applied to a type for each parameter
pub record IsData (decls : List DeclData) (s : Nameless) (d : DeclData) (ts : List Nameless) : Type 0 where
  pub there : decl_of decls d.origin ≡ Some d
  pub type : s ≡ applied_to (con (tycon.Named d.origin)) ts
  pub whole : length ts ≡ length d.params

-- how often the branches name a constructor
abbrev pub names_it : Origin → Branch → ℕ
names_it o (con_branch c xs t) = cond (same_origin c o) 1 0
names_it o (int_branch n t) = 0
names_it o (char_branch c t) = 0

abbrev pub times_named : Origin → Branches → ℕ
times_named o no_branch = 0
times_named o (else_branch t) = 0
times_named o (branch b rest) = names_it o b + times_named o rest

abbrev pub EachOnce : List DeclCon → Branches → Type 0
EachOnce [] bs = Unit {0}
EachOnce (c ∷ cs) bs = (times_named c.origin bs ≡ 1) × EachOnce cs bs

abbrev pub has_else : Branches → Bool
has_else no_branch = false
has_else (else_branch t) = true
has_else (branch b rest) = has_else rest

-- a scrutinee has a datatype, or is an integer or a character
abbrev pub IsScrutinee : List DeclData → Nameless → Type 0
IsScrutinee decls s = ((d : DeclData) × (ts : List Nameless) × IsData decls s d ts) ⊎ (s ≡ int_type) ⊎ (s ≡ char_type)

-- a case goes on with one of its branches: there is an `else`, or each constructor of the datatype has one branch
abbrev pub IsCovered : List DeclData → Nameless → Branches → Type 0
IsCovered decls s bs =
    IsTrue (has_else bs) ⊎ ((d : DeclData) × (ts : List Nameless) × IsData decls s d ts × EachOnce d.constructors bs)

abbrev mutual
  -- a term has a type, inside these type variables and variables
  pub HasType : Program → Kinds → Types_of → Code → Nameless → Type 0
  HasType p ks gs (a_var x) t = var_type gs x ≡ Some t
  HasType p ks gs (a_global name) t = global_type p.globals name ≡ Some t
  HasType p ks gs (a_con c) t = con_type_of (con_of p.decls c) ≡ Some t
  HasType p ks gs (an_int n) t = t ≡ int_type
  HasType p ks gs (a_char c) t = t ≡ char_type
  HasType p ks gs (a_string cs) t = t ≡ string_type
  HasType p ks gs (a_prim o place ty) t = PrimHas p ks (named primitives o) ty t
  HasType p ks gs (a_lam x ty body) t =
      (u : Nameless) × IsValueType p ks ty × HasType p ks ((x, Some (placed ks ty)) ∷ gs) body u × (t ≡ arrow (placed ks ty) u)
  HasType p ks gs (an_app f e) t = (a : Nameless) × HasType p ks gs f (arrow a t) × HasType p ks gs e a
  HasType p ks gs (a_tylam x k body) t =
      (u : Nameless) × HasType p ((x, k) ∷ ks) gs body u × (t ≡ forall k (closed_over (length ks) 0 u))
  HasType p ks gs (a_tyapp f ty) t =
      (k : Kind) × (b : Nameless) × HasType p ks gs f (forall k b) × HasKind p.decls ks [] (placed ks ty) k
      × (t ≡ opened 0 (placed ks ty) b)
  HasType p ks gs (a_letrec bs body) t =
      AllBound p ks (bound_types ks bs ++ gs) bs × HasType p ks (bound_types ks bs ++ gs) body t
  HasType p ks gs (a_case e ty bs) t =
      (s : Nameless) × HasType p ks gs e s × IsValueType p ks ty × (t ≡ placed ks ty) × IsScrutinee p.decls s
      × AllGive p ks gs s t bs × IsCovered p.decls s bs
  HasType p ks gs (a_stop place ty) t = IsValueType p ks ty × (t ≡ placed ks ty)

  -- each bound variable has its written type, inside all of them
  pub AllBound : Program → Kinds → Types_of → Bindings → Type 0
  AllBound p ks gs no_binding = Unit {0}
  AllBound p ks gs (binding x ty t rest) = IsValueType p ks ty × HasType p ks gs t (placed ks ty) × AllBound p ks gs rest

  -- a branch fits a scrutinee of type s and gives type t
  pub Gives : Program → Kinds → Types_of → Nameless → Nameless → Branch → Type 0
  Gives p ks gs s t (con_branch c xs body) =
      (q : DeclData × DeclCon) × (ts : List Nameless) × (con_of p.decls c ≡ Some q) × IsData p.decls s q.0 ts
      × (length xs ≡ length q.1.fields) × HasType p ks (paired xs (fields_at q ts) ++ gs) body t
  Gives p ks gs s t (int_branch n body) = (s ≡ int_type) × HasType p ks gs body t
  Gives p ks gs s t (char_branch c body) = (s ≡ char_type) × HasType p ks gs body t

  pub AllGive : Program → Kinds → Types_of → Nameless → Nameless → Branches → Type 0
  AllGive p ks gs s t no_branch = Unit {0}
  AllGive p ks gs s t (else_branch e) = HasType p ks gs e t
  AllGive p ks gs s t (branch b rest) = Gives p ks gs s t b × AllGive p ks gs s t rest

-- ---- programs

abbrev pub origin_among : List Origin → Origin → Bool
origin_among [] o = false
origin_among (a ∷ rest) o = cond (same_origin a o) true (origin_among rest o)

abbrev pub AreDifferent : List Origin → Type 0
AreDifferent [] = Unit {0}
AreDifferent (o ∷ rest) = (origin_among rest o ≡ false) × AreDifferent rest

abbrev pub name_among : List CoreName → CoreName → Bool
name_among [] n = false
name_among (a ∷ rest) n = cond (same_name a n) true (name_among rest n)

abbrev pub NamesDiffer : List CoreName → Type 0
NamesDiffer [] = Unit {0}
NamesDiffer (n ∷ rest) = (name_among rest n ≡ false) × NamesDiffer rest

abbrev pub decl_origin : DeclData → Origin
decl_origin d = d.origin

abbrev pub con_origin : DeclCon → Origin
con_origin c = c.origin

abbrev pub all_cons : List DeclData → List Origin
all_cons [] = []
all_cons (d ∷ ds) = map con_origin d.constructors ++ all_cons ds

abbrev pub def_name : Def → CoreName
def_name d = d.name

abbrev pub def_global : Def → CoreName × Nameless
def_global d = (d.name, placed [] (type_of d.ty))

-- what the terms of a program may use
abbrev pub known : CoreProgram → Program
known p = record { decls = p.decls; globals = map def_global p.defs }

abbrev pub FieldsFit : List DeclData → List Kind → List Nameless → Type 0
FieldsFit decls ks [] = Unit {0}
FieldsFit decls ks (f ∷ fs) = HasKind decls [] ks f kind.Star × FieldsFit decls ks fs

abbrev pub ConsFit : List DeclData → DeclData → List DeclCon → Type 0
ConsFit decls d [] = Unit {0}
ConsFit decls d (c ∷ cs) = FieldsFit decls (reverse d.params) (field_types d c) × ConsFit decls d cs

-- each field of these datatypes has the kind of values
abbrev pub DeclsFit : List DeclData → List DeclData → Type 0
DeclsFit decls [] = Unit {0}
DeclsFit decls (d ∷ ds) = ConsFit decls d d.constructors × DeclsFit decls ds

-- a definition is closed and has its type, which is one of values
abbrev pub DefTyped : Program → Def → Type 0
DefTyped p d = IsValueType p [] (type_of d.ty) × HasType p [] [] (code_of d.term) (placed [] (type_of d.ty))

abbrev pub DefsTyped : Program → List Def → Type 0
DefsTyped p [] = Unit {0}
DefsTyped p (d ∷ ds) = DefTyped p d × DefsTyped p ds

-- core typing
pub record IsTyped (p : CoreProgram) : Type 0 where
  pub datatypes : AreDifferent (map decl_origin p.decls)
  pub constructors : AreDifferent (all_cons p.decls)
  pub definitions : NamesDiffer (map def_name p.defs)
  pub fields : DeclsFit p.decls p.decls
  pub typed : DefsTyped (known p) p.defs
  pub main : HasType (known p) [] [] (code_of p.main) string_type
