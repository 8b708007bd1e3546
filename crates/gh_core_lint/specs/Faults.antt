-- The first node at which core typing fails.
-- The nodes of a definition are its terms, counted from 0, each after its parts and the parts from left to right. A fault is
-- found at the first node whose own rule does not hold, all nodes before it having their types.
use Rattle.std.specs.Prelude.{◌≡◌, ℕ, suc, ◌+◌, ◌-◌, ◌⊎◌, List, [], ◌∷◌, ◌++◌, map, length, Some, None}
use Rattle.gh_base.specs.declared.place.Origin.{Origin}
use Rattle.gh_typeterm.specs.declared.kind.Kind.{Kind}
use Rattle.gh_typeterm.specs.declared.decl.DeclCon.{DeclCon}
use Rattle.gh_typeterm.specs.declared.decl.DeclData.{DeclData}
use Rattle.gh_core.specs.declared.terms.CoreProgram.{CoreProgram}
use Rattle.gh_core.specs.declared.terms.Def.{Def}
use Rattle.gh_core.specs.Primitives.{named, primitives}
use Rattle.gh_core.specs.SameType.{Nameless, forall}
use Rattle.gh_core.specs.Typing.{Code, a_var, a_global, a_con, an_int, a_char, a_string, a_prim, a_lam, an_app, a_tylam, a_tyapp, a_letrec, a_case, a_stop, Bindings, no_binding, binding, Branch, con_branch, int_branch, char_branch, Branches, no_branch, else_branch, branch, Kinds, Types_of, Program, placed, HasKind, con_of, con_type_of, fields_at, arrow, int_type, char_type, string_type, global_type, var_type, IsValueType, PrimHas, paired, bound_types, IsData, IsScrutinee, IsCovered, HasType, AreDifferent, NamesDiffer, decl_origin, all_cons, def_name, DeclsFit, DefTyped, known, type_of, code_of}

pub data Fault : Type 0 where
  -- a rule other than the equality of two types does not hold
  broken : (node : ℕ) → Fault
  -- two types should be equal and differ: the one that is asked, and that of the part
  clash : (node : ℕ) (wanted found : Nameless) → Fault

-- ---- how many nodes a term has

abbrev mutual
  pub nodes : Code → ℕ
  nodes (a_var x) = 1
  nodes (a_global name) = 1
  nodes (a_con c) = 1
  nodes (an_int n) = 1
  nodes (a_char c) = 1
  nodes (a_string cs) = 1
  nodes (a_prim o place ty) = 1
  nodes (a_lam x ty body) = nodes body + 1
  nodes (an_app f e) = nodes f + nodes e + 1
  nodes (a_tylam x k body) = nodes body + 1
  nodes (a_tyapp f ty) = nodes f + 1
  nodes (a_letrec bs body) = nodes_bound bs + nodes body + 1
  nodes (a_case e ty bs) = nodes e + nodes_chosen bs + 1
  nodes (a_stop place ty) = 1

  pub nodes_bound : Bindings → ℕ
  nodes_bound no_binding = 0
  nodes_bound (binding x ty t rest) = nodes t + nodes_bound rest

  pub nodes_branch : Branch → ℕ
  nodes_branch (con_branch c xs t) = nodes t
  nodes_branch (int_branch n t) = nodes t
  nodes_branch (char_branch c t) = nodes t

  pub nodes_chosen : Branches → ℕ
  nodes_chosen no_branch = 0
  nodes_chosen (else_branch t) = nodes t
  nodes_chosen (branch b rest) = nodes_branch b + nodes_chosen rest

-- ---- the rule of a node, where its parts have their types: how it fails

-- a written type is none of values
abbrev pub WrittenFails : Program → Kinds → Nameless → ℕ → Fault → Type 0
WrittenFails p ks ty node f = (IsValueType p ks ty → ⊥) × (f ≡ broken node)

-- an application of no function, or of a function to an argument of another type
abbrev pub AppFails : Nameless → Nameless → ℕ → Fault → Type 0
AppFails function argument node f =
    (((a b : Nameless) → function ≡ arrow a b → ⊥) × (f ≡ broken node))
    ⊎ ((a : Nameless) × (b : Nameless) × (function ≡ arrow a b) × (a ≡ argument → ⊥) × (f ≡ clash node a argument))

-- a type application of no type function, or of one to a type of another kind
abbrev pub TyAppFails : Program → Kinds → Nameless → Nameless → ℕ → Fault → Type 0
TyAppFails p ks function ty node f =
    ((k : Kind) (b : Nameless) → function ≡ forall k b → HasKind p.decls ks [] (placed ks ty) k → ⊥) × (f ≡ broken node)

-- the first place at which two lists of types differ
abbrev pub FirstClash : List Nameless → List Nameless → ℕ → Fault → Type 0
FirstClash [] us node f = ⊥
FirstClash (w ∷ ws) [] node f = ⊥
FirstClash (w ∷ ws) (u ∷ us) node f = ((w ≡ u → ⊥) × (f ≡ clash node w u)) ⊎ ((w ≡ u) × FirstClash ws us node f)

abbrev pub AreValues : Program → Kinds → Bindings → Type 0
AreValues p ks no_binding = Unit {0}
AreValues p ks (binding x ty t rest) = IsValueType p ks ty × AreValues p ks rest

abbrev pub written : Kinds → Bindings → List Nameless
written ks no_binding = []
written ks (binding x ty t rest) = placed ks ty ∷ written ks rest

-- bindings whose terms have these types
abbrev pub LetFails : Program → Kinds → Bindings → List Nameless → ℕ → Fault → Type 0
LetFails p ks bs us node f =
    ((AreValues p ks bs → ⊥) × (f ≡ broken node)) ⊎ (AreValues p ks bs × FirstClash (written ks bs) us node f)

-- a branch has a constructor of the scrutinee's datatype with a name for each field, or a literal of the scrutinee's type
abbrev pub Fits : Program → Nameless → Branch → Type 0
Fits p s (con_branch c xs t) =
    (q : DeclData × DeclCon) × (ts : List Nameless) × (con_of p.decls c ≡ Some q) × IsData p.decls s q.0 ts
    × (length xs ≡ length q.1.fields)
Fits p s (int_branch n t) = s ≡ int_type
Fits p s (char_branch c t) = s ≡ char_type

abbrev pub AllFit : Program → Nameless → Branches → Type 0
AllFit p s no_branch = Unit {0}
AllFit p s (else_branch t) = Unit {0}
AllFit p s (branch b rest) = Fits p s b × AllFit p s rest

-- the rule of a case but for the types of its results
abbrev pub IsCase : Program → Kinds → Nameless → Nameless → Branches → Type 0
IsCase p ks s ty bs = IsValueType p ks ty × IsScrutinee p.decls s × AllFit p s bs × IsCovered p.decls s bs

abbrev pub repeated : Nameless → List Nameless → List Nameless
repeated t [] = []
repeated t (u ∷ us) = t ∷ repeated t us

-- a case whose scrutinee has the type s and whose results have these types
abbrev pub CaseFails : Program → Kinds → Nameless → Nameless → Branches → List Nameless → ℕ → Fault → Type 0
CaseFails p ks s ty bs us node f =
    ((IsCase p ks s ty bs → ⊥) × (f ≡ broken node)) ⊎ (IsCase p ks s ty bs × FirstClash (repeated (placed ks ty) us) us node f)

-- the types that a branch of this constructor gives its names: those of the fields, or none where it is no constructor of the
-- scrutinee's datatype
abbrev pub AreFields : Program → Nameless → Origin → List Nameless → Type 0
AreFields p s c us =
    ((q : DeclData × DeclCon) × (ts : List Nameless) × (con_of p.decls c ≡ Some q) × IsData p.decls s q.0 ts × (us ≡ fields_at q ts))
    ⊎ (((q : DeclData × DeclCon) (ts : List Nameless) → con_of p.decls c ≡ Some q → IsData p.decls s q.0 ts → ⊥) × (us ≡ []))

-- ---- terms

-- the terms of bindings have these types
abbrev pub BindingsHave : Program → Kinds → Types_of → Bindings → List Nameless → Type 0
BindingsHave p ks gs no_binding us = us ≡ []
BindingsHave p ks gs (binding x ty t rest) us =
    (v : Nameless) × (vs : List Nameless) × (us ≡ v ∷ vs) × HasType p ks gs t v × BindingsHave p ks gs rest vs

-- the term of a branch has this type
abbrev pub BranchHas : Program → Kinds → Types_of → Nameless → Branch → Nameless → Type 0
BranchHas p ks gs s (con_branch c xs t) u = (us : List Nameless) × AreFields p s c us × HasType p ks (paired xs us ++ gs) t u
BranchHas p ks gs s (int_branch n t) u = HasType p ks gs t u
BranchHas p ks gs s (char_branch c t) u = HasType p ks gs t u

-- the results of branches have these types
abbrev pub BranchesHave : Program → Kinds → Types_of → Nameless → Branches → List Nameless → Type 0
BranchesHave p ks gs s no_branch us = us ≡ []
BranchesHave p ks gs s (else_branch t) us = (v : Nameless) × (us ≡ v ∷ []) × HasType p ks gs t v
BranchesHave p ks gs s (branch b rest) us =
    (v : Nameless) × (vs : List Nameless) × (us ≡ v ∷ vs) × BranchHas p ks gs s b v × BranchesHave p ks gs s rest vs

abbrev mutual
  -- the term, whose first node has the number n, has this fault
  pub Fails : Program → Kinds → Types_of → ℕ → Code → Fault → Type 0
  Fails p ks gs n (a_var x) f = (var_type gs x ≡ None) × (f ≡ broken n)
  Fails p ks gs n (a_global name) f = (global_type p.globals name ≡ None) × (f ≡ broken n)
  Fails p ks gs n (a_con c) f = (con_type_of (con_of p.decls c) ≡ None) × (f ≡ broken n)
  Fails p ks gs n (an_int i) f = ⊥
  Fails p ks gs n (a_char c) f = ⊥
  Fails p ks gs n (a_string cs) f = ⊥
  Fails p ks gs n (a_prim o place ty) f = ((t : Nameless) → PrimHas p ks (named primitives o) ty t → ⊥) × (f ≡ broken n)
  Fails p ks gs n (a_lam x ty body) f =
      Fails p ks ((x, Some (placed ks ty)) ∷ gs) n body f
      ⊎ ((u : Nameless) × HasType p ks ((x, Some (placed ks ty)) ∷ gs) body u × WrittenFails p ks ty (n + nodes body) f)
  Fails p ks gs n (an_app e a) f =
      Fails p ks gs n e f
      ⊎ ((t : Nameless) × HasType p ks gs e t × Fails p ks gs (n + nodes e) a f)
      ⊎ ((t : Nameless) × (u : Nameless) × HasType p ks gs e t × HasType p ks gs a u × AppFails t u (n + nodes e + nodes a) f)
  Fails p ks gs n (a_tylam x k body) f = Fails p ((x, k) ∷ ks) gs n body f
  Fails p ks gs n (a_tyapp e ty) f =
      Fails p ks gs n e f ⊎ ((t : Nameless) × HasType p ks gs e t × TyAppFails p ks t ty (n + nodes e) f)
  Fails p ks gs n (a_letrec bs body) f =
      BindingFails p ks (bound_types ks bs ++ gs) n bs f
      ⊎ ((us : List Nameless) × BindingsHave p ks (bound_types ks bs ++ gs) bs us
      × Fails p ks (bound_types ks bs ++ gs) (n + nodes_bound bs) body f)
      ⊎ ((us : List Nameless) × (t : Nameless) × BindingsHave p ks (bound_types ks bs ++ gs) bs us
      × HasType p ks (bound_types ks bs ++ gs) body t × LetFails p ks bs us (n + nodes_bound bs + nodes body) f)
  Fails p ks gs n (a_case e ty bs) f =
      Fails p ks gs n e f
      ⊎ ((s : Nameless) × HasType p ks gs e s × BranchFails p ks gs s (n + nodes e) bs f)
      ⊎ ((s : Nameless) × (us : List Nameless) × HasType p ks gs e s × BranchesHave p ks gs s bs us
      × CaseFails p ks s ty bs us (n + nodes e + nodes_chosen bs) f)
  Fails p ks gs n (a_stop place ty) f = WrittenFails p ks ty n f

  pub BindingFails : Program → Kinds → Types_of → ℕ → Bindings → Fault → Type 0
  BindingFails p ks gs n no_binding f = ⊥
  BindingFails p ks gs n (binding x ty t rest) f =
      Fails p ks gs n t f ⊎ ((u : Nameless) × HasType p ks gs t u × BindingFails p ks gs (n + nodes t) rest f)

  pub BodyFails : Program → Kinds → Types_of → Nameless → ℕ → Branch → Fault → Type 0
  BodyFails p ks gs s n (con_branch c xs t) f = (us : List Nameless) × AreFields p s c us × Fails p ks (paired xs us ++ gs) n t f
  BodyFails p ks gs s n (int_branch i t) f = Fails p ks gs n t f
  BodyFails p ks gs s n (char_branch c t) f = Fails p ks gs n t f

  -- the first of the results of branches that has a fault has this one
  pub BranchFails : Program → Kinds → Types_of → Nameless → ℕ → Branches → Fault → Type 0
  BranchFails p ks gs s n no_branch f = ⊥
  BranchFails p ks gs s n (else_branch t) f = Fails p ks gs n t f
  BranchFails p ks gs s n (branch b rest) f =
      BodyFails p ks gs s n b f
      ⊎ ((u : Nameless) × BranchHas p ks gs s b u × BranchFails p ks gs s (n + nodes_branch b) rest f)

-- ---- programs

-- a closed term that should have this type
abbrev pub RootFails : Program → Code → Nameless → Fault → Type 0
RootFails p t wanted f =
    Fails p [] [] 0 t f
    ⊎ ((u : Nameless) × HasType p [] [] t u × (wanted ≡ u → ⊥) × (f ≡ clash (nodes t - 1) wanted u))

abbrev pub DefFails : Program → Def → Fault → Type 0
DefFails p d f =
    WrittenFails p [] (type_of d.ty) 0 f
    ⊎ (IsValueType p [] (type_of d.ty) × RootFails p (code_of d.term) (placed [] (type_of d.ty)) f)

-- the first of these definitions that has a fault is that of number `at`, and has this one; `main` counts as the last
abbrev pub DefsFail : Program → ℕ → List Def → Code → ℕ → Fault → Type 0
DefsFail p n [] main at f = (at ≡ n) × RootFails p main string_type f
DefsFail p n (d ∷ ds) main at f = ((at ≡ n) × DefFails p d f) ⊎ (DefTyped p d × DefsFail p (suc n) ds main at f)

-- the names of datatypes, constructors and definitions differ, and fields have the kind of values
abbrev pub IsOrderly : CoreProgram → Type 0
IsOrderly p =
    AreDifferent (map decl_origin p.decls) × AreDifferent (all_cons p.decls) × NamesDiffer (map def_name p.defs) × DeclsFit p.decls p.decls

-- the first fault of a program: the number of its definition, and the fault
abbrev pub ProgramFails : CoreProgram → ℕ → Fault → Type 0
ProgramFails p at f =
    ((IsOrderly p → ⊥) × (at ≡ 0) × (f ≡ broken 0)) ⊎ (IsOrderly p × DefsFail (known p) 0 p.defs (code_of p.main) at f)
