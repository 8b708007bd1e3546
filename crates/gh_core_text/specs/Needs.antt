-- How many names a table has to have, for a program to use no other.
use Rattle.std.specs.Prelude.{ℕ, ◌+◌, max, List, [], ◌∷◌, Option, Some, None}
use Rattle.gh_base.specs.declared.names.NameId.{NameId}
use Rattle.gh_base.specs.declared.place.Origin.{Origin}
use Rattle.gh_base.specs.declared.place.TyCon.{TyCon}
use Rattle.gh_base.specs.declared.place.TyCon.TheVariants as tycon
use Rattle.gh_typeterm.specs.declared.ty.TyNode.{TyNode, fold-TyNode}
use Rattle.gh_typeterm.specs.declared.ty.TyNode.TheOpen.{TyNode-F}
use Rattle.gh_typeterm.specs.declared.decl.DeclCon.{DeclCon}
use Rattle.gh_typeterm.specs.declared.decl.DeclData.{DeclData}
use Rattle.gh_core.specs.declared.types.CoreType.{CoreType, fold-CoreType}
use Rattle.gh_core.specs.declared.types.CoreType.TheOpen.{CoreType-F}
use Rattle.gh_core.specs.declared.terms.CoreName.{CoreName}
use Rattle.gh_core.specs.declared.terms.CoreName.TheVariants as name
use Rattle.gh_core.specs.declared.terms.Def.{Def}
use Rattle.gh_core.specs.declared.terms.CoreProgram.{CoreProgram}
use Rattle.gh_core.specs.declared.terms.CoreTerm.{CoreTerm, fold-CoreTerm}
use Rattle.gh_core.specs.declared.terms.CoreAlt.{CoreAlt, fold-CoreAlt}
use Rattle.gh_core.specs.declared.terms.CoreAlt.TheOpen.{CoreTerm-F, CoreAlt-F}

-- an id is a place in the table, from 0
abbrev pub needs_id : NameId → ℕ
needs_id id = id.0 + 1

abbrev pub needs_origin : Origin → ℕ
needs_origin o = max (needs_id o.«module») (needs_id o.name)

-- a layer is printed with its constructor's name in names of definitions
abbrev pub needs_tycon : TyCon → ℕ
needs_tycon (tycon.Named o) = needs_origin o
needs_tycon tycon.Arrow = 0
needs_tycon tycon.Int = 0
needs_tycon tycon.Char = 0
needs_tycon (tycon.ConOf o) = needs_origin o

abbrev pub needs_name : CoreName → ℕ
needs_name (name.Plain o) = needs_origin o
needs_name (name.Hidden home n) = needs_id home
needs_name (name.Component o c) = max (needs_origin o) (needs_tycon c)
needs_name (name.From c) = needs_tycon c
needs_name (name.To c) = needs_tycon c
needs_name (name.Bimap c) = needs_tycon c

abbrev pub needs_type_step : CoreType-F ℕ → ℕ
needs_type_step (CoreType-F.Var x) = 0
needs_type_step (CoreType-F.Con c) = needs_tycon c
needs_type_step (CoreType-F.App f x) = max f x
needs_type_step (CoreType-F.Forall x kind body) = body
needs_type_step (CoreType-F.Any kind) = 0

abbrev pub needs_type : CoreType → ℕ
needs_type = fold-CoreType ℕ needs_type_step

abbrev pub needs_field_step : TyNode-F ℕ → ℕ
needs_field_step (TyNode-F.Con c) = needs_tycon c
needs_field_step (TyNode-F.Var x) = 0
needs_field_step (TyNode-F.App f x) = max f x
needs_field_step (TyNode-F.Name n) = 0

abbrev pub needs_field : TyNode → ℕ
needs_field = fold-TyNode ℕ needs_field_step

abbrev pub needs_result : Option CoreType → ℕ
needs_result None = 0
needs_result (Some ty) = needs_type ty

abbrev pub needs_bindings : {X : Type 0} → (X → ℕ) → List (ℕ × CoreType × X) → ℕ
needs_bindings needs [] = 0
needs_bindings needs (b ∷ bs) = max (max (needs_type b.1) (needs b.2)) (needs_bindings needs bs)

abbrev pub needs_all : List ℕ → ℕ
needs_all [] = 0
needs_all (n ∷ ns) = max n (needs_all ns)

abbrev pub needs_else : Option ℕ → ℕ
needs_else None = 0
needs_else (Some n) = n

abbrev pub needs_alt_step : CoreAlt-F ℕ ℕ → ℕ
needs_alt_step (CoreAlt-F.CoreAlt::Con c xs t) = max (needs_origin c) t
needs_alt_step (CoreAlt-F.CoreAlt::Int n t) = t
needs_alt_step (CoreAlt-F.CoreAlt::Char c t) = t

abbrev pub needs_term_step : CoreTerm-F ℕ ℕ → ℕ
needs_term_step (CoreTerm-F.Var x) = 0
needs_term_step (CoreTerm-F.Global name) = needs_name name
needs_term_step (CoreTerm-F.CoreTerm::Con c) = needs_origin c
needs_term_step (CoreTerm-F.CoreTerm::Int n) = 0
needs_term_step (CoreTerm-F.CoreTerm::Char c) = 0
needs_term_step (CoreTerm-F.Str cs) = 0
needs_term_step (CoreTerm-F.Prim p place ty) = max (needs_origin p) (needs_result ty)
needs_term_step (CoreTerm-F.Lam x ty body) = max (needs_type ty) body
needs_term_step (CoreTerm-F.App f e) = max f e
needs_term_step (CoreTerm-F.TyLam x kind body) = body
needs_term_step (CoreTerm-F.TyApp f ty) = max f (needs_type ty)
needs_term_step (CoreTerm-F.LetRec bs body) = max (needs_bindings (λ n. n) bs) body
needs_term_step (CoreTerm-F.Case t ty alts otherwise) = max (max t (needs_type ty)) (max (needs_all alts) (needs_else otherwise))
needs_term_step (CoreTerm-F.Stop place ty) = needs_type ty

abbrev pub needs_term : CoreTerm → ℕ
needs_term = fold-CoreTerm ℕ ℕ needs_alt_step needs_term_step

abbrev pub needs_alt : CoreAlt → ℕ
needs_alt = fold-CoreAlt ℕ ℕ needs_alt_step needs_term_step

abbrev pub needs_fields : List TyNode → ℕ
needs_fields [] = 0
needs_fields (f ∷ fs) = max (needs_field f) (needs_fields fs)

abbrev pub needs_con : DeclCon → ℕ
needs_con c = max (needs_origin c.origin) (needs_fields c.fields)

abbrev pub needs_cons : List DeclCon → ℕ
needs_cons [] = 0
needs_cons (c ∷ cs) = max (needs_con c) (needs_cons cs)

abbrev pub needs_decl : DeclData → ℕ
needs_decl d = max (needs_origin d.origin) (needs_cons d.constructors)

abbrev pub needs_decls : List DeclData → ℕ
needs_decls [] = 0
needs_decls (d ∷ ds) = max (needs_decl d) (needs_decls ds)

abbrev pub needs_def : Def → ℕ
needs_def d = max (needs_name d.name) (max (needs_type d.ty) (needs_term d.term))

abbrev pub needs_defs : List Def → ℕ
needs_defs [] = 0
needs_defs (d ∷ ds) = max (needs_def d) (needs_defs ds)

-- the ids in the program are of each table with this many names, and of no smaller one
abbrev pub needs_program : CoreProgram → ℕ
needs_program p = max (needs_decls p.decls) (max (needs_defs p.defs) (needs_term p.main))
