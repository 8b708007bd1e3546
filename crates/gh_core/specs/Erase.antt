-- Core without its types.
use Rattle.std.specs.Prelude.{ℕ, Bool, true, false, List, [], ◌∷◌, ◌++◌, map}
use Rattle.gh_base.specs.declared.place.Origin.{Origin}
use Rattle.gh_typeterm.specs.declared.decl.DeclCon.{DeclCon}
use Rattle.gh_typeterm.specs.declared.decl.DeclData.{DeclData}
use Rattle.gh_core.specs.declared.types.CoreType.{CoreType}
use Rattle.gh_core.specs.declared.terms.CoreName.{CoreName}
use Rattle.gh_core.specs.declared.terms.Def.{Def}
use Rattle.gh_core.specs.declared.terms.CoreProgram.{CoreProgram}
use Rattle.gh_core.specs.declared.terms.CoreTerm.{CoreTerm, fold-CoreTerm}
use Rattle.gh_core.specs.declared.terms.CoreAlt.TheOpen.{CoreTerm-F, CoreAlt-F}
use Rattle.gh_core.specs.declared.terms.CoreAlt.{CoreAlt, fold-CoreAlt}
use Rattle.gh_core.specs.declared.erased.Erased.{Erased}
use Rattle.gh_core.specs.declared.erased.ErasedTerm.{ErasedTerm}
use Rattle.gh_core.specs.declared.erased.ErasedAlt.{ErasedAlt}
use Rattle.gh_core.specs.declared.erased.ErasedTerm.TheVariants as t
use Rattle.gh_core.specs.declared.erased.ErasedAlt.TheVariants as a

abbrev pub binding_step : ℕ × CoreType × ErasedTerm → ℕ × ErasedTerm
binding_step b = (b.0, b.2)

-- what erasure makes of one node, whose parts are erased already
abbrev pub erased_step : CoreTerm-F ErasedAlt ErasedTerm → ErasedTerm
erased_step (CoreTerm-F.Var x) = t.Var x
erased_step (CoreTerm-F.Global name) = t.Global name
erased_step (CoreTerm-F.CoreTerm::Con con) = t.Con con
erased_step (CoreTerm-F.CoreTerm::Int number) = t.Int number
erased_step (CoreTerm-F.CoreTerm::Char c) = t.Char c
erased_step (CoreTerm-F.Str chars) = t.Str chars
erased_step (CoreTerm-F.Prim prim place ty) = t.Prim prim place
erased_step (CoreTerm-F.Lam x ty body) = t.Lam x body
erased_step (CoreTerm-F.App function argument) = t.App function argument
erased_step (CoreTerm-F.TyLam x kind body) = body
erased_step (CoreTerm-F.TyApp function ty) = function
erased_step (CoreTerm-F.LetRec bindings body) = t.LetRec (map binding_step bindings) body
erased_step (CoreTerm-F.Case scrutinee ty alternatives otherwise) = t.Case scrutinee alternatives otherwise
erased_step (CoreTerm-F.Stop place ty) = t.Stop place

abbrev pub erased_alt_step : CoreAlt-F ErasedAlt ErasedTerm → ErasedAlt
erased_alt_step (CoreAlt-F.CoreAlt::Con con names term) = a.Con con names term
erased_alt_step (CoreAlt-F.CoreAlt::Int number term) = a.Int number term
erased_alt_step (CoreAlt-F.CoreAlt::Char c term) = a.Char c term

-- the same term without types
abbrev pub erased : CoreTerm → ErasedTerm
erased = fold-CoreTerm ErasedAlt ErasedTerm erased_alt_step erased_step

abbrev pub erased_alt : CoreAlt → ErasedAlt
erased_alt = fold-CoreAlt ErasedAlt ErasedTerm erased_alt_step erased_step

abbrev pub erased_bind : ℕ × CoreType × CoreTerm → ℕ × ErasedTerm
erased_bind b = (b.0, erased b.2)

abbrev pub erased_def : Def → CoreName × ErasedTerm
erased_def def = (def.name, erased def.term)

abbrev pub constructor_name : DeclCon → Origin
constructor_name con = con.origin

-- the constructors of a declaration that is a newtype
abbrev pub newtypes_in : Bool → List DeclCon → List Origin
newtypes_in true cons = map constructor_name cons
newtypes_in false cons = []

-- the constructors of all newtypes, in the order of their declarations
abbrev pub newtypes_of : List DeclData → List Origin
newtypes_of [] = []
newtypes_of (decl ∷ decls) = newtypes_in decl.is_newtype decl.constructors ++ newtypes_of decls

-- the same program without types
abbrev pub erased_program : CoreProgram → Erased
erased_program program = record { newtypes = newtypes_of program.decls; defs = map erased_def program.defs; main = erased program.main }
