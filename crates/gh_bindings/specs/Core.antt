-- The core of a program of bindings.
use Rattle.std.specs.Prelude.{List, [], ◌∷◌, map, false, None}
use Rattle.gh_base.specs.declared.fixed.TheConstants.{PRELUDE, MAIN, LIST}
use Rattle.gh_base.specs.declared.place.Origin.{Origin}
use Rattle.gh_base.specs.declared.place.Space.TheVariants.{Types}
use Rattle.gh_base.specs.declared.place.TyCon.TheVariants.{Named, Arrow, Char}
use Rattle.gh_typeterm.specs.declared.decl.DeclCon.{DeclCon}
use Rattle.gh_typeterm.specs.declared.decl.DeclData.{DeclData}
use Rattle.gh_typeterm.specs.declared.kind.Kind.TheVariants.{Star}
use Rattle.gh_typeterm.specs.declared.ty.TyNode.{TyNode}
use Rattle.gh_typeterm.specs.declared.ty.TyNode.TheVariants as node
use Rattle.gh_core.specs.Primitives.{nil, cons}
use Rattle.gh_core.specs.declared.types.CoreType.{CoreType}
use Rattle.gh_core.specs.declared.types.CoreType.TheVariants as type
use Rattle.gh_core.specs.declared.terms.CoreName.TheVariants.{Plain}
use Rattle.gh_core.specs.declared.terms.CoreTerm.{CoreTerm}
use Rattle.gh_core.specs.declared.terms.CoreTerm.TheVariants as core
use Rattle.gh_core.specs.declared.terms.CoreAlt.{CoreAlt}
use Rattle.gh_core.specs.declared.terms.CoreAlt.TheVariants as alt
use Rattle.gh_core.specs.declared.terms.CoreProgram.{CoreProgram}
use Rattle.gh_core.specs.declared.terms.Def.{Def}
use Rattle.gh_bindings.specs.declared.binding.Binding.{Binding}
use Rattle.gh_bindings.specs.declared.binding.Operand.{Operand}
use Rattle.gh_bindings.specs.declared.binding.Operand.TheVariants.{Name, Text}
use Rattle.gh_bindings.specs.Meaning.{append, main_value}

-- the type of lists
abbrev pub list_name : Origin
list_name = record { «module» = PRELUDE; space = Types; name = LIST }

-- the fields of a cell: an element, and a list
abbrev pub cell_fields : List TyNode
cell_fields = node.Var 0 ∷ node.App (node.Con (Named list_name)) (node.Var 0) ∷ []

abbrev pub list_constructors : List DeclCon
list_constructors = record { origin = nil; fields = [] } ∷ record { origin = cons; fields = cell_fields } ∷ []

-- data List a = Nil | Cons a (List a)
abbrev pub list_decl : DeclData
list_decl = record { origin = list_name; is_newtype = false; params = Star ∷ []; constructors = list_constructors }

abbrev pub list_of : CoreType → CoreType
list_of ty = type.App (type.Con (Named list_name)) ty

abbrev pub function_of : CoreType → CoreType → CoreType
function_of a b = type.App (type.App (type.Con Arrow) a) b

-- a list of the elements that the type variable 0 stands for
abbrev pub elements : CoreType
elements = list_of (type.Var 0)

-- forall a. List a -> List a -> List a
abbrev pub append_type : CoreType
append_type = type.Forall 0 Star (function_of elements (function_of elements elements))

-- a function of a type, at this type, with two arguments
abbrev pub applied_at : CoreTerm → CoreType → CoreTerm → CoreTerm → CoreTerm
applied_at f ty a b = core.App (core.App (core.TyApp f ty) a) b

-- two terms joined by `++`, at an element type
abbrev pub joined_at : CoreType → CoreTerm → CoreTerm → CoreTerm
joined_at = applied_at (core.Global (Plain append))

-- the list with this head and tail, at an element type
abbrev pub cell_at : CoreType → CoreTerm → CoreTerm → CoreTerm
cell_at = applied_at (core.Con cons)

-- Nil -> the second argument
abbrev pub nil_alternative : CoreAlt
nil_alternative = alt.Con nil [] (core.Var 1)

-- x : (xs ++ the second argument)
abbrev pub cons_body : CoreTerm
cons_body = cell_at (type.Var 0) (core.Var 2) (joined_at (type.Var 0) (core.Var 3) (core.Var 1))

-- Cons x xs -> x : (xs ++ the second argument)
abbrev pub cons_alternative : CoreAlt
cons_alternative = alt.Con cons (2 ∷ 3 ∷ []) cons_body

-- a case on the first argument
abbrev pub append_case : CoreTerm
append_case = core.Case (core.Var 0) elements (nil_alternative ∷ cons_alternative ∷ []) None

-- a function of a type and two arguments
abbrev pub append_term : CoreTerm
append_term = core.TyLam 0 Star (core.Lam 0 elements (core.Lam 1 elements append_case))

abbrev pub append_def : Def
append_def = record { name = Plain append; ty = append_type; term = append_term }

abbrev pub character : CoreType
character = type.Con Char

abbrev pub operand_term : Operand → CoreTerm
operand_term (Name name span) = core.Global (Plain (main_value name))
operand_term (Text cs) = core.Str cs

-- operands, joined from the right
abbrev pub joined_term : List Operand → CoreTerm
joined_term [] = core.Str []
joined_term (o ∷ []) = operand_term o
joined_term (o ∷ p ∷ ps) = joined_at character (operand_term o) (joined_term (p ∷ ps))

abbrev pub binding_def : Binding → Def
binding_def b = record { name = Plain (main_value b.name); ty = list_of character; term = joined_term b.operands }

abbrev pub main_term : CoreTerm
main_term = core.Global (Plain (main_value MAIN))

-- the definition of `++`, and one for each binding
abbrev pub core_program : List Binding → CoreProgram
core_program bs = record { decls = list_decl ∷ []; defs = append_def ∷ map binding_def bs; main = main_term }
