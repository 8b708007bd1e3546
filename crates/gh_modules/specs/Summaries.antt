-- What linking reads of a file's tree (Haskell 98 Report, 4.1, 4.2 and 5.1 to 5.3).
use Rattle.std.specs.Prelude.{ℕ, Bool, true, false, ◌==◌, if◌then◌else◌, List, [], ◌∷◌, ◌++◌, map, Option, Some, None}
use Rattle.std.specs.List.{flat_map, list_any}
use Rattle.gh_base.specs.declared.fixed.TheConstants.{MAIN_MODULE, MAIN, PRELUDE, COLON, PLUS, MINUS, TIMES, QUOT, REM, EQUAL, LESS, EQ_CHAR, ORD, CHR, SHOW_INT, ERROR, INT, CHAR}
use Rattle.gh_base.specs.declared.names.NameId.{NameId}
use Rattle.gh_base.specs.declared.place.Span.{Span}
use Rattle.gh_base.specs.declared.place.Space.TheVariants.{Values, Types}
use Rattle.gh_tree.specs.declared.names.Name.{Name}
use Rattle.gh_tree.specs.declared.names.Var.{Var}
use Rattle.gh_tree.specs.declared.names.Var.TheVariants as var
use Rattle.gh_tree.specs.declared.names.Con.{Con}
use Rattle.gh_tree.specs.declared.names.Con.TheVariants as con
use Rattle.gh_tree.specs.declared.names.ConOp.{ConOp}
use Rattle.gh_tree.specs.declared.names.ConOp.TheVariants as con_op
use Rattle.gh_tree.specs.declared.tops.Export.{Export}
use Rattle.gh_tree.specs.declared.tops.Export.TheVariants as export
use Rattle.gh_tree.specs.declared.tops.ExportList.{ExportList}
use Rattle.gh_tree.specs.declared.tops.NextExport.{NextExport}
use Rattle.gh_tree.specs.declared.tops.Exports.{Exports}
use Rattle.gh_tree.specs.declared.tops.Entity.{Entity}
use Rattle.gh_tree.specs.declared.tops.Entity.TheVariants as entity
use Rattle.gh_tree.specs.declared.tops.Entities.{Entities}
use Rattle.gh_tree.specs.declared.tops.NextEntity.{NextEntity}
use Rattle.gh_tree.specs.declared.tops.NextCon.{NextCon}
use Rattle.gh_tree.specs.declared.tops.NextConstr.{NextConstr}
use Rattle.gh_tree.specs.declared.tops.Parts as tree_parts
use Rattle.gh_tree.specs.declared.tops.Parts.TheVariants as listed
use Rattle.gh_tree.specs.declared.tops.Import as tree_import
use Rattle.gh_tree.specs.declared.tops.ImportList.{ImportList}
use Rattle.gh_tree.specs.declared.tops.Alias.{Alias}
use Rattle.gh_tree.specs.declared.tops.Constr.{Constr}
use Rattle.gh_tree.specs.declared.tops.Constr.TheVariants as constr
use Rattle.gh_tree.specs.declared.tops.Top.{Top}
use Rattle.gh_tree.specs.declared.tops.Top.TheVariants as top
use Rattle.gh_tree.specs.declared.expressions.Decl.{Decl, out-Decl}
use Rattle.gh_tree.specs.declared.expressions.Aexp.TheOpen.{Decl-F}
use Rattle.gh_tree.specs.declared.expressions.Aexp.{Aexp}
use Rattle.gh_tree.specs.declared.expressions.Alt.{Alt}
use Rattle.gh_tree.specs.declared.expressions.Exp.{Exp}
use Rattle.gh_tree.specs.declared.expressions.Locals.{Locals}
use Rattle.gh_tree.specs.declared.expressions.Open.{Open}
use Rattle.gh_tree.specs.declared.expressions.Operand.{Operand}
use Rattle.gh_tree.specs.declared.expressions.Rhs.{Rhs}
use Rattle.gh_tree.specs.declared.expressions.Where.{Where}
use Rattle.gh_tree.specs.declared.expressions.AltGuard.{AltGuard}
use Rattle.gh_tree.specs.declared.expressions.AltItem.{AltItem}
use Rattle.gh_tree.specs.declared.expressions.Alts.{Alts}
use Rattle.gh_tree.specs.declared.expressions.DeclItem.{DeclItem}
use Rattle.gh_tree.specs.declared.expressions.Decls.{Decls}
use Rattle.gh_tree.specs.declared.expressions.Guard.{Guard}
use Rattle.gh_tree.specs.declared.expressions.NextOperand.{NextOperand}
use Rattle.gh_tree.specs.declared.expressions.OperandList.{OperandList}
use Rattle.gh_tree.specs.declared.expressions.Part.{Part}
use Rattle.gh_tree.specs.declared.expressions.Redef.{Redef}
use Rattle.gh_tree.specs.declared.expressions.RedefItem.{RedefItem}
use Rattle.gh_tree.specs.declared.expressions.Redefs.{Redefs}
use Rattle.gh_tree.specs.declared.module_tree.Header.{Header}
use Rattle.gh_tree.specs.declared.module_tree.Item.{Item}
use Rattle.gh_tree.specs.declared.module_tree.Item.TheVariants as item
use Rattle.gh_tree.specs.declared.module_tree.NextItem.{NextItem}
use Rattle.gh_tree.specs.declared.module_tree.ModuleTree.{ModuleTree}
use Rattle.gh_scopes.specs.declared.types.Used.{Used}
use Rattle.gh_scopes.specs.declared.types.Definition.{Definition}
use Rattle.gh_scopes.specs.declared.types.ListedKind.TheVariants as kind
use Rattle.gh_scopes.specs.declared.types.Parts.{Parts}
use Rattle.gh_scopes.specs.declared.types.Parts.TheVariants as parts
use Rattle.gh_scopes.specs.declared.types.Listed.{Listed}
use Rattle.gh_scopes.specs.declared.types.Selection.{Selection}
use Rattle.gh_scopes.specs.declared.types.Selection.TheVariants as selection
use Rattle.gh_scopes.specs.declared.types.Import.{Import}
use Rattle.gh_scopes.specs.declared.types.Summary.{Summary}
use Rattle.gh_modules.specs.Patterns.{var_name, head_name, pattern_names}

-- names as they are used

-- a name between two marks
abbrev pub between : Span → Name → Span → Used
between a n b = record { span = record { file = a.file; from = a.from; to = b.to }; qualifier = n.qualifier; name = n.id }

abbrev pub alone : Name → Used
alone n = record { span = n.span; qualifier = n.qualifier; name = n.id }

abbrev pub used_var : Var → Used
used_var (var.Word n) = alone n
used_var (var.Symbol a n b) = between a n b

abbrev pub used_con : Con → Used
used_con (con.Word n) = alone n
used_con (con.Symbol a n b) = between a n b

-- export and import lists

abbrev pub next_con : NextCon → Used
next_con x = used_con x.con

abbrev pub parts_of : Option (tree_parts.Parts) → Parts
parts_of None = parts.Bare
parts_of (Some (listed.Empty s a b)) = parts.Listed []
parts_of (Some (listed.All s a d b)) = parts.All
parts_of (Some (listed.Listed s a c cs b)) = parts.Listed (used_con c ∷ map next_con cs)

abbrev pub a_value : Used → Listed
a_value u = record { span = u.span; kind = kind.Value; name = u; parts = parts.Bare }

abbrev pub a_type : Span → Name → Option (tree_parts.Parts) → Listed
a_type s n p = record { span = s; kind = kind.Type; name = alone n; parts = parts_of p }

abbrev pub a_module : Span → Name → Listed
a_module s n = record { span = s; kind = kind.Module; name = alone n; parts = parts.Bare }

abbrev pub export_of : Export → Listed
export_of (export.Var v) = a_value (used_var v)
export_of (export.Con s n p) = a_type s n p
export_of (export.Module s a n) = a_module s n

abbrev pub next_export : NextExport → Listed
next_export x = export_of x.export

abbrev pub export_list : Option ExportList → List Listed
export_list None = []
export_list (Some l) = export_of l.first ∷ map next_export l.others

abbrev pub entity_of : Entity → Listed
entity_of (entity.Var v) = a_value (used_var v)
entity_of (entity.Con s n p) = a_type s n p

abbrev pub next_entity : NextEntity → Listed
next_entity x = entity_of x.entity

abbrev pub entities_of : Option Entities → List Listed
entities_of None = []
entities_of (Some l) = entity_of l.first ∷ map next_entity l.others

-- imports

abbrev pub selection_by : Option Span → List Listed → Selection
selection_by None ls = selection.Only ls
selection_by (Some s) ls = selection.Hiding ls

abbrev pub selection_of : Option ImportList → Selection
selection_of None = selection.Whole
selection_of (Some l) = selection_by l.hiding (entities_of l.list)

abbrev pub is_there : Option Span → Bool
is_there None = false
is_there (Some s) = true

abbrev pub qualifier_of : NameId → Option Alias → NameId
qualifier_of n None = n
qualifier_of n (Some a) = a.name.id

abbrev pub import_of : tree_import.Import → Import
import_of i = record { span = i.span; name = i.name.id; qualified = is_there i.qualified; qualifier = qualifier_of i.name.id i.alias; selection = selection_of i.list }

-- definitions

abbrev pub value : NameId → Definition
value n = record { space = Values; name = n; owner = None }

abbrev pub type_named : NameId → Definition
type_named n = record { space = Types; name = n; owner = None }

abbrev pub constructor : NameId → NameId → Definition
constructor t n = record { space = Values; name = n; owner = Some t }

abbrev pub con_name : Con → NameId
con_name (con.Word n) = n.id
con_name (con.Symbol a n b) = n.id

abbrev pub con_op_name : ConOp → NameId
con_op_name (con_op.Symbol n) = n.id
con_op_name (con_op.Colon s) = COLON
con_op_name (con_op.Quoted a n b) = n.id

abbrev pub constr_name : Constr → NameId
constr_name (constr.Prefix s c ts) = con_name c
constr_name (constr.Infix s l o r) = con_op_name o

abbrev pub next_constr : NameId → NextConstr → Definition
next_constr t x = constructor t (constr_name x.constr)

abbrev pub decl_names_at : Decl-F Aexp Alt Decl Exp Locals Open Operand Rhs Where AltGuard AltItem Alts DeclItem Decls Guard NextOperand OperandList Part Redef RedefItem Redefs → List NameId
decl_names_at (Decl-F.Signature s x1 x2 x3 x4) = []
decl_names_at (Decl-F.Fixity s x1 x2 x3 x4) = []
decl_names_at (Decl-F.Function s x1 x2) = head_name x1 ∷ []
decl_names_at (Decl-F.Pattern s x1 x2) = pattern_names x1

-- the names that a declaration binds
abbrev pub decl_names : Decl → List NameId
decl_names d = decl_names_at (out-Decl d)

-- what a declaration of the top defines: a type with its constructors, a synonym, a generic function by its signature, or
-- the names that it binds
abbrev pub top_definitions : Top → List Definition
top_definitions (top.Synonym s a n ps m t) = type_named n.id ∷ []
top_definitions (top.Data s a n ps m c cs) = type_named n.id ∷ constructor n.id (constr_name c) ∷ map (next_constr n.id) cs
top_definitions (top.Newtype s a n ps m c t) = type_named n.id ∷ constructor n.id (con_name c) ∷ []
top_definitions (top.Signature s v vs m c t) = value (var_name v) ∷ []
top_definitions (top.Case s v a t b ps r) = []
top_definitions (top.Extends s v m w) = []
top_definitions (top.Decl d) = map value (decl_names d)

abbrev pub definitions_in : Item → List Definition
definitions_in item.Empty = []
definitions_in (item.Import i) = []
definitions_in (item.Top t) = top_definitions t

abbrev pub imports_in : Item → List Import
imports_in item.Empty = []
imports_in (item.Import i) = import_of i ∷ []
imports_in (item.Top t) = []

abbrev pub item_at : NextItem → Item
item_at x = x.item

abbrev pub items_of : ModuleTree → List Item
items_of t = t.first ∷ map item_at t.others

-- the primitives and types that the Prelude has beside its text
abbrev pub primitives : List NameId
primitives = PLUS ∷ MINUS ∷ TIMES ∷ QUOT ∷ REM ∷ EQUAL ∷ LESS ∷ EQ_CHAR ∷ ORD ∷ CHR ∷ SHOW_INT ∷ ERROR ∷ []

abbrev pub built_in : List Definition
built_in = type_named INT ∷ type_named CHAR ∷ map value primitives

-- the place of what no text says: no bytes at the file's first
abbrev pub start_of : ℕ → Span
start_of f = record { file = f; from = 0; to = 0 }

abbrev pub implied_prelude : ℕ → Import
implied_prelude f = record { span = start_of f; name = PRELUDE; qualified = false; qualifier = PRELUDE; selection = selection.Whole }

abbrev pub is_prelude : Import → Bool
is_prelude i = i.name.0 == PRELUDE.0

-- a module without an import of the Prelude imports it whole, behind its other imports
abbrev pub with_prelude : ℕ → List Import → List Import
with_prelude f is = if list_any is_prelude is then is else is ++ implied_prelude f ∷ []

-- file 0 is the Prelude. It has its primitives beside its text, and imports nothing.
abbrev pub definitions_of : ℕ → List Item → List Definition
definitions_of f is = (if f == 0 then built_in else []) ++ flat_map definitions_in is

abbrev pub imports_of : ℕ → List Item → List Import
imports_of f is = if f == 0 then [] else with_prelude f (flat_map imports_in is)

-- a file without a header is the module Main, and exports `main`
abbrev pub main_alone : ℕ → Listed
main_alone f = a_value (record { span = start_of f; qualifier = None; name = MAIN })

abbrev pub exports_by : Option Exports → Option (List Listed)
exports_by None = None
exports_by (Some e) = Some (export_list e.list)

abbrev pub exports_of : ℕ → Option Header → Option (List Listed)
exports_of f None = Some (main_alone f ∷ [])
exports_of f (Some h) = exports_by h.exports

abbrev pub header_name : ℕ → Option Header → NameId
header_name f None = MAIN_MODULE
header_name f (Some h) = h.name.id

abbrev pub header_span : ℕ → Option Header → Span
header_span f None = start_of f
header_span f (Some h) = h.name.span

abbrev pub module_name : ℕ → Option Header → NameId
module_name f h = if f == 0 then PRELUDE else header_name f h

-- what linking reads of the file of this number
unfoldable pub summary_of : ℕ → ModuleTree → Summary
summary_of f t = record {
  name = module_name f t.header;
  span = header_span f t.header;
  definitions = definitions_of f (items_of t);
  imports = imports_of f (items_of t);
  exports = exports_of f t.header;
}
