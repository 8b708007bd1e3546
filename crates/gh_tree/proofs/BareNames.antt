-- Names, export lists, headers and imports have no brace and no `;`.
use Rattle.std.proofs.Common.{◌≡◌, ℕ, List, [], ◌∷◌, Option, Some, None, refl}
use Rattle.gh_base.specs.declared.fixed.TheConstants.{HIDING, QUALIFIED}
use Rattle.gh_base.specs.declared.place.Span.{Span}
use Rattle.gh_tree.specs.declared.symbol.Kind.TheVariants as k
use Rattle.gh_tree.specs.declared.names.Con.{Con}
use Rattle.gh_tree.specs.declared.names.Con.TheVariants as n_Con
use Rattle.gh_tree.specs.declared.names.ConOp.{ConOp}
use Rattle.gh_tree.specs.declared.names.ConOp.TheVariants as n_ConOp
use Rattle.gh_tree.specs.declared.names.FixityWord.{FixityWord}
use Rattle.gh_tree.specs.declared.names.FixityWord.TheVariants as n_FixityWord
use Rattle.gh_tree.specs.declared.names.GenCon.{GenCon}
use Rattle.gh_tree.specs.declared.names.GenCon.TheVariants as n_GenCon
use Rattle.gh_tree.specs.declared.names.NextName.{NextName}
use Rattle.gh_tree.specs.declared.names.NextOp.{NextOp}
use Rattle.gh_tree.specs.declared.names.NextVar.{NextVar}
use Rattle.gh_tree.specs.declared.names.Op.{Op}
use Rattle.gh_tree.specs.declared.names.Op.TheVariants as n_Op
use Rattle.gh_tree.specs.declared.names.Var.{Var}
use Rattle.gh_tree.specs.declared.names.Var.TheVariants as n_Var
use Rattle.gh_tree.specs.declared.names.VarOp.{VarOp}
use Rattle.gh_tree.specs.declared.names.VarOp.TheVariants as n_VarOp
use Rattle.gh_tree.specs.declared.tops.Alias.{Alias}
use Rattle.gh_tree.specs.declared.tops.Entities.{Entities}
use Rattle.gh_tree.specs.declared.tops.Entity.{Entity}
use Rattle.gh_tree.specs.declared.tops.Entity.TheVariants as v_Entity
use Rattle.gh_tree.specs.declared.tops.Export.{Export}
use Rattle.gh_tree.specs.declared.tops.Export.TheVariants as v_Export
use Rattle.gh_tree.specs.declared.tops.ExportList.{ExportList}
use Rattle.gh_tree.specs.declared.tops.Exports.{Exports}
use Rattle.gh_tree.specs.declared.tops.Import.{Import}
use Rattle.gh_tree.specs.declared.tops.ImportList.{ImportList}
use Rattle.gh_tree.specs.declared.tops.NextCon.{NextCon}
use Rattle.gh_tree.specs.declared.tops.NextEntity.{NextEntity}
use Rattle.gh_tree.specs.declared.tops.NextExport.{NextExport}
use Rattle.gh_tree.specs.declared.tops.Parts.{Parts}
use Rattle.gh_tree.specs.declared.tops.Parts.TheVariants as v_Parts
use Rattle.gh_tree.specs.declared.module_tree.Header.{Header}
use Rattle.gh_tree.specs.Items.{brace, no_brace}
use Rattle.gh_tree.specs.Print.{var, con, var_op, con_op, op_flat, minus_flat, commas, gen_con, fixity_word, level_flat, next_var, next_op, next_name, optional, next_con, parts, export, next_export, export_list, exports, entity, next_entity, entities, alias, import_list, import_item, header}
use Rattle.gh_tree.proofs.Braces.{Bare, bare_none, bare_token, bare_append, bare_all}

pub bare_var : (x : Var) → Bare (var x)
bare_var (n_Var.Word n) = bare_token refl bare_none
bare_var (n_Var.Symbol a n b) = bare_token refl (bare_token refl (bare_token refl bare_none))

pub bare_con : (x : Con) → Bare (con x)
bare_con (n_Con.Word n) = bare_token refl bare_none
bare_con (n_Con.Symbol a n b) = bare_token refl (bare_token refl (bare_token refl bare_none))

pub bare_var_op : (x : VarOp) → Bare (var_op x)
bare_var_op (n_VarOp.Symbol n) = bare_token refl bare_none
bare_var_op (n_VarOp.Quoted a n b) = bare_token refl (bare_token refl (bare_token refl bare_none))

pub bare_con_op : (x : ConOp) → Bare (con_op x)
bare_con_op (n_ConOp.Symbol n) = bare_token refl bare_none
bare_con_op (n_ConOp.Colon a) = bare_token refl bare_none
bare_con_op (n_ConOp.Quoted a n b) = bare_token refl (bare_token refl (bare_token refl bare_none))

pub bare_op : (x : Op) → Bare (op_flat x)
bare_op (n_Op.Var o) = bare_var_op o
bare_op (n_Op.Con o) = bare_con_op o

pub bare_minus : (x : Option Span) → Bare (minus_flat x)
bare_minus None = bare_none
bare_minus (Some a) = bare_token refl bare_none

pub bare_commas : (xs : List Span) → Bare (commas xs)
bare_commas [] = bare_none
bare_commas (x ∷ xs) = bare_token refl (bare_commas xs)

pub bare_gen_con : (x : GenCon) → Bare (gen_con x).flat
bare_gen_con (n_GenCon.Con c) = bare_con c
bare_gen_con (n_GenCon.Unit s a b) = bare_token refl (bare_token refl bare_none)
bare_gen_con (n_GenCon.Nil s a b) = bare_token refl (bare_token refl bare_none)
bare_gen_con (n_GenCon.Tuple s a cs b) = bare_token refl (bare_append (bare_commas cs) (bare_token refl bare_none))

pub fixity_is_bare : (x : FixityWord) → brace (fixity_word x).kind ≡ no_brace
fixity_is_bare (n_FixityWord.Left s) = refl
fixity_is_bare (n_FixityWord.Right s) = refl
fixity_is_bare (n_FixityWord.Neither s) = refl

pub bare_level : (x : Option (Span × ℕ)) → Bare (level_flat x)
bare_level None = bare_none
bare_level (Some l) = bare_token refl bare_none

pub bare_next_var : (x : NextVar) → Bare (next_var x).flat
bare_next_var x = bare_token refl (bare_var x.var)

pub bare_next_op : (x : NextOp) → Bare (next_op x).flat
bare_next_op x = bare_token refl (bare_op x.op)

pub bare_next_name : (x : NextName) → Bare (next_name x).flat
bare_next_name x = bare_token refl (bare_token refl bare_none)

-- export lists

bare_next_con : (x : NextCon) → Bare (next_con x).flat
bare_next_con x = bare_token refl (bare_con x.con)

bare_parts : (x : Option Parts) → Bare (parts x).flat
bare_parts None = bare_none
bare_parts (Some (v_Parts.All s a m b)) = bare_token refl (bare_token refl (bare_token refl bare_none))
bare_parts (Some (v_Parts.Empty s a b)) = bare_token refl (bare_token refl bare_none)
bare_parts (Some (v_Parts.Listed s a c cs b)) = bare_token refl (bare_append (bare_con c) (bare_append (bare_all next_con bare_next_con cs) (bare_token refl bare_none)))

bare_export : (x : Export) → Bare (export x).flat
bare_export (v_Export.Var v) = bare_var v
bare_export (v_Export.Con s n ps) = bare_token refl (bare_parts ps)
bare_export (v_Export.Module s a n) = bare_token refl (bare_token refl bare_none)

bare_next_export : (x : NextExport) → Bare (next_export x).flat
bare_next_export x = bare_token refl (bare_export x.export)

bare_export_list : (x : Option ExportList) → Bare (export_list x).flat
bare_export_list None = bare_none
bare_export_list (Some l) = bare_append (bare_export l.first) (bare_all next_export bare_next_export l.others)

bare_comma : (x : Option Span) → Bare (optional x k.Comma)
bare_comma None = bare_none
bare_comma (Some s) = bare_token refl bare_none

bare_exports : (x : Option Exports) → Bare (exports x).flat
bare_exports None = bare_none
bare_exports (Some x) = bare_token refl (bare_append (bare_export_list x.list) (bare_append (bare_comma x.comma) (bare_token refl bare_none)))

pub bare_header : (x : Option Header) → Bare (header x).flat
bare_header None = bare_none
bare_header (Some x) = bare_token refl (bare_token refl (bare_append (bare_exports x.exports) (bare_token refl bare_none)))

-- imports

bare_entity : (x : Entity) → Bare (entity x).flat
bare_entity (v_Entity.Var v) = bare_var v
bare_entity (v_Entity.Con s n ps) = bare_token refl (bare_parts ps)

bare_next_entity : (x : NextEntity) → Bare (next_entity x).flat
bare_next_entity x = bare_token refl (bare_entity x.entity)

bare_entities : (x : Option Entities) → Bare (entities x).flat
bare_entities None = bare_none
bare_entities (Some l) = bare_append (bare_entity l.first) (bare_all next_entity bare_next_entity l.others)

bare_alias : (x : Option Alias) → Bare (alias x).flat
bare_alias None = bare_none
bare_alias (Some x) = bare_token refl (bare_token refl bare_none)

bare_hiding : (x : Option Span) → Bare (optional x (k.VarId None HIDING))
bare_hiding None = bare_none
bare_hiding (Some s) = bare_token refl bare_none

bare_qualified : (x : Option Span) → Bare (optional x (k.VarId None QUALIFIED))
bare_qualified None = bare_none
bare_qualified (Some s) = bare_token refl bare_none

bare_import_list : (x : Option ImportList) → Bare (import_list x).flat
bare_import_list None = bare_none
bare_import_list (Some x) = bare_append (bare_hiding x.hiding) (bare_token refl (bare_append (bare_entities x.list) (bare_append (bare_comma x.comma) (bare_token refl bare_none))))

pub bare_import : (x : Import) → Bare (import_item x).flat
bare_import x = bare_token refl (bare_append (bare_qualified x.qualified) (bare_token refl (bare_append (bare_alias x.alias) (bare_import_list x.list))))
