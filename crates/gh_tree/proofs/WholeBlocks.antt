-- The blocks of expressions and declarations are whole. For each of the 21 types: a layer of trees, by a layer of trees with their
-- facts (`X_trees`); what the layer is printed as (`X_prints`); the fact of that print, one line for each variant; and the step of
-- the induction (`X_layer`).
use Rattle.std.proofs.Common.{◌≡◌, subst, refl}
use Rattle.gh_tree.specs.declared.expressions.Aexp.{Aexp, map-Aexp, roll-Aexp, fold-roll-Aexp}
use Rattle.gh_tree.specs.declared.expressions.Alt.{Alt, map-Alt, roll-Alt, fold-roll-Alt}
use Rattle.gh_tree.specs.declared.expressions.Decl.{Decl, map-Decl, roll-Decl, fold-roll-Decl, ind-Decl}
use Rattle.gh_tree.specs.declared.expressions.Exp.{Exp, map-Exp, roll-Exp, fold-roll-Exp}
use Rattle.gh_tree.specs.declared.expressions.Locals.{Locals, map-Locals, roll-Locals, fold-roll-Locals}
use Rattle.gh_tree.specs.declared.expressions.Open.{Open, map-Open, roll-Open, fold-roll-Open}
use Rattle.gh_tree.specs.declared.expressions.Operand.{Operand, map-Operand, roll-Operand, fold-roll-Operand}
use Rattle.gh_tree.specs.declared.expressions.Rhs.{Rhs, map-Rhs, roll-Rhs, fold-roll-Rhs, ind-Rhs}
use Rattle.gh_tree.specs.declared.expressions.Where.{Where, map-Where, roll-Where, fold-roll-Where}
use Rattle.gh_tree.specs.declared.expressions.AltGuard.{AltGuard, map-AltGuard, roll-AltGuard, fold-roll-AltGuard}
use Rattle.gh_tree.specs.declared.expressions.AltItem.{AltItem, map-AltItem, roll-AltItem, fold-roll-AltItem}
use Rattle.gh_tree.specs.declared.expressions.Alts.{Alts, map-Alts, roll-Alts, fold-roll-Alts}
use Rattle.gh_tree.specs.declared.expressions.DeclItem.{DeclItem, map-DeclItem, roll-DeclItem, fold-roll-DeclItem}
use Rattle.gh_tree.specs.declared.expressions.Decls.{Decls, map-Decls, roll-Decls, fold-roll-Decls}
use Rattle.gh_tree.specs.declared.expressions.Guard.{Guard, map-Guard, roll-Guard, fold-roll-Guard}
use Rattle.gh_tree.specs.declared.expressions.NextOperand.{NextOperand, map-NextOperand, roll-NextOperand, fold-roll-NextOperand}
use Rattle.gh_tree.specs.declared.expressions.OperandList.{OperandList, map-OperandList, roll-OperandList, fold-roll-OperandList}
use Rattle.gh_tree.specs.declared.expressions.Part.{Part, map-Part, roll-Part, fold-roll-Part}
use Rattle.gh_tree.specs.declared.expressions.Redef.{Redef, map-Redef, roll-Redef, fold-roll-Redef}
use Rattle.gh_tree.specs.declared.expressions.RedefItem.{RedefItem, map-RedefItem, roll-RedefItem, fold-roll-RedefItem}
use Rattle.gh_tree.specs.declared.expressions.Redefs.{Redefs, map-Redefs, roll-Redefs, fold-roll-Redefs}
use Rattle.gh_tree.specs.declared.expressions.Aexp.TheOpen.{Aexp-F, Alt-F, Decl-F, Exp-F, Locals-F, Open-F, Operand-F, Rhs-F, Where-F, AltGuard-F, AltItem-F, Alts-F, DeclItem-F, Decls-F, Guard-F, NextOperand-F, OperandList-F, Part-F, Redef-F, RedefItem-F, Redefs-F}
use Rattle.gh_tree.specs.Print.{Print, arg_pattern, next_var, next_op, aexp, aexp_step, alt, alt_step, decl, decl_step, exp, exp_step, locals, locals_step, open_operand, open_operand_step, operand, operand_step, rhs, rhs_step, where_part, where_part_step, alt_guard, alt_guard_step, alt_item, alt_item_step, alts, alts_step, decl_item, decl_item_step, decls, decls_step, guard, guard_step, next_operand, next_operand_step, operands, operands_step, part, part_step, redef, redef_step, redef_item, redef_item_step, redefs, redefs_step}
use Rattle.gh_tree.proofs.Braces.{Whole, Inside, WholeNode, InsideNode, whole_by, inside_by, tree, bare_none, bare_token, bare_append, bare_all, whole, whole_token, whole_append, whole_nodes, inside, inside_append, inside_nodes, semis_inside, closed_block}
use Rattle.gh_tree.proofs.BareNames.{bare_var, bare_op, bare_minus, bare_gen_con, fixity_is_bare, bare_level, bare_next_var, bare_next_op}
use Rattle.gh_tree.proofs.BareTypes.{bare_type_expr}
use Rattle.gh_tree.proofs.BarePatterns.{bare_pattern, bare_arg_pattern, bare_fun_lhs}

-- a layer of trees, and one of trees with their facts
abbrev exps_trees : (Type 0 → Type 0 → Type 0 → Type 0 → Type 0 → Type 0 → Type 0 → Type 0 → Type 0 → Type 0 → Type 0 → Type 0 → Type 0 → Type 0 → Type 0 → Type 0 → Type 0 → Type 0 → Type 0 → Type 0 → Type 0 → Type 0) → Type 0
exps_trees F = F Aexp Alt Decl Exp Locals Open Operand Rhs Where AltGuard AltItem Alts DeclItem Decls Guard NextOperand OperandList Part Redef RedefItem Redefs

abbrev exps_nodes : (Type 0 → Type 0 → Type 0 → Type 0 → Type 0 → Type 0 → Type 0 → Type 0 → Type 0 → Type 0 → Type 0 → Type 0 → Type 0 → Type 0 → Type 0 → Type 0 → Type 0 → Type 0 → Type 0 → Type 0 → Type 0 → Type 0) → Type 0
exps_nodes F = F (WholeNode aexp) (WholeNode alt) (WholeNode decl) (WholeNode exp) (WholeNode locals) (WholeNode open_operand) (WholeNode operand) (WholeNode rhs) (WholeNode where_part) (WholeNode alt_guard) (InsideNode alt_item) (WholeNode alts) (InsideNode decl_item) (WholeNode decls) (WholeNode guard) (WholeNode next_operand) (WholeNode operands) (WholeNode part) (WholeNode redef) (InsideNode redef_item) (WholeNode redefs)

abbrev aexp_trees : exps_nodes Aexp-F → exps_trees Aexp-F
aexp_trees y = map-Aexp (WholeNode aexp) (WholeNode alt) (WholeNode decl) (WholeNode exp) (WholeNode locals) (WholeNode open_operand) (WholeNode operand) (WholeNode rhs) (WholeNode where_part) (WholeNode alt_guard) (InsideNode alt_item) (WholeNode alts) (InsideNode decl_item) (WholeNode decls) (WholeNode guard) (WholeNode next_operand) (WholeNode operands) (WholeNode part) (WholeNode redef) (InsideNode redef_item) (WholeNode redefs) Aexp Alt Decl Exp Locals Open Operand Rhs Where AltGuard AltItem Alts DeclItem Decls Guard NextOperand OperandList Part Redef RedefItem Redefs tree tree tree tree tree tree tree tree tree tree tree tree tree tree tree tree tree tree tree tree tree y

abbrev aexp_prints : exps_trees Aexp-F → Print
aexp_prints x = aexp_step (map-Aexp Aexp Alt Decl Exp Locals Open Operand Rhs Where AltGuard AltItem Alts DeclItem Decls Guard NextOperand OperandList Part Redef RedefItem Redefs Print Print Print Print Print Print Print Print Print Print Print Print Print Print Print Print Print Print Print Print Print aexp alt decl exp locals open_operand operand rhs where_part alt_guard alt_item alts decl_item decls guard next_operand operands part redef redef_item redefs x)

aexp_rolled : (x : exps_trees Aexp-F) → aexp (roll-Aexp x) ≡ aexp_prints x
unfolding aexp alt decl exp locals open_operand operand rhs where_part alt_guard alt_item alts decl_item decls guard next_operand operands part redef redef_item redefs
aexp_rolled x = fold-roll-Aexp Print Print Print Print Print Print Print Print Print Print Print Print Print Print Print Print Print Print Print Print Print aexp_step alt_step decl_step exp_step locals_step open_operand_step operand_step rhs_step where_part_step alt_guard_step alt_item_step alts_step decl_item_step decls_step guard_step next_operand_step operands_step part_step redef_step redef_item_step redefs_step x

aexp_step_whole : (y : exps_nodes Aexp-F) → Whole (aexp_prints (aexp_trees y)).flat
aexp_step_whole (Aexp-F.Var x0) = whole (bare_var x0)
aexp_step_whole (Aexp-F.Generic x0 x1 x2 x3 x4) = whole (bare_append (bare_var x1) (bare_token refl (bare_append (bare_type_expr x3) (bare_token refl bare_none))))
aexp_step_whole (Aexp-F.Con x0) = whole (bare_gen_con x0)
aexp_step_whole (Aexp-F.Int x0 x1) = whole (bare_token refl bare_none)
aexp_step_whole (Aexp-F.Char x0 x1) = whole (bare_token refl bare_none)
aexp_step_whole (Aexp-F.Str x0 x1) = whole (bare_token refl bare_none)
aexp_step_whole (Aexp-F.Paren x0 x1 x2 x3) = whole_token refl (whole_append x2.1 (whole (bare_token refl bare_none)))
aexp_step_whole (Aexp-F.Tuple x0 x1 x2 x3 x4) = whole_token refl (whole_append x2.1 (whole_append (whole_nodes part x3) (whole (bare_token refl bare_none))))
aexp_step_whole (Aexp-F.List x0 x1 x2 x3 x4) = whole_token refl (whole_append x2.1 (whole_append (whole_nodes part x3) (whole (bare_token refl bare_none))))
aexp_step_whole (Aexp-F.Left x0 x1 x2 x3 x4) = whole_token refl (whole_append x2.1 (whole (bare_append (bare_op x3) (bare_token refl bare_none))))
aexp_step_whole (Aexp-F.Right x0 x1 x2 x3 x4) = whole_token refl (whole_append (whole (bare_op x2)) (whole_append x3.1 (whole (bare_token refl bare_none))))

aexp_layer : (x : exps_trees Aexp-F) (y : exps_nodes Aexp-F) → aexp_trees y ≡ x → Whole (aexp (roll-Aexp x)).flat
aexp_layer x y is = subst (λ z. Whole (aexp (roll-Aexp z)).flat) is (whole_by (aexp_rolled (aexp_trees y)) (aexp_step_whole y))

abbrev alt_trees : exps_nodes Alt-F → exps_trees Alt-F
alt_trees y = map-Alt (WholeNode aexp) (WholeNode alt) (WholeNode decl) (WholeNode exp) (WholeNode locals) (WholeNode open_operand) (WholeNode operand) (WholeNode rhs) (WholeNode where_part) (WholeNode alt_guard) (InsideNode alt_item) (WholeNode alts) (InsideNode decl_item) (WholeNode decls) (WholeNode guard) (WholeNode next_operand) (WholeNode operands) (WholeNode part) (WholeNode redef) (InsideNode redef_item) (WholeNode redefs) Aexp Alt Decl Exp Locals Open Operand Rhs Where AltGuard AltItem Alts DeclItem Decls Guard NextOperand OperandList Part Redef RedefItem Redefs tree tree tree tree tree tree tree tree tree tree tree tree tree tree tree tree tree tree tree tree tree y

abbrev alt_prints : exps_trees Alt-F → Print
alt_prints x = alt_step (map-Alt Aexp Alt Decl Exp Locals Open Operand Rhs Where AltGuard AltItem Alts DeclItem Decls Guard NextOperand OperandList Part Redef RedefItem Redefs Print Print Print Print Print Print Print Print Print Print Print Print Print Print Print Print Print Print Print Print Print aexp alt decl exp locals open_operand operand rhs where_part alt_guard alt_item alts decl_item decls guard next_operand operands part redef redef_item redefs x)

alt_rolled : (x : exps_trees Alt-F) → alt (roll-Alt x) ≡ alt_prints x
unfolding aexp alt decl exp locals open_operand operand rhs where_part alt_guard alt_item alts decl_item decls guard next_operand operands part redef redef_item redefs
alt_rolled x = fold-roll-Alt Print Print Print Print Print Print Print Print Print Print Print Print Print Print Print Print Print Print Print Print Print aexp_step alt_step decl_step exp_step locals_step open_operand_step operand_step rhs_step where_part_step alt_guard_step alt_item_step alts_step decl_item_step decls_step guard_step next_operand_step operands_step part_step redef_step redef_item_step redefs_step x

alt_step_whole : (y : exps_nodes Alt-F) → Whole (alt_prints (alt_trees y)).flat
alt_step_whole (Alt-F.Alt::Plain x0 x1 x2 x3 x4) = whole_append (whole (bare_pattern x1)) (whole_token refl (whole_append x3.1 x4.1))
alt_step_whole (Alt-F.Alt::Guarded x0 x1 x2 x3 x4) = whole_append (whole (bare_pattern x1)) (whole_append x2.1 (whole_append (whole_nodes alt_guard x3) x4.1))

alt_layer : (x : exps_trees Alt-F) (y : exps_nodes Alt-F) → alt_trees y ≡ x → Whole (alt (roll-Alt x)).flat
alt_layer x y is = subst (λ z. Whole (alt (roll-Alt z)).flat) is (whole_by (alt_rolled (alt_trees y)) (alt_step_whole y))

abbrev decl_trees : exps_nodes Decl-F → exps_trees Decl-F
decl_trees y = map-Decl (WholeNode aexp) (WholeNode alt) (WholeNode decl) (WholeNode exp) (WholeNode locals) (WholeNode open_operand) (WholeNode operand) (WholeNode rhs) (WholeNode where_part) (WholeNode alt_guard) (InsideNode alt_item) (WholeNode alts) (InsideNode decl_item) (WholeNode decls) (WholeNode guard) (WholeNode next_operand) (WholeNode operands) (WholeNode part) (WholeNode redef) (InsideNode redef_item) (WholeNode redefs) Aexp Alt Decl Exp Locals Open Operand Rhs Where AltGuard AltItem Alts DeclItem Decls Guard NextOperand OperandList Part Redef RedefItem Redefs tree tree tree tree tree tree tree tree tree tree tree tree tree tree tree tree tree tree tree tree tree y

abbrev decl_prints : exps_trees Decl-F → Print
decl_prints x = decl_step (map-Decl Aexp Alt Decl Exp Locals Open Operand Rhs Where AltGuard AltItem Alts DeclItem Decls Guard NextOperand OperandList Part Redef RedefItem Redefs Print Print Print Print Print Print Print Print Print Print Print Print Print Print Print Print Print Print Print Print Print aexp alt decl exp locals open_operand operand rhs where_part alt_guard alt_item alts decl_item decls guard next_operand operands part redef redef_item redefs x)

decl_rolled : (x : exps_trees Decl-F) → decl (roll-Decl x) ≡ decl_prints x
unfolding aexp alt decl exp locals open_operand operand rhs where_part alt_guard alt_item alts decl_item decls guard next_operand operands part redef redef_item redefs
decl_rolled x = fold-roll-Decl Print Print Print Print Print Print Print Print Print Print Print Print Print Print Print Print Print Print Print Print Print aexp_step alt_step decl_step exp_step locals_step open_operand_step operand_step rhs_step where_part_step alt_guard_step alt_item_step alts_step decl_item_step decls_step guard_step next_operand_step operands_step part_step redef_step redef_item_step redefs_step x

decl_step_whole : (y : exps_nodes Decl-F) → Whole (decl_prints (decl_trees y)).flat
decl_step_whole (Decl-F.Signature x0 x1 x2 x3 x4) = whole (bare_append (bare_var x1) (bare_append (bare_all next_var bare_next_var x2) (bare_token refl (bare_type_expr x4))))
decl_step_whole (Decl-F.Fixity x0 x1 x2 x3 x4) = whole (bare_token (fixity_is_bare x1) (bare_append (bare_level x2) (bare_append (bare_op x3) (bare_all next_op bare_next_op x4))))
decl_step_whole (Decl-F.Function x0 x1 x2) = whole_append (whole (bare_fun_lhs x1)) x2.1
decl_step_whole (Decl-F.Pattern x0 x1 x2) = whole_append (whole (bare_pattern x1)) x2.1

decl_layer : (x : exps_trees Decl-F) (y : exps_nodes Decl-F) → decl_trees y ≡ x → Whole (decl (roll-Decl x)).flat
decl_layer x y is = subst (λ z. Whole (decl (roll-Decl z)).flat) is (whole_by (decl_rolled (decl_trees y)) (decl_step_whole y))

abbrev exp_trees : exps_nodes Exp-F → exps_trees Exp-F
exp_trees y = map-Exp (WholeNode aexp) (WholeNode alt) (WholeNode decl) (WholeNode exp) (WholeNode locals) (WholeNode open_operand) (WholeNode operand) (WholeNode rhs) (WholeNode where_part) (WholeNode alt_guard) (InsideNode alt_item) (WholeNode alts) (InsideNode decl_item) (WholeNode decls) (WholeNode guard) (WholeNode next_operand) (WholeNode operands) (WholeNode part) (WholeNode redef) (InsideNode redef_item) (WholeNode redefs) Aexp Alt Decl Exp Locals Open Operand Rhs Where AltGuard AltItem Alts DeclItem Decls Guard NextOperand OperandList Part Redef RedefItem Redefs tree tree tree tree tree tree tree tree tree tree tree tree tree tree tree tree tree tree tree tree tree y

abbrev exp_prints : exps_trees Exp-F → Print
exp_prints x = exp_step (map-Exp Aexp Alt Decl Exp Locals Open Operand Rhs Where AltGuard AltItem Alts DeclItem Decls Guard NextOperand OperandList Part Redef RedefItem Redefs Print Print Print Print Print Print Print Print Print Print Print Print Print Print Print Print Print Print Print Print Print aexp alt decl exp locals open_operand operand rhs where_part alt_guard alt_item alts decl_item decls guard next_operand operands part redef redef_item redefs x)

exp_rolled : (x : exps_trees Exp-F) → exp (roll-Exp x) ≡ exp_prints x
unfolding aexp alt decl exp locals open_operand operand rhs where_part alt_guard alt_item alts decl_item decls guard next_operand operands part redef redef_item redefs
exp_rolled x = fold-roll-Exp Print Print Print Print Print Print Print Print Print Print Print Print Print Print Print Print Print Print Print Print Print aexp_step alt_step decl_step exp_step locals_step open_operand_step operand_step rhs_step where_part_step alt_guard_step alt_item_step alts_step decl_item_step decls_step guard_step next_operand_step operands_step part_step redef_step redef_item_step redefs_step x

exp_step_whole : (y : exps_nodes Exp-F) → Whole (exp_prints (exp_trees y)).flat
exp_step_whole (Exp-F.Exp::Plain x0) = x0.1
exp_step_whole (Exp-F.Typed x0 x1 x2 x3) = whole_append x1.1 (whole (bare_token refl (bare_type_expr x3)))

exp_layer : (x : exps_trees Exp-F) (y : exps_nodes Exp-F) → exp_trees y ≡ x → Whole (exp (roll-Exp x)).flat
exp_layer x y is = subst (λ z. Whole (exp (roll-Exp z)).flat) is (whole_by (exp_rolled (exp_trees y)) (exp_step_whole y))

abbrev locals_trees : exps_nodes Locals-F → exps_trees Locals-F
locals_trees y = map-Locals (WholeNode aexp) (WholeNode alt) (WholeNode decl) (WholeNode exp) (WholeNode locals) (WholeNode open_operand) (WholeNode operand) (WholeNode rhs) (WholeNode where_part) (WholeNode alt_guard) (InsideNode alt_item) (WholeNode alts) (InsideNode decl_item) (WholeNode decls) (WholeNode guard) (WholeNode next_operand) (WholeNode operands) (WholeNode part) (WholeNode redef) (InsideNode redef_item) (WholeNode redefs) Aexp Alt Decl Exp Locals Open Operand Rhs Where AltGuard AltItem Alts DeclItem Decls Guard NextOperand OperandList Part Redef RedefItem Redefs tree tree tree tree tree tree tree tree tree tree tree tree tree tree tree tree tree tree tree tree tree y

abbrev locals_prints : exps_trees Locals-F → Print
locals_prints x = locals_step (map-Locals Aexp Alt Decl Exp Locals Open Operand Rhs Where AltGuard AltItem Alts DeclItem Decls Guard NextOperand OperandList Part Redef RedefItem Redefs Print Print Print Print Print Print Print Print Print Print Print Print Print Print Print Print Print Print Print Print Print aexp alt decl exp locals open_operand operand rhs where_part alt_guard alt_item alts decl_item decls guard next_operand operands part redef redef_item redefs x)

locals_rolled : (x : exps_trees Locals-F) → locals (roll-Locals x) ≡ locals_prints x
unfolding aexp alt decl exp locals open_operand operand rhs where_part alt_guard alt_item alts decl_item decls guard next_operand operands part redef redef_item redefs
locals_rolled x = fold-roll-Locals Print Print Print Print Print Print Print Print Print Print Print Print Print Print Print Print Print Print Print Print Print aexp_step alt_step decl_step exp_step locals_step open_operand_step operand_step rhs_step where_part_step alt_guard_step alt_item_step alts_step decl_item_step decls_step guard_step next_operand_step operands_step part_step redef_step redef_item_step redefs_step x

locals_step_whole : (y : exps_nodes Locals-F) → Whole (locals_prints (locals_trees y)).flat
locals_step_whole (Locals-F.Decls x0) = x0.1
locals_step_whole (Locals-F.Redefs x0) = x0.1

locals_layer : (x : exps_trees Locals-F) (y : exps_nodes Locals-F) → locals_trees y ≡ x → Whole (locals (roll-Locals x)).flat
locals_layer x y is = subst (λ z. Whole (locals (roll-Locals z)).flat) is (whole_by (locals_rolled (locals_trees y)) (locals_step_whole y))

abbrev open_operand_trees : exps_nodes Open-F → exps_trees Open-F
open_operand_trees y = map-Open (WholeNode aexp) (WholeNode alt) (WholeNode decl) (WholeNode exp) (WholeNode locals) (WholeNode open_operand) (WholeNode operand) (WholeNode rhs) (WholeNode where_part) (WholeNode alt_guard) (InsideNode alt_item) (WholeNode alts) (InsideNode decl_item) (WholeNode decls) (WholeNode guard) (WholeNode next_operand) (WholeNode operands) (WholeNode part) (WholeNode redef) (InsideNode redef_item) (WholeNode redefs) Aexp Alt Decl Exp Locals Open Operand Rhs Where AltGuard AltItem Alts DeclItem Decls Guard NextOperand OperandList Part Redef RedefItem Redefs tree tree tree tree tree tree tree tree tree tree tree tree tree tree tree tree tree tree tree tree tree y

abbrev open_operand_prints : exps_trees Open-F → Print
open_operand_prints x = open_operand_step (map-Open Aexp Alt Decl Exp Locals Open Operand Rhs Where AltGuard AltItem Alts DeclItem Decls Guard NextOperand OperandList Part Redef RedefItem Redefs Print Print Print Print Print Print Print Print Print Print Print Print Print Print Print Print Print Print Print Print Print aexp alt decl exp locals open_operand operand rhs where_part alt_guard alt_item alts decl_item decls guard next_operand operands part redef redef_item redefs x)

open_operand_rolled : (x : exps_trees Open-F) → open_operand (roll-Open x) ≡ open_operand_prints x
unfolding aexp alt decl exp locals open_operand operand rhs where_part alt_guard alt_item alts decl_item decls guard next_operand operands part redef redef_item redefs
open_operand_rolled x = fold-roll-Open Print Print Print Print Print Print Print Print Print Print Print Print Print Print Print Print Print Print Print Print Print aexp_step alt_step decl_step exp_step locals_step open_operand_step operand_step rhs_step where_part_step alt_guard_step alt_item_step alts_step decl_item_step decls_step guard_step next_operand_step operands_step part_step redef_step redef_item_step redefs_step x

open_operand_step_whole : (y : exps_nodes Open-F) → Whole (open_operand_prints (open_operand_trees y)).flat
open_operand_step_whole (Open-F.Lambda x0 x1 x2 x3 x4 x5) = whole_token refl (whole_append (whole (bare_arg_pattern x2)) (whole_append (whole (bare_all arg_pattern bare_arg_pattern x3)) (whole_token refl x5.1)))
open_operand_step_whole (Open-F.Let x0 x1 x2 x3 x4) = whole_token refl (whole_append x2.1 (whole_token refl x4.1))
open_operand_step_whole (Open-F.If x0 x1 x2 x3 x4 x5 x6) = whole_token refl (whole_append x2.1 (whole_token refl (whole_append x4.1 (whole_token refl x6.1))))

open_operand_layer : (x : exps_trees Open-F) (y : exps_nodes Open-F) → open_operand_trees y ≡ x → Whole (open_operand (roll-Open x)).flat
open_operand_layer x y is = subst (λ z. Whole (open_operand (roll-Open z)).flat) is (whole_by (open_operand_rolled (open_operand_trees y)) (open_operand_step_whole y))

abbrev operand_trees : exps_nodes Operand-F → exps_trees Operand-F
operand_trees y = map-Operand (WholeNode aexp) (WholeNode alt) (WholeNode decl) (WholeNode exp) (WholeNode locals) (WholeNode open_operand) (WholeNode operand) (WholeNode rhs) (WholeNode where_part) (WholeNode alt_guard) (InsideNode alt_item) (WholeNode alts) (InsideNode decl_item) (WholeNode decls) (WholeNode guard) (WholeNode next_operand) (WholeNode operands) (WholeNode part) (WholeNode redef) (InsideNode redef_item) (WholeNode redefs) Aexp Alt Decl Exp Locals Open Operand Rhs Where AltGuard AltItem Alts DeclItem Decls Guard NextOperand OperandList Part Redef RedefItem Redefs tree tree tree tree tree tree tree tree tree tree tree tree tree tree tree tree tree tree tree tree tree y

abbrev operand_prints : exps_trees Operand-F → Print
operand_prints x = operand_step (map-Operand Aexp Alt Decl Exp Locals Open Operand Rhs Where AltGuard AltItem Alts DeclItem Decls Guard NextOperand OperandList Part Redef RedefItem Redefs Print Print Print Print Print Print Print Print Print Print Print Print Print Print Print Print Print Print Print Print Print aexp alt decl exp locals open_operand operand rhs where_part alt_guard alt_item alts decl_item decls guard next_operand operands part redef redef_item redefs x)

operand_rolled : (x : exps_trees Operand-F) → operand (roll-Operand x) ≡ operand_prints x
unfolding aexp alt decl exp locals open_operand operand rhs where_part alt_guard alt_item alts decl_item decls guard next_operand operands part redef redef_item redefs
operand_rolled x = fold-roll-Operand Print Print Print Print Print Print Print Print Print Print Print Print Print Print Print Print Print Print Print Print Print aexp_step alt_step decl_step exp_step locals_step open_operand_step operand_step rhs_step where_part_step alt_guard_step alt_item_step alts_step decl_item_step decls_step guard_step next_operand_step operands_step part_step redef_step redef_item_step redefs_step x

operand_step_whole : (y : exps_nodes Operand-F) → Whole (operand_prints (operand_trees y)).flat
operand_step_whole (Operand-F.Apply x0 x1 x2) = whole_append x1.1 (whole_nodes aexp x2)
operand_step_whole (Operand-F.Case x0 x1 x2 x3 x4) = whole_token refl (whole_append x2.1 (whole_token refl x4.1))
operand_step_whole (Operand-F.Open x0) = x0.1

operand_layer : (x : exps_trees Operand-F) (y : exps_nodes Operand-F) → operand_trees y ≡ x → Whole (operand (roll-Operand x)).flat
operand_layer x y is = subst (λ z. Whole (operand (roll-Operand z)).flat) is (whole_by (operand_rolled (operand_trees y)) (operand_step_whole y))

abbrev rhs_trees : exps_nodes Rhs-F → exps_trees Rhs-F
rhs_trees y = map-Rhs (WholeNode aexp) (WholeNode alt) (WholeNode decl) (WholeNode exp) (WholeNode locals) (WholeNode open_operand) (WholeNode operand) (WholeNode rhs) (WholeNode where_part) (WholeNode alt_guard) (InsideNode alt_item) (WholeNode alts) (InsideNode decl_item) (WholeNode decls) (WholeNode guard) (WholeNode next_operand) (WholeNode operands) (WholeNode part) (WholeNode redef) (InsideNode redef_item) (WholeNode redefs) Aexp Alt Decl Exp Locals Open Operand Rhs Where AltGuard AltItem Alts DeclItem Decls Guard NextOperand OperandList Part Redef RedefItem Redefs tree tree tree tree tree tree tree tree tree tree tree tree tree tree tree tree tree tree tree tree tree y

abbrev rhs_prints : exps_trees Rhs-F → Print
rhs_prints x = rhs_step (map-Rhs Aexp Alt Decl Exp Locals Open Operand Rhs Where AltGuard AltItem Alts DeclItem Decls Guard NextOperand OperandList Part Redef RedefItem Redefs Print Print Print Print Print Print Print Print Print Print Print Print Print Print Print Print Print Print Print Print Print aexp alt decl exp locals open_operand operand rhs where_part alt_guard alt_item alts decl_item decls guard next_operand operands part redef redef_item redefs x)

rhs_rolled : (x : exps_trees Rhs-F) → rhs (roll-Rhs x) ≡ rhs_prints x
unfolding aexp alt decl exp locals open_operand operand rhs where_part alt_guard alt_item alts decl_item decls guard next_operand operands part redef redef_item redefs
rhs_rolled x = fold-roll-Rhs Print Print Print Print Print Print Print Print Print Print Print Print Print Print Print Print Print Print Print Print Print aexp_step alt_step decl_step exp_step locals_step open_operand_step operand_step rhs_step where_part_step alt_guard_step alt_item_step alts_step decl_item_step decls_step guard_step next_operand_step operands_step part_step redef_step redef_item_step redefs_step x

rhs_step_whole : (y : exps_nodes Rhs-F) → Whole (rhs_prints (rhs_trees y)).flat
rhs_step_whole (Rhs-F.Rhs::Plain x0 x1 x2 x3) = whole_token refl (whole_append x2.1 x3.1)
rhs_step_whole (Rhs-F.Rhs::Guarded x0 x1 x2 x3) = whole_append x1.1 (whole_append (whole_nodes guard x2) x3.1)

rhs_layer : (x : exps_trees Rhs-F) (y : exps_nodes Rhs-F) → rhs_trees y ≡ x → Whole (rhs (roll-Rhs x)).flat
rhs_layer x y is = subst (λ z. Whole (rhs (roll-Rhs z)).flat) is (whole_by (rhs_rolled (rhs_trees y)) (rhs_step_whole y))

abbrev where_part_trees : exps_nodes Where-F → exps_trees Where-F
where_part_trees y = map-Where (WholeNode aexp) (WholeNode alt) (WholeNode decl) (WholeNode exp) (WholeNode locals) (WholeNode open_operand) (WholeNode operand) (WholeNode rhs) (WholeNode where_part) (WholeNode alt_guard) (InsideNode alt_item) (WholeNode alts) (InsideNode decl_item) (WholeNode decls) (WholeNode guard) (WholeNode next_operand) (WholeNode operands) (WholeNode part) (WholeNode redef) (InsideNode redef_item) (WholeNode redefs) Aexp Alt Decl Exp Locals Open Operand Rhs Where AltGuard AltItem Alts DeclItem Decls Guard NextOperand OperandList Part Redef RedefItem Redefs tree tree tree tree tree tree tree tree tree tree tree tree tree tree tree tree tree tree tree tree tree y

abbrev where_part_prints : exps_trees Where-F → Print
where_part_prints x = where_part_step (map-Where Aexp Alt Decl Exp Locals Open Operand Rhs Where AltGuard AltItem Alts DeclItem Decls Guard NextOperand OperandList Part Redef RedefItem Redefs Print Print Print Print Print Print Print Print Print Print Print Print Print Print Print Print Print Print Print Print Print aexp alt decl exp locals open_operand operand rhs where_part alt_guard alt_item alts decl_item decls guard next_operand operands part redef redef_item redefs x)

where_part_rolled : (x : exps_trees Where-F) → where_part (roll-Where x) ≡ where_part_prints x
unfolding aexp alt decl exp locals open_operand operand rhs where_part alt_guard alt_item alts decl_item decls guard next_operand operands part redef redef_item redefs
where_part_rolled x = fold-roll-Where Print Print Print Print Print Print Print Print Print Print Print Print Print Print Print Print Print Print Print Print Print aexp_step alt_step decl_step exp_step locals_step open_operand_step operand_step rhs_step where_part_step alt_guard_step alt_item_step alts_step decl_item_step decls_step guard_step next_operand_step operands_step part_step redef_step redef_item_step redefs_step x

where_part_step_whole : (y : exps_nodes Where-F) → Whole (where_part_prints (where_part_trees y)).flat
where_part_step_whole Where-F.Absent = whole bare_none
where_part_step_whole (Where-F.Block x0 x1) = whole_token refl x1.1

where_part_layer : (x : exps_trees Where-F) (y : exps_nodes Where-F) → where_part_trees y ≡ x → Whole (where_part (roll-Where x)).flat
where_part_layer x y is = subst (λ z. Whole (where_part (roll-Where z)).flat) is (whole_by (where_part_rolled (where_part_trees y)) (where_part_step_whole y))

abbrev alt_guard_trees : exps_nodes AltGuard-F → exps_trees AltGuard-F
alt_guard_trees y = map-AltGuard (WholeNode aexp) (WholeNode alt) (WholeNode decl) (WholeNode exp) (WholeNode locals) (WholeNode open_operand) (WholeNode operand) (WholeNode rhs) (WholeNode where_part) (WholeNode alt_guard) (InsideNode alt_item) (WholeNode alts) (InsideNode decl_item) (WholeNode decls) (WholeNode guard) (WholeNode next_operand) (WholeNode operands) (WholeNode part) (WholeNode redef) (InsideNode redef_item) (WholeNode redefs) Aexp Alt Decl Exp Locals Open Operand Rhs Where AltGuard AltItem Alts DeclItem Decls Guard NextOperand OperandList Part Redef RedefItem Redefs tree tree tree tree tree tree tree tree tree tree tree tree tree tree tree tree tree tree tree tree tree y

abbrev alt_guard_prints : exps_trees AltGuard-F → Print
alt_guard_prints x = alt_guard_step (map-AltGuard Aexp Alt Decl Exp Locals Open Operand Rhs Where AltGuard AltItem Alts DeclItem Decls Guard NextOperand OperandList Part Redef RedefItem Redefs Print Print Print Print Print Print Print Print Print Print Print Print Print Print Print Print Print Print Print Print Print aexp alt decl exp locals open_operand operand rhs where_part alt_guard alt_item alts decl_item decls guard next_operand operands part redef redef_item redefs x)

alt_guard_rolled : (x : exps_trees AltGuard-F) → alt_guard (roll-AltGuard x) ≡ alt_guard_prints x
unfolding aexp alt decl exp locals open_operand operand rhs where_part alt_guard alt_item alts decl_item decls guard next_operand operands part redef redef_item redefs
alt_guard_rolled x = fold-roll-AltGuard Print Print Print Print Print Print Print Print Print Print Print Print Print Print Print Print Print Print Print Print Print aexp_step alt_step decl_step exp_step locals_step open_operand_step operand_step rhs_step where_part_step alt_guard_step alt_item_step alts_step decl_item_step decls_step guard_step next_operand_step operands_step part_step redef_step redef_item_step redefs_step x

alt_guard_step_whole : (y : exps_nodes AltGuard-F) → Whole (alt_guard_prints (alt_guard_trees y)).flat
alt_guard_step_whole y = whole_token refl (whole_append y.test.1 (whole_token refl y.body.1))

alt_guard_layer : (x : exps_trees AltGuard-F) (y : exps_nodes AltGuard-F) → alt_guard_trees y ≡ x → Whole (alt_guard (roll-AltGuard x)).flat
alt_guard_layer x y is = subst (λ z. Whole (alt_guard (roll-AltGuard z)).flat) is (whole_by (alt_guard_rolled (alt_guard_trees y)) (alt_guard_step_whole y))

abbrev alt_item_trees : exps_nodes AltItem-F → exps_trees AltItem-F
alt_item_trees y = map-AltItem (WholeNode aexp) (WholeNode alt) (WholeNode decl) (WholeNode exp) (WholeNode locals) (WholeNode open_operand) (WholeNode operand) (WholeNode rhs) (WholeNode where_part) (WholeNode alt_guard) (InsideNode alt_item) (WholeNode alts) (InsideNode decl_item) (WholeNode decls) (WholeNode guard) (WholeNode next_operand) (WholeNode operands) (WholeNode part) (WholeNode redef) (InsideNode redef_item) (WholeNode redefs) Aexp Alt Decl Exp Locals Open Operand Rhs Where AltGuard AltItem Alts DeclItem Decls Guard NextOperand OperandList Part Redef RedefItem Redefs tree tree tree tree tree tree tree tree tree tree tree tree tree tree tree tree tree tree tree tree tree y

abbrev alt_item_prints : exps_trees AltItem-F → Print
alt_item_prints x = alt_item_step (map-AltItem Aexp Alt Decl Exp Locals Open Operand Rhs Where AltGuard AltItem Alts DeclItem Decls Guard NextOperand OperandList Part Redef RedefItem Redefs Print Print Print Print Print Print Print Print Print Print Print Print Print Print Print Print Print Print Print Print Print aexp alt decl exp locals open_operand operand rhs where_part alt_guard alt_item alts decl_item decls guard next_operand operands part redef redef_item redefs x)

alt_item_rolled : (x : exps_trees AltItem-F) → alt_item (roll-AltItem x) ≡ alt_item_prints x
unfolding aexp alt decl exp locals open_operand operand rhs where_part alt_guard alt_item alts decl_item decls guard next_operand operands part redef redef_item redefs
alt_item_rolled x = fold-roll-AltItem Print Print Print Print Print Print Print Print Print Print Print Print Print Print Print Print Print Print Print Print Print aexp_step alt_step decl_step exp_step locals_step open_operand_step operand_step rhs_step where_part_step alt_guard_step alt_item_step alts_step decl_item_step decls_step guard_step next_operand_step operands_step part_step redef_step redef_item_step redefs_step x

alt_item_step_inside : (y : exps_nodes AltItem-F) → Inside (alt_item_prints (alt_item_trees y)).flat
alt_item_step_inside y = inside_append (inside y.alt.1) (semis_inside y.marks)

alt_item_layer : (x : exps_trees AltItem-F) (y : exps_nodes AltItem-F) → alt_item_trees y ≡ x → Inside (alt_item (roll-AltItem x)).flat
alt_item_layer x y is = subst (λ z. Inside (alt_item (roll-AltItem z)).flat) is (inside_by (alt_item_rolled (alt_item_trees y)) (alt_item_step_inside y))

abbrev alts_trees : exps_nodes Alts-F → exps_trees Alts-F
alts_trees y = map-Alts (WholeNode aexp) (WholeNode alt) (WholeNode decl) (WholeNode exp) (WholeNode locals) (WholeNode open_operand) (WholeNode operand) (WholeNode rhs) (WholeNode where_part) (WholeNode alt_guard) (InsideNode alt_item) (WholeNode alts) (InsideNode decl_item) (WholeNode decls) (WholeNode guard) (WholeNode next_operand) (WholeNode operands) (WholeNode part) (WholeNode redef) (InsideNode redef_item) (WholeNode redefs) Aexp Alt Decl Exp Locals Open Operand Rhs Where AltGuard AltItem Alts DeclItem Decls Guard NextOperand OperandList Part Redef RedefItem Redefs tree tree tree tree tree tree tree tree tree tree tree tree tree tree tree tree tree tree tree tree tree y

abbrev alts_prints : exps_trees Alts-F → Print
alts_prints x = alts_step (map-Alts Aexp Alt Decl Exp Locals Open Operand Rhs Where AltGuard AltItem Alts DeclItem Decls Guard NextOperand OperandList Part Redef RedefItem Redefs Print Print Print Print Print Print Print Print Print Print Print Print Print Print Print Print Print Print Print Print Print aexp alt decl exp locals open_operand operand rhs where_part alt_guard alt_item alts decl_item decls guard next_operand operands part redef redef_item redefs x)

alts_rolled : (x : exps_trees Alts-F) → alts (roll-Alts x) ≡ alts_prints x
unfolding aexp alt decl exp locals open_operand operand rhs where_part alt_guard alt_item alts decl_item decls guard next_operand operands part redef redef_item redefs
alts_rolled x = fold-roll-Alts Print Print Print Print Print Print Print Print Print Print Print Print Print Print Print Print Print Print Print Print Print aexp_step alt_step decl_step exp_step locals_step open_operand_step operand_step rhs_step where_part_step alt_guard_step alt_item_step alts_step decl_item_step decls_step guard_step next_operand_step operands_step part_step redef_step redef_item_step redefs_step x

alts_step_whole : (y : exps_nodes Alts-F) → Whole (alts_prints (alts_trees y)).flat
alts_step_whole y = closed_block y.open y.close (semis_inside y.before) (inside_nodes alt_item y.alts)

alts_layer : (x : exps_trees Alts-F) (y : exps_nodes Alts-F) → alts_trees y ≡ x → Whole (alts (roll-Alts x)).flat
alts_layer x y is = subst (λ z. Whole (alts (roll-Alts z)).flat) is (whole_by (alts_rolled (alts_trees y)) (alts_step_whole y))

abbrev decl_item_trees : exps_nodes DeclItem-F → exps_trees DeclItem-F
decl_item_trees y = map-DeclItem (WholeNode aexp) (WholeNode alt) (WholeNode decl) (WholeNode exp) (WholeNode locals) (WholeNode open_operand) (WholeNode operand) (WholeNode rhs) (WholeNode where_part) (WholeNode alt_guard) (InsideNode alt_item) (WholeNode alts) (InsideNode decl_item) (WholeNode decls) (WholeNode guard) (WholeNode next_operand) (WholeNode operands) (WholeNode part) (WholeNode redef) (InsideNode redef_item) (WholeNode redefs) Aexp Alt Decl Exp Locals Open Operand Rhs Where AltGuard AltItem Alts DeclItem Decls Guard NextOperand OperandList Part Redef RedefItem Redefs tree tree tree tree tree tree tree tree tree tree tree tree tree tree tree tree tree tree tree tree tree y

abbrev decl_item_prints : exps_trees DeclItem-F → Print
decl_item_prints x = decl_item_step (map-DeclItem Aexp Alt Decl Exp Locals Open Operand Rhs Where AltGuard AltItem Alts DeclItem Decls Guard NextOperand OperandList Part Redef RedefItem Redefs Print Print Print Print Print Print Print Print Print Print Print Print Print Print Print Print Print Print Print Print Print aexp alt decl exp locals open_operand operand rhs where_part alt_guard alt_item alts decl_item decls guard next_operand operands part redef redef_item redefs x)

decl_item_rolled : (x : exps_trees DeclItem-F) → decl_item (roll-DeclItem x) ≡ decl_item_prints x
unfolding aexp alt decl exp locals open_operand operand rhs where_part alt_guard alt_item alts decl_item decls guard next_operand operands part redef redef_item redefs
decl_item_rolled x = fold-roll-DeclItem Print Print Print Print Print Print Print Print Print Print Print Print Print Print Print Print Print Print Print Print Print aexp_step alt_step decl_step exp_step locals_step open_operand_step operand_step rhs_step where_part_step alt_guard_step alt_item_step alts_step decl_item_step decls_step guard_step next_operand_step operands_step part_step redef_step redef_item_step redefs_step x

decl_item_step_inside : (y : exps_nodes DeclItem-F) → Inside (decl_item_prints (decl_item_trees y)).flat
decl_item_step_inside y = inside_append (inside y.decl.1) (semis_inside y.marks)

decl_item_layer : (x : exps_trees DeclItem-F) (y : exps_nodes DeclItem-F) → decl_item_trees y ≡ x → Inside (decl_item (roll-DeclItem x)).flat
decl_item_layer x y is = subst (λ z. Inside (decl_item (roll-DeclItem z)).flat) is (inside_by (decl_item_rolled (decl_item_trees y)) (decl_item_step_inside y))

abbrev decls_trees : exps_nodes Decls-F → exps_trees Decls-F
decls_trees y = map-Decls (WholeNode aexp) (WholeNode alt) (WholeNode decl) (WholeNode exp) (WholeNode locals) (WholeNode open_operand) (WholeNode operand) (WholeNode rhs) (WholeNode where_part) (WholeNode alt_guard) (InsideNode alt_item) (WholeNode alts) (InsideNode decl_item) (WholeNode decls) (WholeNode guard) (WholeNode next_operand) (WholeNode operands) (WholeNode part) (WholeNode redef) (InsideNode redef_item) (WholeNode redefs) Aexp Alt Decl Exp Locals Open Operand Rhs Where AltGuard AltItem Alts DeclItem Decls Guard NextOperand OperandList Part Redef RedefItem Redefs tree tree tree tree tree tree tree tree tree tree tree tree tree tree tree tree tree tree tree tree tree y

abbrev decls_prints : exps_trees Decls-F → Print
decls_prints x = decls_step (map-Decls Aexp Alt Decl Exp Locals Open Operand Rhs Where AltGuard AltItem Alts DeclItem Decls Guard NextOperand OperandList Part Redef RedefItem Redefs Print Print Print Print Print Print Print Print Print Print Print Print Print Print Print Print Print Print Print Print Print aexp alt decl exp locals open_operand operand rhs where_part alt_guard alt_item alts decl_item decls guard next_operand operands part redef redef_item redefs x)

decls_rolled : (x : exps_trees Decls-F) → decls (roll-Decls x) ≡ decls_prints x
unfolding aexp alt decl exp locals open_operand operand rhs where_part alt_guard alt_item alts decl_item decls guard next_operand operands part redef redef_item redefs
decls_rolled x = fold-roll-Decls Print Print Print Print Print Print Print Print Print Print Print Print Print Print Print Print Print Print Print Print Print aexp_step alt_step decl_step exp_step locals_step open_operand_step operand_step rhs_step where_part_step alt_guard_step alt_item_step alts_step decl_item_step decls_step guard_step next_operand_step operands_step part_step redef_step redef_item_step redefs_step x

decls_step_whole : (y : exps_nodes Decls-F) → Whole (decls_prints (decls_trees y)).flat
decls_step_whole y = closed_block y.open y.close (semis_inside y.before) (inside_nodes decl_item y.decls)

decls_layer : (x : exps_trees Decls-F) (y : exps_nodes Decls-F) → decls_trees y ≡ x → Whole (decls (roll-Decls x)).flat
decls_layer x y is = subst (λ z. Whole (decls (roll-Decls z)).flat) is (whole_by (decls_rolled (decls_trees y)) (decls_step_whole y))

abbrev guard_trees : exps_nodes Guard-F → exps_trees Guard-F
guard_trees y = map-Guard (WholeNode aexp) (WholeNode alt) (WholeNode decl) (WholeNode exp) (WholeNode locals) (WholeNode open_operand) (WholeNode operand) (WholeNode rhs) (WholeNode where_part) (WholeNode alt_guard) (InsideNode alt_item) (WholeNode alts) (InsideNode decl_item) (WholeNode decls) (WholeNode guard) (WholeNode next_operand) (WholeNode operands) (WholeNode part) (WholeNode redef) (InsideNode redef_item) (WholeNode redefs) Aexp Alt Decl Exp Locals Open Operand Rhs Where AltGuard AltItem Alts DeclItem Decls Guard NextOperand OperandList Part Redef RedefItem Redefs tree tree tree tree tree tree tree tree tree tree tree tree tree tree tree tree tree tree tree tree tree y

abbrev guard_prints : exps_trees Guard-F → Print
guard_prints x = guard_step (map-Guard Aexp Alt Decl Exp Locals Open Operand Rhs Where AltGuard AltItem Alts DeclItem Decls Guard NextOperand OperandList Part Redef RedefItem Redefs Print Print Print Print Print Print Print Print Print Print Print Print Print Print Print Print Print Print Print Print Print aexp alt decl exp locals open_operand operand rhs where_part alt_guard alt_item alts decl_item decls guard next_operand operands part redef redef_item redefs x)

guard_rolled : (x : exps_trees Guard-F) → guard (roll-Guard x) ≡ guard_prints x
unfolding aexp alt decl exp locals open_operand operand rhs where_part alt_guard alt_item alts decl_item decls guard next_operand operands part redef redef_item redefs
guard_rolled x = fold-roll-Guard Print Print Print Print Print Print Print Print Print Print Print Print Print Print Print Print Print Print Print Print Print aexp_step alt_step decl_step exp_step locals_step open_operand_step operand_step rhs_step where_part_step alt_guard_step alt_item_step alts_step decl_item_step decls_step guard_step next_operand_step operands_step part_step redef_step redef_item_step redefs_step x

guard_step_whole : (y : exps_nodes Guard-F) → Whole (guard_prints (guard_trees y)).flat
guard_step_whole y = whole_token refl (whole_append y.test.1 (whole_token refl y.body.1))

guard_layer : (x : exps_trees Guard-F) (y : exps_nodes Guard-F) → guard_trees y ≡ x → Whole (guard (roll-Guard x)).flat
guard_layer x y is = subst (λ z. Whole (guard (roll-Guard z)).flat) is (whole_by (guard_rolled (guard_trees y)) (guard_step_whole y))

abbrev next_operand_trees : exps_nodes NextOperand-F → exps_trees NextOperand-F
next_operand_trees y = map-NextOperand (WholeNode aexp) (WholeNode alt) (WholeNode decl) (WholeNode exp) (WholeNode locals) (WholeNode open_operand) (WholeNode operand) (WholeNode rhs) (WholeNode where_part) (WholeNode alt_guard) (InsideNode alt_item) (WholeNode alts) (InsideNode decl_item) (WholeNode decls) (WholeNode guard) (WholeNode next_operand) (WholeNode operands) (WholeNode part) (WholeNode redef) (InsideNode redef_item) (WholeNode redefs) Aexp Alt Decl Exp Locals Open Operand Rhs Where AltGuard AltItem Alts DeclItem Decls Guard NextOperand OperandList Part Redef RedefItem Redefs tree tree tree tree tree tree tree tree tree tree tree tree tree tree tree tree tree tree tree tree tree y

abbrev next_operand_prints : exps_trees NextOperand-F → Print
next_operand_prints x = next_operand_step (map-NextOperand Aexp Alt Decl Exp Locals Open Operand Rhs Where AltGuard AltItem Alts DeclItem Decls Guard NextOperand OperandList Part Redef RedefItem Redefs Print Print Print Print Print Print Print Print Print Print Print Print Print Print Print Print Print Print Print Print Print aexp alt decl exp locals open_operand operand rhs where_part alt_guard alt_item alts decl_item decls guard next_operand operands part redef redef_item redefs x)

next_operand_rolled : (x : exps_trees NextOperand-F) → next_operand (roll-NextOperand x) ≡ next_operand_prints x
unfolding aexp alt decl exp locals open_operand operand rhs where_part alt_guard alt_item alts decl_item decls guard next_operand operands part redef redef_item redefs
next_operand_rolled x = fold-roll-NextOperand Print Print Print Print Print Print Print Print Print Print Print Print Print Print Print Print Print Print Print Print Print aexp_step alt_step decl_step exp_step locals_step open_operand_step operand_step rhs_step where_part_step alt_guard_step alt_item_step alts_step decl_item_step decls_step guard_step next_operand_step operands_step part_step redef_step redef_item_step redefs_step x

next_operand_step_whole : (y : exps_nodes NextOperand-F) → Whole (next_operand_prints (next_operand_trees y)).flat
next_operand_step_whole y = whole_append (whole (bare_op y.op)) (whole_append (whole (bare_minus y.minus)) y.operand.1)

next_operand_layer : (x : exps_trees NextOperand-F) (y : exps_nodes NextOperand-F) → next_operand_trees y ≡ x → Whole (next_operand (roll-NextOperand x)).flat
next_operand_layer x y is = subst (λ z. Whole (next_operand (roll-NextOperand z)).flat) is (whole_by (next_operand_rolled (next_operand_trees y)) (next_operand_step_whole y))

abbrev operands_trees : exps_nodes OperandList-F → exps_trees OperandList-F
operands_trees y = map-OperandList (WholeNode aexp) (WholeNode alt) (WholeNode decl) (WholeNode exp) (WholeNode locals) (WholeNode open_operand) (WholeNode operand) (WholeNode rhs) (WholeNode where_part) (WholeNode alt_guard) (InsideNode alt_item) (WholeNode alts) (InsideNode decl_item) (WholeNode decls) (WholeNode guard) (WholeNode next_operand) (WholeNode operands) (WholeNode part) (WholeNode redef) (InsideNode redef_item) (WholeNode redefs) Aexp Alt Decl Exp Locals Open Operand Rhs Where AltGuard AltItem Alts DeclItem Decls Guard NextOperand OperandList Part Redef RedefItem Redefs tree tree tree tree tree tree tree tree tree tree tree tree tree tree tree tree tree tree tree tree tree y

abbrev operands_prints : exps_trees OperandList-F → Print
operands_prints x = operands_step (map-OperandList Aexp Alt Decl Exp Locals Open Operand Rhs Where AltGuard AltItem Alts DeclItem Decls Guard NextOperand OperandList Part Redef RedefItem Redefs Print Print Print Print Print Print Print Print Print Print Print Print Print Print Print Print Print Print Print Print Print aexp alt decl exp locals open_operand operand rhs where_part alt_guard alt_item alts decl_item decls guard next_operand operands part redef redef_item redefs x)

operands_rolled : (x : exps_trees OperandList-F) → operands (roll-OperandList x) ≡ operands_prints x
unfolding aexp alt decl exp locals open_operand operand rhs where_part alt_guard alt_item alts decl_item decls guard next_operand operands part redef redef_item redefs
operands_rolled x = fold-roll-OperandList Print Print Print Print Print Print Print Print Print Print Print Print Print Print Print Print Print Print Print Print Print aexp_step alt_step decl_step exp_step locals_step open_operand_step operand_step rhs_step where_part_step alt_guard_step alt_item_step alts_step decl_item_step decls_step guard_step next_operand_step operands_step part_step redef_step redef_item_step redefs_step x

operands_step_whole : (y : exps_nodes OperandList-F) → Whole (operands_prints (operands_trees y)).flat
operands_step_whole y = whole_append (whole (bare_minus y.minus)) (whole_append y.first.1 (whole_nodes next_operand y.others))

operands_layer : (x : exps_trees OperandList-F) (y : exps_nodes OperandList-F) → operands_trees y ≡ x → Whole (operands (roll-OperandList x)).flat
operands_layer x y is = subst (λ z. Whole (operands (roll-OperandList z)).flat) is (whole_by (operands_rolled (operands_trees y)) (operands_step_whole y))

abbrev part_trees : exps_nodes Part-F → exps_trees Part-F
part_trees y = map-Part (WholeNode aexp) (WholeNode alt) (WholeNode decl) (WholeNode exp) (WholeNode locals) (WholeNode open_operand) (WholeNode operand) (WholeNode rhs) (WholeNode where_part) (WholeNode alt_guard) (InsideNode alt_item) (WholeNode alts) (InsideNode decl_item) (WholeNode decls) (WholeNode guard) (WholeNode next_operand) (WholeNode operands) (WholeNode part) (WholeNode redef) (InsideNode redef_item) (WholeNode redefs) Aexp Alt Decl Exp Locals Open Operand Rhs Where AltGuard AltItem Alts DeclItem Decls Guard NextOperand OperandList Part Redef RedefItem Redefs tree tree tree tree tree tree tree tree tree tree tree tree tree tree tree tree tree tree tree tree tree y

abbrev part_prints : exps_trees Part-F → Print
part_prints x = part_step (map-Part Aexp Alt Decl Exp Locals Open Operand Rhs Where AltGuard AltItem Alts DeclItem Decls Guard NextOperand OperandList Part Redef RedefItem Redefs Print Print Print Print Print Print Print Print Print Print Print Print Print Print Print Print Print Print Print Print Print aexp alt decl exp locals open_operand operand rhs where_part alt_guard alt_item alts decl_item decls guard next_operand operands part redef redef_item redefs x)

part_rolled : (x : exps_trees Part-F) → part (roll-Part x) ≡ part_prints x
unfolding aexp alt decl exp locals open_operand operand rhs where_part alt_guard alt_item alts decl_item decls guard next_operand operands part redef redef_item redefs
part_rolled x = fold-roll-Part Print Print Print Print Print Print Print Print Print Print Print Print Print Print Print Print Print Print Print Print Print aexp_step alt_step decl_step exp_step locals_step open_operand_step operand_step rhs_step where_part_step alt_guard_step alt_item_step alts_step decl_item_step decls_step guard_step next_operand_step operands_step part_step redef_step redef_item_step redefs_step x

part_step_whole : (y : exps_nodes Part-F) → Whole (part_prints (part_trees y)).flat
part_step_whole y = whole_token refl y.exp.1

part_layer : (x : exps_trees Part-F) (y : exps_nodes Part-F) → part_trees y ≡ x → Whole (part (roll-Part x)).flat
part_layer x y is = subst (λ z. Whole (part (roll-Part z)).flat) is (whole_by (part_rolled (part_trees y)) (part_step_whole y))

abbrev redef_trees : exps_nodes Redef-F → exps_trees Redef-F
redef_trees y = map-Redef (WholeNode aexp) (WholeNode alt) (WholeNode decl) (WholeNode exp) (WholeNode locals) (WholeNode open_operand) (WholeNode operand) (WholeNode rhs) (WholeNode where_part) (WholeNode alt_guard) (InsideNode alt_item) (WholeNode alts) (InsideNode decl_item) (WholeNode decls) (WholeNode guard) (WholeNode next_operand) (WholeNode operands) (WholeNode part) (WholeNode redef) (InsideNode redef_item) (WholeNode redefs) Aexp Alt Decl Exp Locals Open Operand Rhs Where AltGuard AltItem Alts DeclItem Decls Guard NextOperand OperandList Part Redef RedefItem Redefs tree tree tree tree tree tree tree tree tree tree tree tree tree tree tree tree tree tree tree tree tree y

abbrev redef_prints : exps_trees Redef-F → Print
redef_prints x = redef_step (map-Redef Aexp Alt Decl Exp Locals Open Operand Rhs Where AltGuard AltItem Alts DeclItem Decls Guard NextOperand OperandList Part Redef RedefItem Redefs Print Print Print Print Print Print Print Print Print Print Print Print Print Print Print Print Print Print Print Print Print aexp alt decl exp locals open_operand operand rhs where_part alt_guard alt_item alts decl_item decls guard next_operand operands part redef redef_item redefs x)

redef_rolled : (x : exps_trees Redef-F) → redef (roll-Redef x) ≡ redef_prints x
unfolding aexp alt decl exp locals open_operand operand rhs where_part alt_guard alt_item alts decl_item decls guard next_operand operands part redef redef_item redefs
redef_rolled x = fold-roll-Redef Print Print Print Print Print Print Print Print Print Print Print Print Print Print Print Print Print Print Print Print Print aexp_step alt_step decl_step exp_step locals_step open_operand_step operand_step rhs_step where_part_step alt_guard_step alt_item_step alts_step decl_item_step decls_step guard_step next_operand_step operands_step part_step redef_step redef_item_step redefs_step x

redef_step_whole : (y : exps_nodes Redef-F) → Whole (redef_prints (redef_trees y)).flat
redef_step_whole y = whole_append (whole (bare_var y.function)) (whole_token refl (whole_token refl (whole_token refl (whole_token refl y.body.1))))

redef_layer : (x : exps_trees Redef-F) (y : exps_nodes Redef-F) → redef_trees y ≡ x → Whole (redef (roll-Redef x)).flat
redef_layer x y is = subst (λ z. Whole (redef (roll-Redef z)).flat) is (whole_by (redef_rolled (redef_trees y)) (redef_step_whole y))

abbrev redef_item_trees : exps_nodes RedefItem-F → exps_trees RedefItem-F
redef_item_trees y = map-RedefItem (WholeNode aexp) (WholeNode alt) (WholeNode decl) (WholeNode exp) (WholeNode locals) (WholeNode open_operand) (WholeNode operand) (WholeNode rhs) (WholeNode where_part) (WholeNode alt_guard) (InsideNode alt_item) (WholeNode alts) (InsideNode decl_item) (WholeNode decls) (WholeNode guard) (WholeNode next_operand) (WholeNode operands) (WholeNode part) (WholeNode redef) (InsideNode redef_item) (WholeNode redefs) Aexp Alt Decl Exp Locals Open Operand Rhs Where AltGuard AltItem Alts DeclItem Decls Guard NextOperand OperandList Part Redef RedefItem Redefs tree tree tree tree tree tree tree tree tree tree tree tree tree tree tree tree tree tree tree tree tree y

abbrev redef_item_prints : exps_trees RedefItem-F → Print
redef_item_prints x = redef_item_step (map-RedefItem Aexp Alt Decl Exp Locals Open Operand Rhs Where AltGuard AltItem Alts DeclItem Decls Guard NextOperand OperandList Part Redef RedefItem Redefs Print Print Print Print Print Print Print Print Print Print Print Print Print Print Print Print Print Print Print Print Print aexp alt decl exp locals open_operand operand rhs where_part alt_guard alt_item alts decl_item decls guard next_operand operands part redef redef_item redefs x)

redef_item_rolled : (x : exps_trees RedefItem-F) → redef_item (roll-RedefItem x) ≡ redef_item_prints x
unfolding aexp alt decl exp locals open_operand operand rhs where_part alt_guard alt_item alts decl_item decls guard next_operand operands part redef redef_item redefs
redef_item_rolled x = fold-roll-RedefItem Print Print Print Print Print Print Print Print Print Print Print Print Print Print Print Print Print Print Print Print Print aexp_step alt_step decl_step exp_step locals_step open_operand_step operand_step rhs_step where_part_step alt_guard_step alt_item_step alts_step decl_item_step decls_step guard_step next_operand_step operands_step part_step redef_step redef_item_step redefs_step x

redef_item_step_inside : (y : exps_nodes RedefItem-F) → Inside (redef_item_prints (redef_item_trees y)).flat
redef_item_step_inside y = inside_append (inside y.redef.1) (semis_inside y.marks)

redef_item_layer : (x : exps_trees RedefItem-F) (y : exps_nodes RedefItem-F) → redef_item_trees y ≡ x → Inside (redef_item (roll-RedefItem x)).flat
redef_item_layer x y is = subst (λ z. Inside (redef_item (roll-RedefItem z)).flat) is (inside_by (redef_item_rolled (redef_item_trees y)) (redef_item_step_inside y))

abbrev redefs_trees : exps_nodes Redefs-F → exps_trees Redefs-F
redefs_trees y = map-Redefs (WholeNode aexp) (WholeNode alt) (WholeNode decl) (WholeNode exp) (WholeNode locals) (WholeNode open_operand) (WholeNode operand) (WholeNode rhs) (WholeNode where_part) (WholeNode alt_guard) (InsideNode alt_item) (WholeNode alts) (InsideNode decl_item) (WholeNode decls) (WholeNode guard) (WholeNode next_operand) (WholeNode operands) (WholeNode part) (WholeNode redef) (InsideNode redef_item) (WholeNode redefs) Aexp Alt Decl Exp Locals Open Operand Rhs Where AltGuard AltItem Alts DeclItem Decls Guard NextOperand OperandList Part Redef RedefItem Redefs tree tree tree tree tree tree tree tree tree tree tree tree tree tree tree tree tree tree tree tree tree y

abbrev redefs_prints : exps_trees Redefs-F → Print
redefs_prints x = redefs_step (map-Redefs Aexp Alt Decl Exp Locals Open Operand Rhs Where AltGuard AltItem Alts DeclItem Decls Guard NextOperand OperandList Part Redef RedefItem Redefs Print Print Print Print Print Print Print Print Print Print Print Print Print Print Print Print Print Print Print Print Print aexp alt decl exp locals open_operand operand rhs where_part alt_guard alt_item alts decl_item decls guard next_operand operands part redef redef_item redefs x)

redefs_rolled : (x : exps_trees Redefs-F) → redefs (roll-Redefs x) ≡ redefs_prints x
unfolding aexp alt decl exp locals open_operand operand rhs where_part alt_guard alt_item alts decl_item decls guard next_operand operands part redef redef_item redefs
redefs_rolled x = fold-roll-Redefs Print Print Print Print Print Print Print Print Print Print Print Print Print Print Print Print Print Print Print Print Print aexp_step alt_step decl_step exp_step locals_step open_operand_step operand_step rhs_step where_part_step alt_guard_step alt_item_step alts_step decl_item_step decls_step guard_step next_operand_step operands_step part_step redef_step redef_item_step redefs_step x

redefs_step_whole : (y : exps_nodes Redefs-F) → Whole (redefs_prints (redefs_trees y)).flat
redefs_step_whole y = closed_block y.open y.close (semis_inside y.before) (inside_nodes redef_item y.redefs)

redefs_layer : (x : exps_trees Redefs-F) (y : exps_nodes Redefs-F) → redefs_trees y ≡ x → Whole (redefs (roll-Redefs x)).flat
redefs_layer x y is = subst (λ z. Whole (redefs (roll-Redefs z)).flat) is (whole_by (redefs_rolled (redefs_trees y)) (redefs_step_whole y))

pub whole_decl : (x : Decl) → Whole (decl x).flat
whole_decl = ind-Decl (λ x. Whole (aexp x).flat) (λ x. Whole (alt x).flat) (λ x. Whole (decl x).flat) (λ x. Whole (exp x).flat) (λ x. Whole (locals x).flat) (λ x. Whole (open_operand x).flat) (λ x. Whole (operand x).flat) (λ x. Whole (rhs x).flat) (λ x. Whole (where_part x).flat) (λ x. Whole (alt_guard x).flat) (λ x. Inside (alt_item x).flat) (λ x. Whole (alts x).flat) (λ x. Inside (decl_item x).flat) (λ x. Whole (decls x).flat) (λ x. Whole (guard x).flat) (λ x. Whole (next_operand x).flat) (λ x. Whole (operands x).flat) (λ x. Whole (part x).flat) (λ x. Whole (redef x).flat) (λ x. Inside (redef_item x).flat) (λ x. Whole (redefs x).flat) aexp_layer alt_layer decl_layer exp_layer locals_layer open_operand_layer operand_layer rhs_layer where_part_layer alt_guard_layer alt_item_layer alts_layer decl_item_layer decls_layer guard_layer next_operand_layer operands_layer part_layer redef_layer redef_item_layer redefs_layer

pub whole_rhs : (x : Rhs) → Whole (rhs x).flat
whole_rhs = ind-Rhs (λ x. Whole (aexp x).flat) (λ x. Whole (alt x).flat) (λ x. Whole (decl x).flat) (λ x. Whole (exp x).flat) (λ x. Whole (locals x).flat) (λ x. Whole (open_operand x).flat) (λ x. Whole (operand x).flat) (λ x. Whole (rhs x).flat) (λ x. Whole (where_part x).flat) (λ x. Whole (alt_guard x).flat) (λ x. Inside (alt_item x).flat) (λ x. Whole (alts x).flat) (λ x. Inside (decl_item x).flat) (λ x. Whole (decls x).flat) (λ x. Whole (guard x).flat) (λ x. Whole (next_operand x).flat) (λ x. Whole (operands x).flat) (λ x. Whole (part x).flat) (λ x. Whole (redef x).flat) (λ x. Inside (redef_item x).flat) (λ x. Whole (redefs x).flat) aexp_layer alt_layer decl_layer exp_layer locals_layer open_operand_layer operand_layer rhs_layer where_part_layer alt_guard_layer alt_item_layer alts_layer decl_item_layer decls_layer guard_layer next_operand_layer operands_layer part_layer redef_layer redef_item_layer redefs_layer
