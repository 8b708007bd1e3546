-- Where the rules on declarations fail, node by node.
use Rattle.std.proofs.Common.{◌≡◌, ℕ, List, [], ◌∷◌, ◌++◌, map, Option, sym, ap, ◌∙◌}
use Rattle.std.specs.List.{flat_map}
use Rattle.std.proofs.lemmas.List.Folds.{flat_map-map}
use Rattle.gh_base.specs.declared.place.Span.{Span}
use Rattle.gh_tree.specs.declared.names.Var.{Var}
use Rattle.gh_tree.specs.declared.names.Op.{Op}
use Rattle.gh_tree.specs.declared.names.GenCon.{GenCon}
use Rattle.gh_tree.specs.declared.names.FixityWord.{FixityWord}
use Rattle.gh_tree.specs.declared.names.NextVar.{NextVar}
use Rattle.gh_tree.specs.declared.names.NextOp.{NextOp}
use Rattle.gh_tree.specs.declared.types.TypeExpr.{TypeExpr}
use Rattle.gh_tree.specs.declared.patterns.ArgPattern.{ArgPattern}
use Rattle.gh_tree.specs.declared.patterns.Pattern.{Pattern}
use Rattle.gh_tree.specs.declared.patterns.FunLhs.{FunLhs}
use Rattle.gh_tree.specs.declared.expressions.Aexp.{Aexp, fold-roll-Aexp}
use Rattle.gh_tree.specs.declared.expressions.Aexp.TheVariants as v_Aexp
use Rattle.gh_tree.specs.declared.expressions.Alt.{fold-roll-Alt}
use Rattle.gh_tree.specs.declared.expressions.Alt.TheVariants as v_Alt
use Rattle.gh_tree.specs.declared.expressions.Decl.{fold-roll-Decl}
use Rattle.gh_tree.specs.declared.expressions.Decl.TheVariants as v_Decl
use Rattle.gh_tree.specs.declared.expressions.Exp.{Exp, fold-roll-Exp}
use Rattle.gh_tree.specs.declared.expressions.Exp.TheVariants as v_Exp
use Rattle.gh_tree.specs.declared.expressions.Locals.{Locals, fold-roll-Locals}
use Rattle.gh_tree.specs.declared.expressions.Locals.TheVariants as v_Locals
use Rattle.gh_tree.specs.declared.expressions.Open.{Open, fold-roll-Open}
use Rattle.gh_tree.specs.declared.expressions.Open.TheVariants as v_Open
use Rattle.gh_tree.specs.declared.expressions.Operand.{fold-roll-Operand}
use Rattle.gh_tree.specs.declared.expressions.Operand.TheVariants as v_Operand
use Rattle.gh_tree.specs.declared.expressions.Rhs.{Rhs, fold-roll-Rhs}
use Rattle.gh_tree.specs.declared.expressions.Rhs.TheVariants as v_Rhs
use Rattle.gh_tree.specs.declared.expressions.Where.{Where, fold-roll-Where}
use Rattle.gh_tree.specs.declared.expressions.Where.TheVariants as v_Where
use Rattle.gh_tree.specs.declared.expressions.AltGuard.{AltGuard, out-AltGuard, fold_out-AltGuard}
use Rattle.gh_tree.specs.declared.expressions.AltItem.{AltItem, out-AltItem, fold_out-AltItem}
use Rattle.gh_tree.specs.declared.expressions.Alts.{Alts, out-Alts, fold_out-Alts}
use Rattle.gh_tree.specs.declared.expressions.DeclItem.{DeclItem, out-DeclItem, fold_out-DeclItem}
use Rattle.gh_tree.specs.declared.expressions.Decls.{Decls, out-Decls, fold_out-Decls}
use Rattle.gh_tree.specs.declared.expressions.Guard.{Guard, out-Guard, fold_out-Guard}
use Rattle.gh_tree.specs.declared.expressions.NextOperand.{NextOperand, out-NextOperand, fold_out-NextOperand}
use Rattle.gh_tree.specs.declared.expressions.OperandList.{OperandList, out-OperandList, fold_out-OperandList}
use Rattle.gh_tree.specs.declared.expressions.Part.{Part, out-Part, fold_out-Part}
use Rattle.gh_tree.specs.declared.expressions.Redef.{Redef, out-Redef, fold_out-Redef}
use Rattle.gh_tree.specs.declared.expressions.RedefItem.{RedefItem, out-RedefItem, fold_out-RedefItem}
use Rattle.gh_tree.specs.declared.expressions.Redefs.{Redefs, out-Redefs, fold_out-Redefs}
use Rattle.gh_tree.specs.declared.expressions.Aexp.TheOpen.{Aexp-F, Alt-F, Decl-F, Exp-F, Locals-F, Open-F, Operand-F, Rhs-F, Where-F}
use Rattle.gh_declarations.specs.declared.named.Declared.TheVariants as declares
use Rattle.gh_declarations.specs.declared.named.Failure.{Failure}
use Rattle.gh_declarations.specs.Lists.{list_failures, repeated}
use Rattle.gh_declarations.specs.Patterns.{pattern_variables, left_variables}
use Rattle.gh_declarations.specs.Inside.{Found, signed, next_signed, fixed, next_fixed, a_value, clause_of, lambda_variables, declared_at, inside_at, aexp_failures, alt_failures, decl_found, exp_failures, locals_failures, open_failures, operand_failures, rhs_failures, where_failures, alt_guard_failures, alt_item_failures, alts_failures, decl_item_found, decls_failures, guard_failures, next_operand_failures, operands_failures, part_failures, redef_failures, redef_item_failures, redefs_failures, aexp_step, alt_step, decl_step, exp_step, locals_step, open_step, operand_step, rhs_step, where_step, alt_guard_step, alt_item_step, alts_step, decl_item_step, decls_step, guard_step, next_operand_step, operands_step, part_step, redef_step, redef_item_step, redefs_step}

pub aexp_var : (x0 : Var) → aexp_failures (v_Aexp.Var x0) ≡ []
unfolding aexp_failures alt_failures decl_found exp_failures locals_failures open_failures operand_failures rhs_failures where_failures alt_guard_failures alt_item_failures alts_failures decl_item_found decls_failures guard_failures next_operand_failures operands_failures part_failures redef_failures redef_item_failures redefs_failures
aexp_var x0 = ap aexp_failures (sym (v_Aexp.rolls-Var x0)) ∙ fold-roll-Aexp (List Failure) (List Failure) Found (List Failure) (List Failure) (List Failure) (List Failure) (List Failure) (List Failure) (List Failure) (List Failure) (List Failure) Found (List Failure) (List Failure) (List Failure) (List Failure) (List Failure) (List Failure) (List Failure) (List Failure) aexp_step alt_step decl_step exp_step locals_step open_step operand_step rhs_step where_step alt_guard_step alt_item_step alts_step decl_item_step decls_step guard_step next_operand_step operands_step part_step redef_step redef_item_step redefs_step (Aexp-F.Var x0)

pub aexp_generic : (x0 : Span) (x1 : Var) (x2 : Span) (x3 : TypeExpr) (x4 : Span) → aexp_failures (v_Aexp.Generic x0 x1 x2 x3 x4) ≡ []
unfolding aexp_failures alt_failures decl_found exp_failures locals_failures open_failures operand_failures rhs_failures where_failures alt_guard_failures alt_item_failures alts_failures decl_item_found decls_failures guard_failures next_operand_failures operands_failures part_failures redef_failures redef_item_failures redefs_failures
aexp_generic x0 x1 x2 x3 x4 = ap aexp_failures (sym (v_Aexp.rolls-Generic x0 x1 x2 x3 x4)) ∙ fold-roll-Aexp (List Failure) (List Failure) Found (List Failure) (List Failure) (List Failure) (List Failure) (List Failure) (List Failure) (List Failure) (List Failure) (List Failure) Found (List Failure) (List Failure) (List Failure) (List Failure) (List Failure) (List Failure) (List Failure) (List Failure) aexp_step alt_step decl_step exp_step locals_step open_step operand_step rhs_step where_step alt_guard_step alt_item_step alts_step decl_item_step decls_step guard_step next_operand_step operands_step part_step redef_step redef_item_step redefs_step (Aexp-F.Generic x0 x1 x2 x3 x4)

pub aexp_con : (x0 : GenCon) → aexp_failures (v_Aexp.Con x0) ≡ []
unfolding aexp_failures alt_failures decl_found exp_failures locals_failures open_failures operand_failures rhs_failures where_failures alt_guard_failures alt_item_failures alts_failures decl_item_found decls_failures guard_failures next_operand_failures operands_failures part_failures redef_failures redef_item_failures redefs_failures
aexp_con x0 = ap aexp_failures (sym (v_Aexp.rolls-Con x0)) ∙ fold-roll-Aexp (List Failure) (List Failure) Found (List Failure) (List Failure) (List Failure) (List Failure) (List Failure) (List Failure) (List Failure) (List Failure) (List Failure) Found (List Failure) (List Failure) (List Failure) (List Failure) (List Failure) (List Failure) (List Failure) (List Failure) aexp_step alt_step decl_step exp_step locals_step open_step operand_step rhs_step where_step alt_guard_step alt_item_step alts_step decl_item_step decls_step guard_step next_operand_step operands_step part_step redef_step redef_item_step redefs_step (Aexp-F.Con x0)

pub aexp_int : (x0 : Span) (x1 : ℕ) → aexp_failures (v_Aexp.Int x0 x1) ≡ []
unfolding aexp_failures alt_failures decl_found exp_failures locals_failures open_failures operand_failures rhs_failures where_failures alt_guard_failures alt_item_failures alts_failures decl_item_found decls_failures guard_failures next_operand_failures operands_failures part_failures redef_failures redef_item_failures redefs_failures
aexp_int x0 x1 = ap aexp_failures (sym (v_Aexp.rolls-Int x0 x1)) ∙ fold-roll-Aexp (List Failure) (List Failure) Found (List Failure) (List Failure) (List Failure) (List Failure) (List Failure) (List Failure) (List Failure) (List Failure) (List Failure) Found (List Failure) (List Failure) (List Failure) (List Failure) (List Failure) (List Failure) (List Failure) (List Failure) aexp_step alt_step decl_step exp_step locals_step open_step operand_step rhs_step where_step alt_guard_step alt_item_step alts_step decl_item_step decls_step guard_step next_operand_step operands_step part_step redef_step redef_item_step redefs_step (Aexp-F.Int x0 x1)

pub aexp_char : (x0 : Span) (x1 : ℕ) → aexp_failures (v_Aexp.Char x0 x1) ≡ []
unfolding aexp_failures alt_failures decl_found exp_failures locals_failures open_failures operand_failures rhs_failures where_failures alt_guard_failures alt_item_failures alts_failures decl_item_found decls_failures guard_failures next_operand_failures operands_failures part_failures redef_failures redef_item_failures redefs_failures
aexp_char x0 x1 = ap aexp_failures (sym (v_Aexp.rolls-Char x0 x1)) ∙ fold-roll-Aexp (List Failure) (List Failure) Found (List Failure) (List Failure) (List Failure) (List Failure) (List Failure) (List Failure) (List Failure) (List Failure) (List Failure) Found (List Failure) (List Failure) (List Failure) (List Failure) (List Failure) (List Failure) (List Failure) (List Failure) aexp_step alt_step decl_step exp_step locals_step open_step operand_step rhs_step where_step alt_guard_step alt_item_step alts_step decl_item_step decls_step guard_step next_operand_step operands_step part_step redef_step redef_item_step redefs_step (Aexp-F.Char x0 x1)

pub aexp_str : (x0 : Span) (x1 : List ℕ) → aexp_failures (v_Aexp.Str x0 x1) ≡ []
unfolding aexp_failures alt_failures decl_found exp_failures locals_failures open_failures operand_failures rhs_failures where_failures alt_guard_failures alt_item_failures alts_failures decl_item_found decls_failures guard_failures next_operand_failures operands_failures part_failures redef_failures redef_item_failures redefs_failures
aexp_str x0 x1 = ap aexp_failures (sym (v_Aexp.rolls-Str x0 x1)) ∙ fold-roll-Aexp (List Failure) (List Failure) Found (List Failure) (List Failure) (List Failure) (List Failure) (List Failure) (List Failure) (List Failure) (List Failure) (List Failure) Found (List Failure) (List Failure) (List Failure) (List Failure) (List Failure) (List Failure) (List Failure) (List Failure) aexp_step alt_step decl_step exp_step locals_step open_step operand_step rhs_step where_step alt_guard_step alt_item_step alts_step decl_item_step decls_step guard_step next_operand_step operands_step part_step redef_step redef_item_step redefs_step (Aexp-F.Str x0 x1)

pub aexp_paren : (x0 : Span) (x1 : Span) (x2 : Exp) (x3 : Span) → aexp_failures (v_Aexp.Paren x0 x1 x2 x3) ≡ exp_failures x2
unfolding aexp_failures alt_failures decl_found exp_failures locals_failures open_failures operand_failures rhs_failures where_failures alt_guard_failures alt_item_failures alts_failures decl_item_found decls_failures guard_failures next_operand_failures operands_failures part_failures redef_failures redef_item_failures redefs_failures
aexp_paren x0 x1 x2 x3 = ap aexp_failures (sym (v_Aexp.rolls-Paren x0 x1 x2 x3)) ∙ fold-roll-Aexp (List Failure) (List Failure) Found (List Failure) (List Failure) (List Failure) (List Failure) (List Failure) (List Failure) (List Failure) (List Failure) (List Failure) Found (List Failure) (List Failure) (List Failure) (List Failure) (List Failure) (List Failure) (List Failure) (List Failure) aexp_step alt_step decl_step exp_step locals_step open_step operand_step rhs_step where_step alt_guard_step alt_item_step alts_step decl_item_step decls_step guard_step next_operand_step operands_step part_step redef_step redef_item_step redefs_step (Aexp-F.Paren x0 x1 x2 x3)

pub aexp_tuple : (x0 : Span) (x1 : Span) (x2 : Exp) (x3 : List Part) (x4 : Span) → aexp_failures (v_Aexp.Tuple x0 x1 x2 x3 x4) ≡ exp_failures x2 ++ flat_map part_failures x3
unfolding aexp_failures alt_failures decl_found exp_failures locals_failures open_failures operand_failures rhs_failures where_failures alt_guard_failures alt_item_failures alts_failures decl_item_found decls_failures guard_failures next_operand_failures operands_failures part_failures redef_failures redef_item_failures redefs_failures
aexp_tuple x0 x1 x2 x3 x4 = ap aexp_failures (sym (v_Aexp.rolls-Tuple x0 x1 x2 x3 x4)) ∙ fold-roll-Aexp (List Failure) (List Failure) Found (List Failure) (List Failure) (List Failure) (List Failure) (List Failure) (List Failure) (List Failure) (List Failure) (List Failure) Found (List Failure) (List Failure) (List Failure) (List Failure) (List Failure) (List Failure) (List Failure) (List Failure) aexp_step alt_step decl_step exp_step locals_step open_step operand_step rhs_step where_step alt_guard_step alt_item_step alts_step decl_item_step decls_step guard_step next_operand_step operands_step part_step redef_step redef_item_step redefs_step (Aexp-F.Tuple x0 x1 x2 x3 x4) ∙ ap (λ l. exp_failures x2 ++ l) (flat_map-map (λ f. f) part_failures x3)

pub aexp_list : (x0 : Span) (x1 : Span) (x2 : Exp) (x3 : List Part) (x4 : Span) → aexp_failures (v_Aexp.List x0 x1 x2 x3 x4) ≡ exp_failures x2 ++ flat_map part_failures x3
unfolding aexp_failures alt_failures decl_found exp_failures locals_failures open_failures operand_failures rhs_failures where_failures alt_guard_failures alt_item_failures alts_failures decl_item_found decls_failures guard_failures next_operand_failures operands_failures part_failures redef_failures redef_item_failures redefs_failures
aexp_list x0 x1 x2 x3 x4 = ap aexp_failures (sym (v_Aexp.rolls-List x0 x1 x2 x3 x4)) ∙ fold-roll-Aexp (List Failure) (List Failure) Found (List Failure) (List Failure) (List Failure) (List Failure) (List Failure) (List Failure) (List Failure) (List Failure) (List Failure) Found (List Failure) (List Failure) (List Failure) (List Failure) (List Failure) (List Failure) (List Failure) (List Failure) aexp_step alt_step decl_step exp_step locals_step open_step operand_step rhs_step where_step alt_guard_step alt_item_step alts_step decl_item_step decls_step guard_step next_operand_step operands_step part_step redef_step redef_item_step redefs_step (Aexp-F.List x0 x1 x2 x3 x4) ∙ ap (λ l. exp_failures x2 ++ l) (flat_map-map (λ f. f) part_failures x3)

pub aexp_left : (x0 : Span) (x1 : Span) (x2 : OperandList) (x3 : Op) (x4 : Span) → aexp_failures (v_Aexp.Left x0 x1 x2 x3 x4) ≡ operands_failures x2
unfolding aexp_failures alt_failures decl_found exp_failures locals_failures open_failures operand_failures rhs_failures where_failures alt_guard_failures alt_item_failures alts_failures decl_item_found decls_failures guard_failures next_operand_failures operands_failures part_failures redef_failures redef_item_failures redefs_failures
aexp_left x0 x1 x2 x3 x4 = ap aexp_failures (sym (v_Aexp.rolls-Left x0 x1 x2 x3 x4)) ∙ fold-roll-Aexp (List Failure) (List Failure) Found (List Failure) (List Failure) (List Failure) (List Failure) (List Failure) (List Failure) (List Failure) (List Failure) (List Failure) Found (List Failure) (List Failure) (List Failure) (List Failure) (List Failure) (List Failure) (List Failure) (List Failure) aexp_step alt_step decl_step exp_step locals_step open_step operand_step rhs_step where_step alt_guard_step alt_item_step alts_step decl_item_step decls_step guard_step next_operand_step operands_step part_step redef_step redef_item_step redefs_step (Aexp-F.Left x0 x1 x2 x3 x4)

pub aexp_right : (x0 : Span) (x1 : Span) (x2 : Op) (x3 : OperandList) (x4 : Span) → aexp_failures (v_Aexp.Right x0 x1 x2 x3 x4) ≡ operands_failures x3
unfolding aexp_failures alt_failures decl_found exp_failures locals_failures open_failures operand_failures rhs_failures where_failures alt_guard_failures alt_item_failures alts_failures decl_item_found decls_failures guard_failures next_operand_failures operands_failures part_failures redef_failures redef_item_failures redefs_failures
aexp_right x0 x1 x2 x3 x4 = ap aexp_failures (sym (v_Aexp.rolls-Right x0 x1 x2 x3 x4)) ∙ fold-roll-Aexp (List Failure) (List Failure) Found (List Failure) (List Failure) (List Failure) (List Failure) (List Failure) (List Failure) (List Failure) (List Failure) (List Failure) Found (List Failure) (List Failure) (List Failure) (List Failure) (List Failure) (List Failure) (List Failure) (List Failure) aexp_step alt_step decl_step exp_step locals_step open_step operand_step rhs_step where_step alt_guard_step alt_item_step alts_step decl_item_step decls_step guard_step next_operand_step operands_step part_step redef_step redef_item_step redefs_step (Aexp-F.Right x0 x1 x2 x3 x4)

pub alt_plain : (x0 : Span) (x1 : Pattern) (x2 : Span) (x3 : Exp) (x4 : Where) → alt_failures (v_Alt.Plain x0 x1 x2 x3 x4) ≡ repeated (pattern_variables x1) ++ (exp_failures x3 ++ where_failures x4)
unfolding aexp_failures alt_failures decl_found exp_failures locals_failures open_failures operand_failures rhs_failures where_failures alt_guard_failures alt_item_failures alts_failures decl_item_found decls_failures guard_failures next_operand_failures operands_failures part_failures redef_failures redef_item_failures redefs_failures
alt_plain x0 x1 x2 x3 x4 = ap alt_failures (sym (v_Alt.rolls-Plain x0 x1 x2 x3 x4)) ∙ fold-roll-Alt (List Failure) (List Failure) Found (List Failure) (List Failure) (List Failure) (List Failure) (List Failure) (List Failure) (List Failure) (List Failure) (List Failure) Found (List Failure) (List Failure) (List Failure) (List Failure) (List Failure) (List Failure) (List Failure) (List Failure) aexp_step alt_step decl_step exp_step locals_step open_step operand_step rhs_step where_step alt_guard_step alt_item_step alts_step decl_item_step decls_step guard_step next_operand_step operands_step part_step redef_step redef_item_step redefs_step (Alt-F.Alt::Plain x0 x1 x2 x3 x4)

pub alt_guarded : (x0 : Span) (x1 : Pattern) (x2 : AltGuard) (x3 : List AltGuard) (x4 : Where) → alt_failures (v_Alt.Guarded x0 x1 x2 x3 x4) ≡ repeated (pattern_variables x1) ++ (alt_guard_failures x2 ++ (flat_map alt_guard_failures x3 ++ where_failures x4))
unfolding aexp_failures alt_failures decl_found exp_failures locals_failures open_failures operand_failures rhs_failures where_failures alt_guard_failures alt_item_failures alts_failures decl_item_found decls_failures guard_failures next_operand_failures operands_failures part_failures redef_failures redef_item_failures redefs_failures
alt_guarded x0 x1 x2 x3 x4 = ap alt_failures (sym (v_Alt.rolls-Guarded x0 x1 x2 x3 x4)) ∙ fold-roll-Alt (List Failure) (List Failure) Found (List Failure) (List Failure) (List Failure) (List Failure) (List Failure) (List Failure) (List Failure) (List Failure) (List Failure) Found (List Failure) (List Failure) (List Failure) (List Failure) (List Failure) (List Failure) (List Failure) (List Failure) aexp_step alt_step decl_step exp_step locals_step open_step operand_step rhs_step where_step alt_guard_step alt_item_step alts_step decl_item_step decls_step guard_step next_operand_step operands_step part_step redef_step redef_item_step redefs_step (Alt-F.Alt::Guarded x0 x1 x2 x3 x4) ∙ ap (λ l. repeated (pattern_variables x1) ++ (alt_guard_failures x2 ++ (l ++ where_failures x4))) (flat_map-map (λ f. f) alt_guard_failures x3)

pub exp_plain : (x0 : OperandList) → exp_failures (v_Exp.Plain x0) ≡ operands_failures x0
unfolding aexp_failures alt_failures decl_found exp_failures locals_failures open_failures operand_failures rhs_failures where_failures alt_guard_failures alt_item_failures alts_failures decl_item_found decls_failures guard_failures next_operand_failures operands_failures part_failures redef_failures redef_item_failures redefs_failures
exp_plain x0 = ap exp_failures (sym (v_Exp.rolls-Plain x0)) ∙ fold-roll-Exp (List Failure) (List Failure) Found (List Failure) (List Failure) (List Failure) (List Failure) (List Failure) (List Failure) (List Failure) (List Failure) (List Failure) Found (List Failure) (List Failure) (List Failure) (List Failure) (List Failure) (List Failure) (List Failure) (List Failure) aexp_step alt_step decl_step exp_step locals_step open_step operand_step rhs_step where_step alt_guard_step alt_item_step alts_step decl_item_step decls_step guard_step next_operand_step operands_step part_step redef_step redef_item_step redefs_step (Exp-F.Exp::Plain x0)

pub exp_typed : (x0 : Span) (x1 : OperandList) (x2 : Span) (x3 : TypeExpr) → exp_failures (v_Exp.Typed x0 x1 x2 x3) ≡ operands_failures x1
unfolding aexp_failures alt_failures decl_found exp_failures locals_failures open_failures operand_failures rhs_failures where_failures alt_guard_failures alt_item_failures alts_failures decl_item_found decls_failures guard_failures next_operand_failures operands_failures part_failures redef_failures redef_item_failures redefs_failures
exp_typed x0 x1 x2 x3 = ap exp_failures (sym (v_Exp.rolls-Typed x0 x1 x2 x3)) ∙ fold-roll-Exp (List Failure) (List Failure) Found (List Failure) (List Failure) (List Failure) (List Failure) (List Failure) (List Failure) (List Failure) (List Failure) (List Failure) Found (List Failure) (List Failure) (List Failure) (List Failure) (List Failure) (List Failure) (List Failure) (List Failure) aexp_step alt_step decl_step exp_step locals_step open_step operand_step rhs_step where_step alt_guard_step alt_item_step alts_step decl_item_step decls_step guard_step next_operand_step operands_step part_step redef_step redef_item_step redefs_step (Exp-F.Typed x0 x1 x2 x3)

pub locals_decls : (x0 : Decls) → locals_failures (v_Locals.Decls x0) ≡ decls_failures x0
unfolding aexp_failures alt_failures decl_found exp_failures locals_failures open_failures operand_failures rhs_failures where_failures alt_guard_failures alt_item_failures alts_failures decl_item_found decls_failures guard_failures next_operand_failures operands_failures part_failures redef_failures redef_item_failures redefs_failures
locals_decls x0 = ap locals_failures (sym (v_Locals.rolls-Decls x0)) ∙ fold-roll-Locals (List Failure) (List Failure) Found (List Failure) (List Failure) (List Failure) (List Failure) (List Failure) (List Failure) (List Failure) (List Failure) (List Failure) Found (List Failure) (List Failure) (List Failure) (List Failure) (List Failure) (List Failure) (List Failure) (List Failure) aexp_step alt_step decl_step exp_step locals_step open_step operand_step rhs_step where_step alt_guard_step alt_item_step alts_step decl_item_step decls_step guard_step next_operand_step operands_step part_step redef_step redef_item_step redefs_step (Locals-F.Decls x0)

pub locals_redefs : (x0 : Redefs) → locals_failures (v_Locals.Redefs x0) ≡ redefs_failures x0
unfolding aexp_failures alt_failures decl_found exp_failures locals_failures open_failures operand_failures rhs_failures where_failures alt_guard_failures alt_item_failures alts_failures decl_item_found decls_failures guard_failures next_operand_failures operands_failures part_failures redef_failures redef_item_failures redefs_failures
locals_redefs x0 = ap locals_failures (sym (v_Locals.rolls-Redefs x0)) ∙ fold-roll-Locals (List Failure) (List Failure) Found (List Failure) (List Failure) (List Failure) (List Failure) (List Failure) (List Failure) (List Failure) (List Failure) (List Failure) Found (List Failure) (List Failure) (List Failure) (List Failure) (List Failure) (List Failure) (List Failure) (List Failure) aexp_step alt_step decl_step exp_step locals_step open_step operand_step rhs_step where_step alt_guard_step alt_item_step alts_step decl_item_step decls_step guard_step next_operand_step operands_step part_step redef_step redef_item_step redefs_step (Locals-F.Redefs x0)

pub open_lambda : (x0 : Span) (x1 : Span) (x2 : ArgPattern) (x3 : List ArgPattern) (x4 : Span) (x5 : Exp) → open_failures (v_Open.Lambda x0 x1 x2 x3 x4 x5) ≡ repeated (lambda_variables x2 x3) ++ exp_failures x5
unfolding aexp_failures alt_failures decl_found exp_failures locals_failures open_failures operand_failures rhs_failures where_failures alt_guard_failures alt_item_failures alts_failures decl_item_found decls_failures guard_failures next_operand_failures operands_failures part_failures redef_failures redef_item_failures redefs_failures
open_lambda x0 x1 x2 x3 x4 x5 = ap open_failures (sym (v_Open.rolls-Lambda x0 x1 x2 x3 x4 x5)) ∙ fold-roll-Open (List Failure) (List Failure) Found (List Failure) (List Failure) (List Failure) (List Failure) (List Failure) (List Failure) (List Failure) (List Failure) (List Failure) Found (List Failure) (List Failure) (List Failure) (List Failure) (List Failure) (List Failure) (List Failure) (List Failure) aexp_step alt_step decl_step exp_step locals_step open_step operand_step rhs_step where_step alt_guard_step alt_item_step alts_step decl_item_step decls_step guard_step next_operand_step operands_step part_step redef_step redef_item_step redefs_step (Open-F.Lambda x0 x1 x2 x3 x4 x5)

pub open_let : (x0 : Span) (x1 : Span) (x2 : Locals) (x3 : Span) (x4 : Exp) → open_failures (v_Open.Let x0 x1 x2 x3 x4) ≡ locals_failures x2 ++ exp_failures x4
unfolding aexp_failures alt_failures decl_found exp_failures locals_failures open_failures operand_failures rhs_failures where_failures alt_guard_failures alt_item_failures alts_failures decl_item_found decls_failures guard_failures next_operand_failures operands_failures part_failures redef_failures redef_item_failures redefs_failures
open_let x0 x1 x2 x3 x4 = ap open_failures (sym (v_Open.rolls-Let x0 x1 x2 x3 x4)) ∙ fold-roll-Open (List Failure) (List Failure) Found (List Failure) (List Failure) (List Failure) (List Failure) (List Failure) (List Failure) (List Failure) (List Failure) (List Failure) Found (List Failure) (List Failure) (List Failure) (List Failure) (List Failure) (List Failure) (List Failure) (List Failure) aexp_step alt_step decl_step exp_step locals_step open_step operand_step rhs_step where_step alt_guard_step alt_item_step alts_step decl_item_step decls_step guard_step next_operand_step operands_step part_step redef_step redef_item_step redefs_step (Open-F.Let x0 x1 x2 x3 x4)

pub open_if : (x0 : Span) (x1 : Span) (x2 : Exp) (x3 : Span) (x4 : Exp) (x5 : Span) (x6 : Exp) → open_failures (v_Open.If x0 x1 x2 x3 x4 x5 x6) ≡ exp_failures x2 ++ (exp_failures x4 ++ exp_failures x6)
unfolding aexp_failures alt_failures decl_found exp_failures locals_failures open_failures operand_failures rhs_failures where_failures alt_guard_failures alt_item_failures alts_failures decl_item_found decls_failures guard_failures next_operand_failures operands_failures part_failures redef_failures redef_item_failures redefs_failures
open_if x0 x1 x2 x3 x4 x5 x6 = ap open_failures (sym (v_Open.rolls-If x0 x1 x2 x3 x4 x5 x6)) ∙ fold-roll-Open (List Failure) (List Failure) Found (List Failure) (List Failure) (List Failure) (List Failure) (List Failure) (List Failure) (List Failure) (List Failure) (List Failure) Found (List Failure) (List Failure) (List Failure) (List Failure) (List Failure) (List Failure) (List Failure) (List Failure) aexp_step alt_step decl_step exp_step locals_step open_step operand_step rhs_step where_step alt_guard_step alt_item_step alts_step decl_item_step decls_step guard_step next_operand_step operands_step part_step redef_step redef_item_step redefs_step (Open-F.If x0 x1 x2 x3 x4 x5 x6)

pub operand_apply : (x0 : Span) (x1 : Aexp) (x2 : List Aexp) → operand_failures (v_Operand.Apply x0 x1 x2) ≡ aexp_failures x1 ++ flat_map aexp_failures x2
unfolding aexp_failures alt_failures decl_found exp_failures locals_failures open_failures operand_failures rhs_failures where_failures alt_guard_failures alt_item_failures alts_failures decl_item_found decls_failures guard_failures next_operand_failures operands_failures part_failures redef_failures redef_item_failures redefs_failures
operand_apply x0 x1 x2 = ap operand_failures (sym (v_Operand.rolls-Apply x0 x1 x2)) ∙ fold-roll-Operand (List Failure) (List Failure) Found (List Failure) (List Failure) (List Failure) (List Failure) (List Failure) (List Failure) (List Failure) (List Failure) (List Failure) Found (List Failure) (List Failure) (List Failure) (List Failure) (List Failure) (List Failure) (List Failure) (List Failure) aexp_step alt_step decl_step exp_step locals_step open_step operand_step rhs_step where_step alt_guard_step alt_item_step alts_step decl_item_step decls_step guard_step next_operand_step operands_step part_step redef_step redef_item_step redefs_step (Operand-F.Apply x0 x1 x2) ∙ ap (λ l. aexp_failures x1 ++ l) (flat_map-map (λ f. f) aexp_failures x2)

pub operand_case : (x0 : Span) (x1 : Span) (x2 : Exp) (x3 : Span) (x4 : Alts) → operand_failures (v_Operand.Case x0 x1 x2 x3 x4) ≡ exp_failures x2 ++ alts_failures x4
unfolding aexp_failures alt_failures decl_found exp_failures locals_failures open_failures operand_failures rhs_failures where_failures alt_guard_failures alt_item_failures alts_failures decl_item_found decls_failures guard_failures next_operand_failures operands_failures part_failures redef_failures redef_item_failures redefs_failures
operand_case x0 x1 x2 x3 x4 = ap operand_failures (sym (v_Operand.rolls-Case x0 x1 x2 x3 x4)) ∙ fold-roll-Operand (List Failure) (List Failure) Found (List Failure) (List Failure) (List Failure) (List Failure) (List Failure) (List Failure) (List Failure) (List Failure) (List Failure) Found (List Failure) (List Failure) (List Failure) (List Failure) (List Failure) (List Failure) (List Failure) (List Failure) aexp_step alt_step decl_step exp_step locals_step open_step operand_step rhs_step where_step alt_guard_step alt_item_step alts_step decl_item_step decls_step guard_step next_operand_step operands_step part_step redef_step redef_item_step redefs_step (Operand-F.Case x0 x1 x2 x3 x4)

pub operand_open : (x0 : Open) → operand_failures (v_Operand.Open x0) ≡ open_failures x0
unfolding aexp_failures alt_failures decl_found exp_failures locals_failures open_failures operand_failures rhs_failures where_failures alt_guard_failures alt_item_failures alts_failures decl_item_found decls_failures guard_failures next_operand_failures operands_failures part_failures redef_failures redef_item_failures redefs_failures
operand_open x0 = ap operand_failures (sym (v_Operand.rolls-Open x0)) ∙ fold-roll-Operand (List Failure) (List Failure) Found (List Failure) (List Failure) (List Failure) (List Failure) (List Failure) (List Failure) (List Failure) (List Failure) (List Failure) Found (List Failure) (List Failure) (List Failure) (List Failure) (List Failure) (List Failure) (List Failure) (List Failure) aexp_step alt_step decl_step exp_step locals_step open_step operand_step rhs_step where_step alt_guard_step alt_item_step alts_step decl_item_step decls_step guard_step next_operand_step operands_step part_step redef_step redef_item_step redefs_step (Operand-F.Open x0)

pub rhs_plain : (x0 : Span) (x1 : Span) (x2 : Exp) (x3 : Where) → rhs_failures (v_Rhs.Plain x0 x1 x2 x3) ≡ exp_failures x2 ++ where_failures x3
unfolding aexp_failures alt_failures decl_found exp_failures locals_failures open_failures operand_failures rhs_failures where_failures alt_guard_failures alt_item_failures alts_failures decl_item_found decls_failures guard_failures next_operand_failures operands_failures part_failures redef_failures redef_item_failures redefs_failures
rhs_plain x0 x1 x2 x3 = ap rhs_failures (sym (v_Rhs.rolls-Plain x0 x1 x2 x3)) ∙ fold-roll-Rhs (List Failure) (List Failure) Found (List Failure) (List Failure) (List Failure) (List Failure) (List Failure) (List Failure) (List Failure) (List Failure) (List Failure) Found (List Failure) (List Failure) (List Failure) (List Failure) (List Failure) (List Failure) (List Failure) (List Failure) aexp_step alt_step decl_step exp_step locals_step open_step operand_step rhs_step where_step alt_guard_step alt_item_step alts_step decl_item_step decls_step guard_step next_operand_step operands_step part_step redef_step redef_item_step redefs_step (Rhs-F.Rhs::Plain x0 x1 x2 x3)

pub rhs_guarded : (x0 : Span) (x1 : Guard) (x2 : List Guard) (x3 : Where) → rhs_failures (v_Rhs.Guarded x0 x1 x2 x3) ≡ guard_failures x1 ++ (flat_map guard_failures x2 ++ where_failures x3)
unfolding aexp_failures alt_failures decl_found exp_failures locals_failures open_failures operand_failures rhs_failures where_failures alt_guard_failures alt_item_failures alts_failures decl_item_found decls_failures guard_failures next_operand_failures operands_failures part_failures redef_failures redef_item_failures redefs_failures
rhs_guarded x0 x1 x2 x3 = ap rhs_failures (sym (v_Rhs.rolls-Guarded x0 x1 x2 x3)) ∙ fold-roll-Rhs (List Failure) (List Failure) Found (List Failure) (List Failure) (List Failure) (List Failure) (List Failure) (List Failure) (List Failure) (List Failure) (List Failure) Found (List Failure) (List Failure) (List Failure) (List Failure) (List Failure) (List Failure) (List Failure) (List Failure) aexp_step alt_step decl_step exp_step locals_step open_step operand_step rhs_step where_step alt_guard_step alt_item_step alts_step decl_item_step decls_step guard_step next_operand_step operands_step part_step redef_step redef_item_step redefs_step (Rhs-F.Rhs::Guarded x0 x1 x2 x3) ∙ ap (λ l. guard_failures x1 ++ (l ++ where_failures x3)) (flat_map-map (λ f. f) guard_failures x2)

pub where_absent : where_failures (v_Where.Absent) ≡ []
unfolding aexp_failures alt_failures decl_found exp_failures locals_failures open_failures operand_failures rhs_failures where_failures alt_guard_failures alt_item_failures alts_failures decl_item_found decls_failures guard_failures next_operand_failures operands_failures part_failures redef_failures redef_item_failures redefs_failures
where_absent = ap where_failures (sym (v_Where.rolls-Absent)) ∙ fold-roll-Where (List Failure) (List Failure) Found (List Failure) (List Failure) (List Failure) (List Failure) (List Failure) (List Failure) (List Failure) (List Failure) (List Failure) Found (List Failure) (List Failure) (List Failure) (List Failure) (List Failure) (List Failure) (List Failure) (List Failure) aexp_step alt_step decl_step exp_step locals_step open_step operand_step rhs_step where_step alt_guard_step alt_item_step alts_step decl_item_step decls_step guard_step next_operand_step operands_step part_step redef_step redef_item_step redefs_step (Where-F.Absent)

pub where_block : (x0 : Span) (x1 : Decls) → where_failures (v_Where.Block x0 x1) ≡ decls_failures x1
unfolding aexp_failures alt_failures decl_found exp_failures locals_failures open_failures operand_failures rhs_failures where_failures alt_guard_failures alt_item_failures alts_failures decl_item_found decls_failures guard_failures next_operand_failures operands_failures part_failures redef_failures redef_item_failures redefs_failures
where_block x0 x1 = ap where_failures (sym (v_Where.rolls-Block x0 x1)) ∙ fold-roll-Where (List Failure) (List Failure) Found (List Failure) (List Failure) (List Failure) (List Failure) (List Failure) (List Failure) (List Failure) (List Failure) (List Failure) Found (List Failure) (List Failure) (List Failure) (List Failure) (List Failure) (List Failure) (List Failure) (List Failure) aexp_step alt_step decl_step exp_step locals_step open_step operand_step rhs_step where_step alt_guard_step alt_item_step alts_step decl_item_step decls_step guard_step next_operand_step operands_step part_step redef_step redef_item_step redefs_step (Where-F.Block x0 x1)

pub declared_signature : (x0 : Span) (x1 : Var) (x2 : List NextVar) (x3 : Span) (x4 : TypeExpr) → (decl_found (v_Decl.Signature x0 x1 x2 x3 x4)).declared ≡ signed x1 ∷ map next_signed x2
unfolding aexp_failures alt_failures decl_found exp_failures locals_failures open_failures operand_failures rhs_failures where_failures alt_guard_failures alt_item_failures alts_failures decl_item_found decls_failures guard_failures next_operand_failures operands_failures part_failures redef_failures redef_item_failures redefs_failures
declared_signature x0 x1 x2 x3 x4 = ap (λ (d : Found). d.declared) (ap decl_found (sym (v_Decl.rolls-Signature x0 x1 x2 x3 x4)) ∙ fold-roll-Decl (List Failure) (List Failure) Found (List Failure) (List Failure) (List Failure) (List Failure) (List Failure) (List Failure) (List Failure) (List Failure) (List Failure) Found (List Failure) (List Failure) (List Failure) (List Failure) (List Failure) (List Failure) (List Failure) (List Failure) aexp_step alt_step decl_step exp_step locals_step open_step operand_step rhs_step where_step alt_guard_step alt_item_step alts_step decl_item_step decls_step guard_step next_operand_step operands_step part_step redef_step redef_item_step redefs_step (Decl-F.Signature x0 x1 x2 x3 x4))

pub inside_signature : (x0 : Span) (x1 : Var) (x2 : List NextVar) (x3 : Span) (x4 : TypeExpr) → (decl_found (v_Decl.Signature x0 x1 x2 x3 x4)).inside ≡ []
unfolding aexp_failures alt_failures decl_found exp_failures locals_failures open_failures operand_failures rhs_failures where_failures alt_guard_failures alt_item_failures alts_failures decl_item_found decls_failures guard_failures next_operand_failures operands_failures part_failures redef_failures redef_item_failures redefs_failures
inside_signature x0 x1 x2 x3 x4 = ap (λ (d : Found). d.inside) (ap decl_found (sym (v_Decl.rolls-Signature x0 x1 x2 x3 x4)) ∙ fold-roll-Decl (List Failure) (List Failure) Found (List Failure) (List Failure) (List Failure) (List Failure) (List Failure) (List Failure) (List Failure) (List Failure) (List Failure) Found (List Failure) (List Failure) (List Failure) (List Failure) (List Failure) (List Failure) (List Failure) (List Failure) aexp_step alt_step decl_step exp_step locals_step open_step operand_step rhs_step where_step alt_guard_step alt_item_step alts_step decl_item_step decls_step guard_step next_operand_step operands_step part_step redef_step redef_item_step redefs_step (Decl-F.Signature x0 x1 x2 x3 x4))

pub declared_fixity : (x0 : Span) (x1 : FixityWord) (x2 : Option (Span × ℕ)) (x3 : Op) (x4 : List NextOp) → (decl_found (v_Decl.Fixity x0 x1 x2 x3 x4)).declared ≡ fixed x3 ∷ map next_fixed x4
unfolding aexp_failures alt_failures decl_found exp_failures locals_failures open_failures operand_failures rhs_failures where_failures alt_guard_failures alt_item_failures alts_failures decl_item_found decls_failures guard_failures next_operand_failures operands_failures part_failures redef_failures redef_item_failures redefs_failures
declared_fixity x0 x1 x2 x3 x4 = ap (λ (d : Found). d.declared) (ap decl_found (sym (v_Decl.rolls-Fixity x0 x1 x2 x3 x4)) ∙ fold-roll-Decl (List Failure) (List Failure) Found (List Failure) (List Failure) (List Failure) (List Failure) (List Failure) (List Failure) (List Failure) (List Failure) (List Failure) Found (List Failure) (List Failure) (List Failure) (List Failure) (List Failure) (List Failure) (List Failure) (List Failure) aexp_step alt_step decl_step exp_step locals_step open_step operand_step rhs_step where_step alt_guard_step alt_item_step alts_step decl_item_step decls_step guard_step next_operand_step operands_step part_step redef_step redef_item_step redefs_step (Decl-F.Fixity x0 x1 x2 x3 x4))

pub inside_fixity : (x0 : Span) (x1 : FixityWord) (x2 : Option (Span × ℕ)) (x3 : Op) (x4 : List NextOp) → (decl_found (v_Decl.Fixity x0 x1 x2 x3 x4)).inside ≡ []
unfolding aexp_failures alt_failures decl_found exp_failures locals_failures open_failures operand_failures rhs_failures where_failures alt_guard_failures alt_item_failures alts_failures decl_item_found decls_failures guard_failures next_operand_failures operands_failures part_failures redef_failures redef_item_failures redefs_failures
inside_fixity x0 x1 x2 x3 x4 = ap (λ (d : Found). d.inside) (ap decl_found (sym (v_Decl.rolls-Fixity x0 x1 x2 x3 x4)) ∙ fold-roll-Decl (List Failure) (List Failure) Found (List Failure) (List Failure) (List Failure) (List Failure) (List Failure) (List Failure) (List Failure) (List Failure) (List Failure) Found (List Failure) (List Failure) (List Failure) (List Failure) (List Failure) (List Failure) (List Failure) (List Failure) aexp_step alt_step decl_step exp_step locals_step open_step operand_step rhs_step where_step alt_guard_step alt_item_step alts_step decl_item_step decls_step guard_step next_operand_step operands_step part_step redef_step redef_item_step redefs_step (Decl-F.Fixity x0 x1 x2 x3 x4))

pub declared_function : (x0 : Span) (x1 : FunLhs) (x2 : Rhs) → (decl_found (v_Decl.Function x0 x1 x2)).declared ≡ clause_of x0 x1 ∷ []
unfolding aexp_failures alt_failures decl_found exp_failures locals_failures open_failures operand_failures rhs_failures where_failures alt_guard_failures alt_item_failures alts_failures decl_item_found decls_failures guard_failures next_operand_failures operands_failures part_failures redef_failures redef_item_failures redefs_failures
declared_function x0 x1 x2 = ap (λ (d : Found). d.declared) (ap decl_found (sym (v_Decl.rolls-Function x0 x1 x2)) ∙ fold-roll-Decl (List Failure) (List Failure) Found (List Failure) (List Failure) (List Failure) (List Failure) (List Failure) (List Failure) (List Failure) (List Failure) (List Failure) Found (List Failure) (List Failure) (List Failure) (List Failure) (List Failure) (List Failure) (List Failure) (List Failure) aexp_step alt_step decl_step exp_step locals_step open_step operand_step rhs_step where_step alt_guard_step alt_item_step alts_step decl_item_step decls_step guard_step next_operand_step operands_step part_step redef_step redef_item_step redefs_step (Decl-F.Function x0 x1 x2))

pub inside_function : (x0 : Span) (x1 : FunLhs) (x2 : Rhs) → (decl_found (v_Decl.Function x0 x1 x2)).inside ≡ repeated (left_variables x1) ++ rhs_failures x2
unfolding aexp_failures alt_failures decl_found exp_failures locals_failures open_failures operand_failures rhs_failures where_failures alt_guard_failures alt_item_failures alts_failures decl_item_found decls_failures guard_failures next_operand_failures operands_failures part_failures redef_failures redef_item_failures redefs_failures
inside_function x0 x1 x2 = ap (λ (d : Found). d.inside) (ap decl_found (sym (v_Decl.rolls-Function x0 x1 x2)) ∙ fold-roll-Decl (List Failure) (List Failure) Found (List Failure) (List Failure) (List Failure) (List Failure) (List Failure) (List Failure) (List Failure) (List Failure) (List Failure) Found (List Failure) (List Failure) (List Failure) (List Failure) (List Failure) (List Failure) (List Failure) (List Failure) aexp_step alt_step decl_step exp_step locals_step open_step operand_step rhs_step where_step alt_guard_step alt_item_step alts_step decl_item_step decls_step guard_step next_operand_step operands_step part_step redef_step redef_item_step redefs_step (Decl-F.Function x0 x1 x2))

pub declared_pattern : (x0 : Span) (x1 : Pattern) (x2 : Rhs) → (decl_found (v_Decl.Pattern x0 x1 x2)).declared ≡ declares.Other ∷ map a_value (pattern_variables x1)
unfolding aexp_failures alt_failures decl_found exp_failures locals_failures open_failures operand_failures rhs_failures where_failures alt_guard_failures alt_item_failures alts_failures decl_item_found decls_failures guard_failures next_operand_failures operands_failures part_failures redef_failures redef_item_failures redefs_failures
declared_pattern x0 x1 x2 = ap (λ (d : Found). d.declared) (ap decl_found (sym (v_Decl.rolls-Pattern x0 x1 x2)) ∙ fold-roll-Decl (List Failure) (List Failure) Found (List Failure) (List Failure) (List Failure) (List Failure) (List Failure) (List Failure) (List Failure) (List Failure) (List Failure) Found (List Failure) (List Failure) (List Failure) (List Failure) (List Failure) (List Failure) (List Failure) (List Failure) aexp_step alt_step decl_step exp_step locals_step open_step operand_step rhs_step where_step alt_guard_step alt_item_step alts_step decl_item_step decls_step guard_step next_operand_step operands_step part_step redef_step redef_item_step redefs_step (Decl-F.Pattern x0 x1 x2))

pub inside_pattern : (x0 : Span) (x1 : Pattern) (x2 : Rhs) → (decl_found (v_Decl.Pattern x0 x1 x2)).inside ≡ rhs_failures x2
unfolding aexp_failures alt_failures decl_found exp_failures locals_failures open_failures operand_failures rhs_failures where_failures alt_guard_failures alt_item_failures alts_failures decl_item_found decls_failures guard_failures next_operand_failures operands_failures part_failures redef_failures redef_item_failures redefs_failures
inside_pattern x0 x1 x2 = ap (λ (d : Found). d.inside) (ap decl_found (sym (v_Decl.rolls-Pattern x0 x1 x2)) ∙ fold-roll-Decl (List Failure) (List Failure) Found (List Failure) (List Failure) (List Failure) (List Failure) (List Failure) (List Failure) (List Failure) (List Failure) (List Failure) Found (List Failure) (List Failure) (List Failure) (List Failure) (List Failure) (List Failure) (List Failure) (List Failure) aexp_step alt_step decl_step exp_step locals_step open_step operand_step rhs_step where_step alt_guard_step alt_item_step alts_step decl_item_step decls_step guard_step next_operand_step operands_step part_step redef_step redef_item_step redefs_step (Decl-F.Pattern x0 x1 x2))

pub alt_guard_at : (x : AltGuard) → alt_guard_failures x ≡ operands_failures (out-AltGuard x).test ++ exp_failures (out-AltGuard x).body
unfolding aexp_failures alt_failures decl_found exp_failures locals_failures open_failures operand_failures rhs_failures where_failures alt_guard_failures alt_item_failures alts_failures decl_item_found decls_failures guard_failures next_operand_failures operands_failures part_failures redef_failures redef_item_failures redefs_failures
alt_guard_at x = fold_out-AltGuard (List Failure) (List Failure) Found (List Failure) (List Failure) (List Failure) (List Failure) (List Failure) (List Failure) (List Failure) (List Failure) (List Failure) Found (List Failure) (List Failure) (List Failure) (List Failure) (List Failure) (List Failure) (List Failure) (List Failure) aexp_step alt_step decl_step exp_step locals_step open_step operand_step rhs_step where_step alt_guard_step alt_item_step alts_step decl_item_step decls_step guard_step next_operand_step operands_step part_step redef_step redef_item_step redefs_step x

pub alt_item_at : (x : AltItem) → alt_item_failures x ≡ alt_failures (out-AltItem x).alt
unfolding aexp_failures alt_failures decl_found exp_failures locals_failures open_failures operand_failures rhs_failures where_failures alt_guard_failures alt_item_failures alts_failures decl_item_found decls_failures guard_failures next_operand_failures operands_failures part_failures redef_failures redef_item_failures redefs_failures
alt_item_at x = fold_out-AltItem (List Failure) (List Failure) Found (List Failure) (List Failure) (List Failure) (List Failure) (List Failure) (List Failure) (List Failure) (List Failure) (List Failure) Found (List Failure) (List Failure) (List Failure) (List Failure) (List Failure) (List Failure) (List Failure) (List Failure) aexp_step alt_step decl_step exp_step locals_step open_step operand_step rhs_step where_step alt_guard_step alt_item_step alts_step decl_item_step decls_step guard_step next_operand_step operands_step part_step redef_step redef_item_step redefs_step x

pub alts_at : (x : Alts) → alts_failures x ≡ flat_map alt_item_failures (out-Alts x).alts
unfolding aexp_failures alt_failures decl_found exp_failures locals_failures open_failures operand_failures rhs_failures where_failures alt_guard_failures alt_item_failures alts_failures decl_item_found decls_failures guard_failures next_operand_failures operands_failures part_failures redef_failures redef_item_failures redefs_failures
alts_at x = fold_out-Alts (List Failure) (List Failure) Found (List Failure) (List Failure) (List Failure) (List Failure) (List Failure) (List Failure) (List Failure) (List Failure) (List Failure) Found (List Failure) (List Failure) (List Failure) (List Failure) (List Failure) (List Failure) (List Failure) (List Failure) aexp_step alt_step decl_step exp_step locals_step open_step operand_step rhs_step where_step alt_guard_step alt_item_step alts_step decl_item_step decls_step guard_step next_operand_step operands_step part_step redef_step redef_item_step redefs_step x ∙ flat_map-map (λ f. f) alt_item_failures (out-Alts x).alts

pub guard_at : (x : Guard) → guard_failures x ≡ operands_failures (out-Guard x).test ++ exp_failures (out-Guard x).body
unfolding aexp_failures alt_failures decl_found exp_failures locals_failures open_failures operand_failures rhs_failures where_failures alt_guard_failures alt_item_failures alts_failures decl_item_found decls_failures guard_failures next_operand_failures operands_failures part_failures redef_failures redef_item_failures redefs_failures
guard_at x = fold_out-Guard (List Failure) (List Failure) Found (List Failure) (List Failure) (List Failure) (List Failure) (List Failure) (List Failure) (List Failure) (List Failure) (List Failure) Found (List Failure) (List Failure) (List Failure) (List Failure) (List Failure) (List Failure) (List Failure) (List Failure) aexp_step alt_step decl_step exp_step locals_step open_step operand_step rhs_step where_step alt_guard_step alt_item_step alts_step decl_item_step decls_step guard_step next_operand_step operands_step part_step redef_step redef_item_step redefs_step x

pub next_operand_at : (x : NextOperand) → next_operand_failures x ≡ operand_failures (out-NextOperand x).operand
unfolding aexp_failures alt_failures decl_found exp_failures locals_failures open_failures operand_failures rhs_failures where_failures alt_guard_failures alt_item_failures alts_failures decl_item_found decls_failures guard_failures next_operand_failures operands_failures part_failures redef_failures redef_item_failures redefs_failures
next_operand_at x = fold_out-NextOperand (List Failure) (List Failure) Found (List Failure) (List Failure) (List Failure) (List Failure) (List Failure) (List Failure) (List Failure) (List Failure) (List Failure) Found (List Failure) (List Failure) (List Failure) (List Failure) (List Failure) (List Failure) (List Failure) (List Failure) aexp_step alt_step decl_step exp_step locals_step open_step operand_step rhs_step where_step alt_guard_step alt_item_step alts_step decl_item_step decls_step guard_step next_operand_step operands_step part_step redef_step redef_item_step redefs_step x

pub operands_at : (x : OperandList) → operands_failures x ≡ operand_failures (out-OperandList x).first ++ flat_map next_operand_failures (out-OperandList x).others
unfolding aexp_failures alt_failures decl_found exp_failures locals_failures open_failures operand_failures rhs_failures where_failures alt_guard_failures alt_item_failures alts_failures decl_item_found decls_failures guard_failures next_operand_failures operands_failures part_failures redef_failures redef_item_failures redefs_failures
operands_at x = fold_out-OperandList (List Failure) (List Failure) Found (List Failure) (List Failure) (List Failure) (List Failure) (List Failure) (List Failure) (List Failure) (List Failure) (List Failure) Found (List Failure) (List Failure) (List Failure) (List Failure) (List Failure) (List Failure) (List Failure) (List Failure) aexp_step alt_step decl_step exp_step locals_step open_step operand_step rhs_step where_step alt_guard_step alt_item_step alts_step decl_item_step decls_step guard_step next_operand_step operands_step part_step redef_step redef_item_step redefs_step x ∙ ap (λ l. operand_failures (out-OperandList x).first ++ l) (flat_map-map (λ f. f) next_operand_failures (out-OperandList x).others)

pub part_at : (x : Part) → part_failures x ≡ exp_failures (out-Part x).exp
unfolding aexp_failures alt_failures decl_found exp_failures locals_failures open_failures operand_failures rhs_failures where_failures alt_guard_failures alt_item_failures alts_failures decl_item_found decls_failures guard_failures next_operand_failures operands_failures part_failures redef_failures redef_item_failures redefs_failures
part_at x = fold_out-Part (List Failure) (List Failure) Found (List Failure) (List Failure) (List Failure) (List Failure) (List Failure) (List Failure) (List Failure) (List Failure) (List Failure) Found (List Failure) (List Failure) (List Failure) (List Failure) (List Failure) (List Failure) (List Failure) (List Failure) aexp_step alt_step decl_step exp_step locals_step open_step operand_step rhs_step where_step alt_guard_step alt_item_step alts_step decl_item_step decls_step guard_step next_operand_step operands_step part_step redef_step redef_item_step redefs_step x

pub redef_at : (x : Redef) → redef_failures x ≡ exp_failures (out-Redef x).body
unfolding aexp_failures alt_failures decl_found exp_failures locals_failures open_failures operand_failures rhs_failures where_failures alt_guard_failures alt_item_failures alts_failures decl_item_found decls_failures guard_failures next_operand_failures operands_failures part_failures redef_failures redef_item_failures redefs_failures
redef_at x = fold_out-Redef (List Failure) (List Failure) Found (List Failure) (List Failure) (List Failure) (List Failure) (List Failure) (List Failure) (List Failure) (List Failure) (List Failure) Found (List Failure) (List Failure) (List Failure) (List Failure) (List Failure) (List Failure) (List Failure) (List Failure) aexp_step alt_step decl_step exp_step locals_step open_step operand_step rhs_step where_step alt_guard_step alt_item_step alts_step decl_item_step decls_step guard_step next_operand_step operands_step part_step redef_step redef_item_step redefs_step x

pub redef_item_at : (x : RedefItem) → redef_item_failures x ≡ redef_failures (out-RedefItem x).redef
unfolding aexp_failures alt_failures decl_found exp_failures locals_failures open_failures operand_failures rhs_failures where_failures alt_guard_failures alt_item_failures alts_failures decl_item_found decls_failures guard_failures next_operand_failures operands_failures part_failures redef_failures redef_item_failures redefs_failures
redef_item_at x = fold_out-RedefItem (List Failure) (List Failure) Found (List Failure) (List Failure) (List Failure) (List Failure) (List Failure) (List Failure) (List Failure) (List Failure) (List Failure) Found (List Failure) (List Failure) (List Failure) (List Failure) (List Failure) (List Failure) (List Failure) (List Failure) aexp_step alt_step decl_step exp_step locals_step open_step operand_step rhs_step where_step alt_guard_step alt_item_step alts_step decl_item_step decls_step guard_step next_operand_step operands_step part_step redef_step redef_item_step redefs_step x

pub redefs_at : (x : Redefs) → redefs_failures x ≡ flat_map redef_item_failures (out-Redefs x).redefs
unfolding aexp_failures alt_failures decl_found exp_failures locals_failures open_failures operand_failures rhs_failures where_failures alt_guard_failures alt_item_failures alts_failures decl_item_found decls_failures guard_failures next_operand_failures operands_failures part_failures redef_failures redef_item_failures redefs_failures
redefs_at x = fold_out-Redefs (List Failure) (List Failure) Found (List Failure) (List Failure) (List Failure) (List Failure) (List Failure) (List Failure) (List Failure) (List Failure) (List Failure) Found (List Failure) (List Failure) (List Failure) (List Failure) (List Failure) (List Failure) (List Failure) (List Failure) aexp_step alt_step decl_step exp_step locals_step open_step operand_step rhs_step where_step alt_guard_step alt_item_step alts_step decl_item_step decls_step guard_step next_operand_step operands_step part_step redef_step redef_item_step redefs_step x ∙ flat_map-map (λ f. f) redef_item_failures (out-Redefs x).redefs

pub decl_item_at : (x : DeclItem) → decl_item_found x ≡ decl_found (out-DeclItem x).decl
unfolding aexp_failures alt_failures decl_found exp_failures locals_failures open_failures operand_failures rhs_failures where_failures alt_guard_failures alt_item_failures alts_failures decl_item_found decls_failures guard_failures next_operand_failures operands_failures part_failures redef_failures redef_item_failures redefs_failures
decl_item_at x = fold_out-DeclItem (List Failure) (List Failure) Found (List Failure) (List Failure) (List Failure) (List Failure) (List Failure) (List Failure) (List Failure) (List Failure) (List Failure) Found (List Failure) (List Failure) (List Failure) (List Failure) (List Failure) (List Failure) (List Failure) (List Failure) aexp_step alt_step decl_step exp_step locals_step open_step operand_step rhs_step where_step alt_guard_step alt_item_step alts_step decl_item_step decls_step guard_step next_operand_step operands_step part_step redef_step redef_item_step redefs_step x

pub decls_at : (x : Decls) → decls_failures x ≡ list_failures (flat_map declared_at (out-Decls x).decls) ++ flat_map inside_at (out-Decls x).decls
unfolding aexp_failures alt_failures decl_found exp_failures locals_failures open_failures operand_failures rhs_failures where_failures alt_guard_failures alt_item_failures alts_failures decl_item_found decls_failures guard_failures next_operand_failures operands_failures part_failures redef_failures redef_item_failures redefs_failures
decls_at x = fold_out-Decls (List Failure) (List Failure) Found (List Failure) (List Failure) (List Failure) (List Failure) (List Failure) (List Failure) (List Failure) (List Failure) (List Failure) Found (List Failure) (List Failure) (List Failure) (List Failure) (List Failure) (List Failure) (List Failure) (List Failure) aexp_step alt_step decl_step exp_step locals_step open_step operand_step rhs_step where_step alt_guard_step alt_item_step alts_step decl_item_step decls_step guard_step next_operand_step operands_step part_step redef_step redef_item_step redefs_step x
    ∙ (λ j. list_failures (flat_map-map (λ (f : Found). f.declared) decl_item_found (out-Decls x).decls j) ++ flat_map-map (λ (f : Found). f.inside) decl_item_found (out-Decls x).decls j)
