-- What each node is printed as, by its parts.
use Rattle.std.proofs.Common.{◌≡◌, ℕ, true, false, not, ◌&&◌, List, [], ◌∷◌, ◌++◌, map, Option, None, sym, ap, ◌∙◌}
use Rattle.gh_base.specs.declared.fixed.TheConstants.{MINUS}
use Rattle.gh_base.specs.declared.place.Span.{Span}
use Rattle.gh_tree.specs.declared.symbol.Kind.TheVariants as k
use Rattle.gh_tree.specs.Syms.{at, cover, same_span}
use Rattle.gh_tree.specs.declared.names.Name.{Name}
use Rattle.gh_tree.specs.declared.names.Var.{Var}
use Rattle.gh_tree.specs.declared.names.VarOp.{VarOp}
use Rattle.gh_tree.specs.declared.names.ConOp.{ConOp}
use Rattle.gh_tree.specs.declared.names.Op.{Op}
use Rattle.gh_tree.specs.declared.names.GenCon.{GenCon}
use Rattle.gh_tree.specs.declared.names.BlockMark.{BlockMark}
use Rattle.gh_tree.specs.declared.names.FixityWord.{FixityWord}
use Rattle.gh_tree.specs.declared.names.NextVar.{NextVar}
use Rattle.gh_tree.specs.declared.names.NextOp.{NextOp}
use Rattle.gh_tree.specs.declared.types.ArgType.{ArgType, fold-roll-ArgType}
use Rattle.gh_tree.specs.declared.types.ArgType.TheVariants as v_ArgType
use Rattle.gh_tree.specs.declared.types.Arrow.{Arrow, roll-Arrow, fold-roll-Arrow}
use Rattle.gh_tree.specs.declared.types.BType.{BType, roll-BType, fold-roll-BType}
use Rattle.gh_tree.specs.declared.types.TypeExpr.{TypeExpr, roll-TypeExpr, fold-roll-TypeExpr}
use Rattle.gh_tree.specs.declared.types.TypePart.{TypePart, roll-TypePart, fold-roll-TypePart}
use Rattle.gh_tree.specs.declared.types.ArgType.TheOpen.{ArgType-F}
use Rattle.gh_tree.specs.declared.patterns.ArgPattern.{ArgPattern, fold-roll-ArgPattern}
use Rattle.gh_tree.specs.declared.patterns.ArgPattern.TheVariants as v_ArgPattern
use Rattle.gh_tree.specs.declared.patterns.PatOperand.{PatOperand, fold-roll-PatOperand}
use Rattle.gh_tree.specs.declared.patterns.PatOperand.TheVariants as v_PatOperand
use Rattle.gh_tree.specs.declared.patterns.NextPattern.{NextPattern, roll-NextPattern, fold-roll-NextPattern}
use Rattle.gh_tree.specs.declared.patterns.PatPart.{PatPart, roll-PatPart, fold-roll-PatPart}
use Rattle.gh_tree.specs.declared.patterns.Pattern.{Pattern, roll-Pattern, fold-roll-Pattern}
use Rattle.gh_tree.specs.declared.patterns.ArgPattern.TheOpen.{ArgPattern-F, PatOperand-F}
use Rattle.gh_tree.specs.declared.patterns.FunLhs.{FunLhs, fold-roll-FunLhs}
use Rattle.gh_tree.specs.declared.patterns.FunLhs.TheVariants as v_FunLhs
use Rattle.gh_tree.specs.declared.patterns.FunLhs.TheOpen.{FunLhs-F}
use Rattle.gh_tree.specs.declared.expressions.Aexp.{Aexp, fold-roll-Aexp}
use Rattle.gh_tree.specs.declared.expressions.Aexp.TheVariants as v_Aexp
use Rattle.gh_tree.specs.declared.expressions.Alt.{Alt, fold-roll-Alt}
use Rattle.gh_tree.specs.declared.expressions.Alt.TheVariants as v_Alt
use Rattle.gh_tree.specs.declared.expressions.Decl.{Decl, fold-roll-Decl}
use Rattle.gh_tree.specs.declared.expressions.Decl.TheVariants as v_Decl
use Rattle.gh_tree.specs.declared.expressions.Exp.{Exp, fold-roll-Exp}
use Rattle.gh_tree.specs.declared.expressions.Exp.TheVariants as v_Exp
use Rattle.gh_tree.specs.declared.expressions.Locals.{Locals, fold-roll-Locals}
use Rattle.gh_tree.specs.declared.expressions.Locals.TheVariants as v_Locals
use Rattle.gh_tree.specs.declared.expressions.Open.{Open, fold-roll-Open}
use Rattle.gh_tree.specs.declared.expressions.Open.TheVariants as v_Open
use Rattle.gh_tree.specs.declared.expressions.Operand.{Operand, fold-roll-Operand}
use Rattle.gh_tree.specs.declared.expressions.Operand.TheVariants as v_Operand
use Rattle.gh_tree.specs.declared.expressions.Rhs.{Rhs, fold-roll-Rhs}
use Rattle.gh_tree.specs.declared.expressions.Rhs.TheVariants as v_Rhs
use Rattle.gh_tree.specs.declared.expressions.Where.{Where, fold-roll-Where}
use Rattle.gh_tree.specs.declared.expressions.Where.TheVariants as v_Where
use Rattle.gh_tree.specs.declared.expressions.AltGuard.{AltGuard, roll-AltGuard, fold-roll-AltGuard}
use Rattle.gh_tree.specs.declared.expressions.AltItem.{AltItem, roll-AltItem, fold-roll-AltItem}
use Rattle.gh_tree.specs.declared.expressions.Alts.{Alts, roll-Alts, fold-roll-Alts}
use Rattle.gh_tree.specs.declared.expressions.DeclItem.{DeclItem, roll-DeclItem, fold-roll-DeclItem}
use Rattle.gh_tree.specs.declared.expressions.Decls.{Decls, roll-Decls, fold-roll-Decls}
use Rattle.gh_tree.specs.declared.expressions.Guard.{Guard, roll-Guard, fold-roll-Guard}
use Rattle.gh_tree.specs.declared.expressions.NextOperand.{NextOperand, roll-NextOperand, fold-roll-NextOperand}
use Rattle.gh_tree.specs.declared.expressions.OperandList.{OperandList, roll-OperandList, fold-roll-OperandList}
use Rattle.gh_tree.specs.declared.expressions.Part.{Part, roll-Part, fold-roll-Part}
use Rattle.gh_tree.specs.declared.expressions.Redef.{Redef, roll-Redef, fold-roll-Redef}
use Rattle.gh_tree.specs.declared.expressions.RedefItem.{RedefItem, roll-RedefItem, fold-roll-RedefItem}
use Rattle.gh_tree.specs.declared.expressions.Redefs.{Redefs, roll-Redefs, fold-roll-Redefs}
use Rattle.gh_tree.specs.declared.expressions.Aexp.TheOpen.{Aexp-F, Alt-F, Decl-F, Exp-F, Locals-F, Open-F, Operand-F, Rhs-F, Where-F}
use Rattle.gh_tree.specs.Print.{Print, print, spanned, flat_all, good_all, is_tuple, is_some, var_id, con_id, plain, var, plain_var, var_op, plain_var_op, con_op, op_flat, plain_op, is_minus, minus_flat, commas, gen_con, fixity_word, level_flat, is_level, next_var, next_op, block, block_part, block_some, opened, operands_of, plain_nexts, arg_type, arg_type_step, arrow, arrow_step, btype, btype_step, type_expr, type_expr_step, type_part, type_part_step, arg_pattern, arg_pattern_step, pat_operand, pat_operand_step, next_pattern, next_pattern_step, pat_part, pat_part_step, pattern, pattern_step, fun_lhs, fun_lhs_step, aexp, aexp_step, alt, alt_step, decl, decl_step, exp, exp_step, locals, locals_step, open_operand, open_operand_step, operand, operand_step, rhs, rhs_step, alt_guard, alt_guard_step, alt_item, alt_item_step, alts, alts_step, decl_item, decl_item_step, decls, decls_step, guard, guard_step, next_operand, next_operand_step, operands, operands_step, part, part_step, redef, redef_step, redef_item, redef_item_step, redefs, redefs_step, where_part, where_part_step}

pub printed_arg_type_con : (x0 : Name) → arg_type (v_ArgType.Con x0) ≡ print (con_id x0 ∷ []) true
unfolding arg_type arrow btype type_expr type_part
printed_arg_type_con x0 = ap arg_type (sym (v_ArgType.rolls-Con x0)) ∙ fold-roll-ArgType Print Print Print Print Print arg_type_step arrow_step btype_step type_expr_step type_part_step (ArgType-F.Con x0)

pub printed_arg_type_var : (x0 : Name) → arg_type (v_ArgType.Var x0) ≡ print (var_id x0 ∷ []) (plain x0)
unfolding arg_type arrow btype type_expr type_part
printed_arg_type_var x0 = ap arg_type (sym (v_ArgType.rolls-Var x0)) ∙ fold-roll-ArgType Print Print Print Print Print arg_type_step arrow_step btype_step type_expr_step type_part_step (ArgType-F.Var x0)

pub printed_arg_type_unit : (x0 : Span) (x1 : Span) (x2 : Span) → arg_type (v_ArgType.Unit x0 x1 x2) ≡ spanned x0 (at k.Open x1 ∷ at k.Close x2 ∷ []) true
unfolding arg_type arrow btype type_expr type_part
printed_arg_type_unit x0 x1 x2 = ap arg_type (sym (v_ArgType.rolls-Unit x0 x1 x2)) ∙ fold-roll-ArgType Print Print Print Print Print arg_type_step arrow_step btype_step type_expr_step type_part_step (ArgType-F.Unit x0 x1 x2)

pub printed_arg_type_no_list : (x0 : Span) (x1 : Span) (x2 : Span) → arg_type (v_ArgType.NoList x0 x1 x2) ≡ spanned x0 (at k.OpenList x1 ∷ at k.CloseList x2 ∷ []) true
unfolding arg_type arrow btype type_expr type_part
printed_arg_type_no_list x0 x1 x2 = ap arg_type (sym (v_ArgType.rolls-NoList x0 x1 x2)) ∙ fold-roll-ArgType Print Print Print Print Print arg_type_step arrow_step btype_step type_expr_step type_part_step (ArgType-F.NoList x0 x1 x2)

pub printed_arg_type_no_arrow : (x0 : Span) (x1 : Span) (x2 : Span) (x3 : Span) → arg_type (v_ArgType.NoArrow x0 x1 x2 x3) ≡ spanned x0 (at k.Open x1 ∷ at k.Arrow x2 ∷ at k.Close x3 ∷ []) true
unfolding arg_type arrow btype type_expr type_part
printed_arg_type_no_arrow x0 x1 x2 x3 = ap arg_type (sym (v_ArgType.rolls-NoArrow x0 x1 x2 x3)) ∙ fold-roll-ArgType Print Print Print Print Print arg_type_step arrow_step btype_step type_expr_step type_part_step (ArgType-F.NoArrow x0 x1 x2 x3)

pub printed_arg_type_no_tuple : (x0 : Span) (x1 : Span) (x2 : List Span) (x3 : Span) → arg_type (v_ArgType.NoTuple x0 x1 x2 x3) ≡ spanned x0 (at k.Open x1 ∷ (commas x2 ++ at k.Close x3 ∷ [])) (is_tuple x2)
unfolding arg_type arrow btype type_expr type_part
printed_arg_type_no_tuple x0 x1 x2 x3 = ap arg_type (sym (v_ArgType.rolls-NoTuple x0 x1 x2 x3)) ∙ fold-roll-ArgType Print Print Print Print Print arg_type_step arrow_step btype_step type_expr_step type_part_step (ArgType-F.NoTuple x0 x1 x2 x3)

pub printed_arg_type_paren : (x0 : Span) (x1 : Span) (x2 : TypeExpr) (x3 : Span) → arg_type (v_ArgType.Paren x0 x1 x2 x3) ≡ spanned x0 (at k.Open x1 ∷ ((type_expr x2).flat ++ at k.Close x3 ∷ [])) (type_expr x2).good
unfolding arg_type arrow btype type_expr type_part
printed_arg_type_paren x0 x1 x2 x3 = ap arg_type (sym (v_ArgType.rolls-Paren x0 x1 x2 x3)) ∙ fold-roll-ArgType Print Print Print Print Print arg_type_step arrow_step btype_step type_expr_step type_part_step (ArgType-F.Paren x0 x1 x2 x3)

pub printed_arg_type_tuple : (x0 : Span) (x1 : Span) (x2 : TypeExpr) (x3 : List TypePart) (x4 : Span) → arg_type (v_ArgType.Tuple x0 x1 x2 x3 x4) ≡ spanned x0 (at k.Open x1 ∷ ((type_expr x2).flat ++ (flat_all (map type_part x3) ++ at k.Close x4 ∷ []))) ((type_expr x2).good && (good_all (map type_part x3) && is_tuple (map type_part x3)))
unfolding arg_type arrow btype type_expr type_part
printed_arg_type_tuple x0 x1 x2 x3 x4 = ap arg_type (sym (v_ArgType.rolls-Tuple x0 x1 x2 x3 x4)) ∙ fold-roll-ArgType Print Print Print Print Print arg_type_step arrow_step btype_step type_expr_step type_part_step (ArgType-F.Tuple x0 x1 x2 x3 x4)

pub printed_arg_type_list : (x0 : Span) (x1 : Span) (x2 : TypeExpr) (x3 : Span) → arg_type (v_ArgType.List x0 x1 x2 x3) ≡ spanned x0 (at k.OpenList x1 ∷ ((type_expr x2).flat ++ at k.CloseList x3 ∷ [])) (type_expr x2).good
unfolding arg_type arrow btype type_expr type_part
printed_arg_type_list x0 x1 x2 x3 = ap arg_type (sym (v_ArgType.rolls-List x0 x1 x2 x3)) ∙ fold-roll-ArgType Print Print Print Print Print arg_type_step arrow_step btype_step type_expr_step type_part_step (ArgType-F.List x0 x1 x2 x3)

pub printed_arrow : (a_mark : Span) (a_to : BType) → arrow (roll-Arrow (record { mark = a_mark; to = a_to })) ≡ print (at k.Arrow a_mark ∷ (btype a_to).flat) (btype a_to).good
unfolding arg_type arrow btype type_expr type_part
printed_arrow a_mark a_to = fold-roll-Arrow Print Print Print Print Print arg_type_step arrow_step btype_step type_expr_step type_part_step (record { mark = a_mark; to = a_to })

pub printed_btype : (a_span : Span) (a_head : ArgType) (a_args : List ArgType) → btype (roll-BType (record { span = a_span; head = a_head; args = a_args })) ≡ spanned a_span ((arg_type a_head).flat ++ flat_all (map arg_type a_args)) ((arg_type a_head).good && good_all (map arg_type a_args))
unfolding arg_type arrow btype type_expr type_part
printed_btype a_span a_head a_args = fold-roll-BType Print Print Print Print Print arg_type_step arrow_step btype_step type_expr_step type_part_step (record { span = a_span; head = a_head; args = a_args })

pub printed_type_expr : (a_span : Span) (a_first : BType) (a_arrows : List Arrow) → type_expr (roll-TypeExpr (record { span = a_span; first = a_first; arrows = a_arrows })) ≡ spanned a_span ((btype a_first).flat ++ flat_all (map arrow a_arrows)) ((btype a_first).good && good_all (map arrow a_arrows))
unfolding arg_type arrow btype type_expr type_part
printed_type_expr a_span a_first a_arrows = fold-roll-TypeExpr Print Print Print Print Print arg_type_step arrow_step btype_step type_expr_step type_part_step (record { span = a_span; first = a_first; arrows = a_arrows })

pub printed_type_part : (a_mark : Span) (a_part : TypeExpr) → type_part (roll-TypePart (record { mark = a_mark; part = a_part })) ≡ print (at k.Comma a_mark ∷ (type_expr a_part).flat) (type_expr a_part).good
unfolding arg_type arrow btype type_expr type_part
printed_type_part a_mark a_part = fold-roll-TypePart Print Print Print Print Print arg_type_step arrow_step btype_step type_expr_step type_part_step (record { mark = a_mark; part = a_part })

pub printed_arg_pattern_var : (x0 : Var) → arg_pattern (v_ArgPattern.Var x0) ≡ record { flat = var x0; good = plain_var x0; is_open = false; is_var = true; is_parted = false }
unfolding arg_pattern pat_operand next_pattern pat_part pattern
printed_arg_pattern_var x0 = ap arg_pattern (sym (v_ArgPattern.rolls-Var x0)) ∙ fold-roll-ArgPattern Print Print Print Print Print arg_pattern_step pat_operand_step next_pattern_step pat_part_step pattern_step (ArgPattern-F.Var x0)

pub printed_arg_pattern_as : (x0 : Span) (x1 : Var) (x2 : Span) (x3 : ArgPattern) → arg_pattern (v_ArgPattern.As x0 x1 x2 x3) ≡ spanned x0 (var x1 ++ (at k.At x2 ∷ (arg_pattern x3).flat)) (plain_var x1 && (arg_pattern x3).good)
unfolding arg_pattern pat_operand next_pattern pat_part pattern
printed_arg_pattern_as x0 x1 x2 x3 = ap arg_pattern (sym (v_ArgPattern.rolls-As x0 x1 x2 x3)) ∙ fold-roll-ArgPattern Print Print Print Print Print arg_pattern_step pat_operand_step next_pattern_step pat_part_step pattern_step (ArgPattern-F.As x0 x1 x2 x3)

pub printed_arg_pattern_wild : (x0 : Span) → arg_pattern (v_ArgPattern.Wild x0) ≡ print (at k.Underscore x0 ∷ []) true
unfolding arg_pattern pat_operand next_pattern pat_part pattern
printed_arg_pattern_wild x0 = ap arg_pattern (sym (v_ArgPattern.rolls-Wild x0)) ∙ fold-roll-ArgPattern Print Print Print Print Print arg_pattern_step pat_operand_step next_pattern_step pat_part_step pattern_step (ArgPattern-F.Wild x0)

pub printed_arg_pattern_con : (x0 : GenCon) → arg_pattern (v_ArgPattern.Con x0) ≡ gen_con x0
unfolding arg_pattern pat_operand next_pattern pat_part pattern
printed_arg_pattern_con x0 = ap arg_pattern (sym (v_ArgPattern.rolls-Con x0)) ∙ fold-roll-ArgPattern Print Print Print Print Print arg_pattern_step pat_operand_step next_pattern_step pat_part_step pattern_step (ArgPattern-F.ArgPattern::Con x0)

pub printed_arg_pattern_int : (x0 : Span) (x1 : ℕ) → arg_pattern (v_ArgPattern.Int x0 x1) ≡ print (at (k.Int x1) x0 ∷ []) true
unfolding arg_pattern pat_operand next_pattern pat_part pattern
printed_arg_pattern_int x0 x1 = ap arg_pattern (sym (v_ArgPattern.rolls-Int x0 x1)) ∙ fold-roll-ArgPattern Print Print Print Print Print arg_pattern_step pat_operand_step next_pattern_step pat_part_step pattern_step (ArgPattern-F.Int x0 x1)

pub printed_arg_pattern_char : (x0 : Span) (x1 : ℕ) → arg_pattern (v_ArgPattern.Char x0 x1) ≡ print (at (k.Char x1) x0 ∷ []) true
unfolding arg_pattern pat_operand next_pattern pat_part pattern
printed_arg_pattern_char x0 x1 = ap arg_pattern (sym (v_ArgPattern.rolls-Char x0 x1)) ∙ fold-roll-ArgPattern Print Print Print Print Print arg_pattern_step pat_operand_step next_pattern_step pat_part_step pattern_step (ArgPattern-F.Char x0 x1)

pub printed_arg_pattern_str : (x0 : Span) (x1 : List ℕ) → arg_pattern (v_ArgPattern.Str x0 x1) ≡ print (at (k.Str x1) x0 ∷ []) true
unfolding arg_pattern pat_operand next_pattern pat_part pattern
printed_arg_pattern_str x0 x1 = ap arg_pattern (sym (v_ArgPattern.rolls-Str x0 x1)) ∙ fold-roll-ArgPattern Print Print Print Print Print arg_pattern_step pat_operand_step next_pattern_step pat_part_step pattern_step (ArgPattern-F.Str x0 x1)

pub printed_arg_pattern_paren : (x0 : Span) (x1 : Span) (x2 : Pattern) (x3 : Span) → arg_pattern (v_ArgPattern.Paren x0 x1 x2 x3) ≡ spanned x0 (at k.Open x1 ∷ ((pattern x2).flat ++ at k.Close x3 ∷ [])) (pattern x2).good
unfolding arg_pattern pat_operand next_pattern pat_part pattern
printed_arg_pattern_paren x0 x1 x2 x3 = ap arg_pattern (sym (v_ArgPattern.rolls-Paren x0 x1 x2 x3)) ∙ fold-roll-ArgPattern Print Print Print Print Print arg_pattern_step pat_operand_step next_pattern_step pat_part_step pattern_step (ArgPattern-F.Paren x0 x1 x2 x3)

pub printed_arg_pattern_tuple : (x0 : Span) (x1 : Span) (x2 : Pattern) (x3 : List PatPart) (x4 : Span) → arg_pattern (v_ArgPattern.Tuple x0 x1 x2 x3 x4) ≡ spanned x0 (at k.Open x1 ∷ ((pattern x2).flat ++ (flat_all (map pat_part x3) ++ at k.Close x4 ∷ []))) ((pattern x2).good && (good_all (map pat_part x3) && is_tuple (map pat_part x3)))
unfolding arg_pattern pat_operand next_pattern pat_part pattern
printed_arg_pattern_tuple x0 x1 x2 x3 x4 = ap arg_pattern (sym (v_ArgPattern.rolls-Tuple x0 x1 x2 x3 x4)) ∙ fold-roll-ArgPattern Print Print Print Print Print arg_pattern_step pat_operand_step next_pattern_step pat_part_step pattern_step (ArgPattern-F.Tuple x0 x1 x2 x3 x4)

pub printed_arg_pattern_list : (x0 : Span) (x1 : Span) (x2 : Pattern) (x3 : List PatPart) (x4 : Span) → arg_pattern (v_ArgPattern.List x0 x1 x2 x3 x4) ≡ spanned x0 (at k.OpenList x1 ∷ ((pattern x2).flat ++ (flat_all (map pat_part x3) ++ at k.CloseList x4 ∷ []))) ((pattern x2).good && good_all (map pat_part x3))
unfolding arg_pattern pat_operand next_pattern pat_part pattern
printed_arg_pattern_list x0 x1 x2 x3 x4 = ap arg_pattern (sym (v_ArgPattern.rolls-List x0 x1 x2 x3 x4)) ∙ fold-roll-ArgPattern Print Print Print Print Print arg_pattern_step pat_operand_step next_pattern_step pat_part_step pattern_step (ArgPattern-F.List x0 x1 x2 x3 x4)

pub printed_pat_operand_negative : (x0 : Span) (x1 : Span) (x2 : Span) (x3 : ℕ) → pat_operand (v_PatOperand.Negative x0 x1 x2 x3) ≡ spanned x0 (at (k.VarSym None MINUS) x1 ∷ at (k.Int x3) x2 ∷ []) true
unfolding arg_pattern pat_operand next_pattern pat_part pattern
printed_pat_operand_negative x0 x1 x2 x3 = ap pat_operand (sym (v_PatOperand.rolls-Negative x0 x1 x2 x3)) ∙ fold-roll-PatOperand Print Print Print Print Print arg_pattern_step pat_operand_step next_pattern_step pat_part_step pattern_step (PatOperand-F.Negative x0 x1 x2 x3)

pub printed_pat_operand_arg : (x0 : ArgPattern) → pat_operand (v_PatOperand.Arg x0) ≡ (arg_pattern x0)
unfolding arg_pattern pat_operand next_pattern pat_part pattern
printed_pat_operand_arg x0 = ap pat_operand (sym (v_PatOperand.rolls-Arg x0)) ∙ fold-roll-PatOperand Print Print Print Print Print arg_pattern_step pat_operand_step next_pattern_step pat_part_step pattern_step (PatOperand-F.Arg x0)

pub printed_pat_operand_con : (x0 : Span) (x1 : GenCon) (x2 : ArgPattern) (x3 : List ArgPattern) → pat_operand (v_PatOperand.Con x0 x1 x2 x3) ≡ spanned x0 ((gen_con x1).flat ++ ((arg_pattern x2).flat ++ flat_all (map arg_pattern x3))) ((gen_con x1).good && ((arg_pattern x2).good && good_all (map arg_pattern x3)))
unfolding arg_pattern pat_operand next_pattern pat_part pattern
printed_pat_operand_con x0 x1 x2 x3 = ap pat_operand (sym (v_PatOperand.rolls-Con x0 x1 x2 x3)) ∙ fold-roll-PatOperand Print Print Print Print Print arg_pattern_step pat_operand_step next_pattern_step pat_part_step pattern_step (PatOperand-F.PatOperand::Con x0 x1 x2 x3)

pub printed_next_pattern : (a_op : ConOp) (a_operand : PatOperand) → next_pattern (roll-NextPattern (record { op = a_op; operand = a_operand })) ≡ print (con_op a_op ++ (pat_operand a_operand).flat) (pat_operand a_operand).good
unfolding arg_pattern pat_operand next_pattern pat_part pattern
printed_next_pattern a_op a_operand = fold-roll-NextPattern Print Print Print Print Print arg_pattern_step pat_operand_step next_pattern_step pat_part_step pattern_step (record { op = a_op; operand = a_operand })

pub printed_pat_part : (a_mark : Span) (a_part : Pattern) → pat_part (roll-PatPart (record { mark = a_mark; part = a_part })) ≡ print (at k.Comma a_mark ∷ (pattern a_part).flat) (pattern a_part).good
unfolding arg_pattern pat_operand next_pattern pat_part pattern
printed_pat_part a_mark a_part = fold-roll-PatPart Print Print Print Print Print arg_pattern_step pat_operand_step next_pattern_step pat_part_step pattern_step (record { mark = a_mark; part = a_part })

pub printed_pattern : (a_span : Span) (a_first : PatOperand) (a_others : List NextPattern) → pattern (roll-Pattern (record { span = a_span; first = a_first; others = a_others })) ≡ record { flat = (pat_operand a_first).flat ++ flat_all (map next_pattern a_others); good = ((pat_operand a_first).good && good_all (map next_pattern a_others)) && same_span a_span (cover ((pat_operand a_first).flat ++ flat_all (map next_pattern a_others))); is_open = false; is_var = (pat_operand a_first).is_var && not (is_some (map next_pattern a_others)); is_parted = false }
unfolding arg_pattern pat_operand next_pattern pat_part pattern
printed_pattern a_span a_first a_others = fold-roll-Pattern Print Print Print Print Print arg_pattern_step pat_operand_step next_pattern_step pat_part_step pattern_step (record { span = a_span; first = a_first; others = a_others })

pub printed_fun_lhs_prefix : (x0 : Span) (x1 : Var) (x2 : List ArgPattern) → fun_lhs (v_FunLhs.Prefix x0 x1 x2) ≡ spanned x0 (var x1 ++ flat_all (map arg_pattern x2)) (plain_var x1 && good_all (map arg_pattern x2))
unfolding fun_lhs
printed_fun_lhs_prefix x0 x1 x2 = ap fun_lhs (sym (v_FunLhs.rolls-Prefix x0 x1 x2)) ∙ fold-roll-FunLhs Print fun_lhs_step (FunLhs-F.Prefix x0 x1 x2)

pub printed_fun_lhs_infix : (x0 : Span) (x1 : PatOperand) (x2 : List NextPattern) (x3 : VarOp) (x4 : PatOperand) (x5 : List NextPattern) → fun_lhs (v_FunLhs.Infix x0 x1 x2 x3 x4 x5) ≡ spanned x0 ((pat_operand x1).flat ++ (flat_all (map next_pattern x2) ++ (var_op x3 ++ ((pat_operand x4).flat ++ flat_all (map next_pattern x5))))) ((pat_operand x1).good && (good_all (map next_pattern x2) && (plain_var_op x3 && ((pat_operand x4).good && (good_all (map next_pattern x5) && (plain_nexts x2 && plain_nexts x5))))))
unfolding fun_lhs
printed_fun_lhs_infix x0 x1 x2 x3 x4 x5 = ap fun_lhs (sym (v_FunLhs.rolls-Infix x0 x1 x2 x3 x4 x5)) ∙ fold-roll-FunLhs Print fun_lhs_step (FunLhs-F.Infix x0 x1 x2 x3 x4 x5)

pub printed_fun_lhs_nested : (x0 : Span) (x1 : Span) (x2 : FunLhs) (x3 : Span) (x4 : ArgPattern) (x5 : List ArgPattern) → fun_lhs (v_FunLhs.Nested x0 x1 x2 x3 x4 x5) ≡ spanned x0 (at k.Open x1 ∷ ((fun_lhs x2).flat ++ (at k.Close x3 ∷ ((arg_pattern x4).flat ++ flat_all (map arg_pattern x5))))) ((fun_lhs x2).good && ((arg_pattern x4).good && good_all (map arg_pattern x5)))
unfolding fun_lhs
printed_fun_lhs_nested x0 x1 x2 x3 x4 x5 = ap fun_lhs (sym (v_FunLhs.rolls-Nested x0 x1 x2 x3 x4 x5)) ∙ fold-roll-FunLhs Print fun_lhs_step (FunLhs-F.Nested x0 x1 x2 x3 x4 x5)

pub printed_aexp_var : (x0 : Var) → aexp (v_Aexp.Var x0) ≡ print (var x0) true
unfolding aexp alt decl exp locals open_operand operand rhs where_part alt_guard alt_item alts decl_item decls guard next_operand operands part redef redef_item redefs
printed_aexp_var x0 = ap aexp (sym (v_Aexp.rolls-Var x0)) ∙ fold-roll-Aexp Print Print Print Print Print Print Print Print Print Print Print Print Print Print Print Print Print Print Print Print Print aexp_step alt_step decl_step exp_step locals_step open_operand_step operand_step rhs_step where_part_step alt_guard_step alt_item_step alts_step decl_item_step decls_step guard_step next_operand_step operands_step part_step redef_step redef_item_step redefs_step (Aexp-F.Var x0)

pub printed_aexp_generic : (x0 : Span) (x1 : Var) (x2 : Span) (x3 : TypeExpr) (x4 : Span) → aexp (v_Aexp.Generic x0 x1 x2 x3 x4) ≡ spanned x0 (var x1 ++ (at k.OpenBanana x2 ∷ ((type_expr x3).flat ++ at k.CloseBanana x4 ∷ []))) (type_expr x3).good
unfolding aexp alt decl exp locals open_operand operand rhs where_part alt_guard alt_item alts decl_item decls guard next_operand operands part redef redef_item redefs
printed_aexp_generic x0 x1 x2 x3 x4 = ap aexp (sym (v_Aexp.rolls-Generic x0 x1 x2 x3 x4)) ∙ fold-roll-Aexp Print Print Print Print Print Print Print Print Print Print Print Print Print Print Print Print Print Print Print Print Print aexp_step alt_step decl_step exp_step locals_step open_operand_step operand_step rhs_step where_part_step alt_guard_step alt_item_step alts_step decl_item_step decls_step guard_step next_operand_step operands_step part_step redef_step redef_item_step redefs_step (Aexp-F.Generic x0 x1 x2 x3 x4)

pub printed_aexp_con : (x0 : GenCon) → aexp (v_Aexp.Con x0) ≡ gen_con x0
unfolding aexp alt decl exp locals open_operand operand rhs where_part alt_guard alt_item alts decl_item decls guard next_operand operands part redef redef_item redefs
printed_aexp_con x0 = ap aexp (sym (v_Aexp.rolls-Con x0)) ∙ fold-roll-Aexp Print Print Print Print Print Print Print Print Print Print Print Print Print Print Print Print Print Print Print Print Print aexp_step alt_step decl_step exp_step locals_step open_operand_step operand_step rhs_step where_part_step alt_guard_step alt_item_step alts_step decl_item_step decls_step guard_step next_operand_step operands_step part_step redef_step redef_item_step redefs_step (Aexp-F.Con x0)

pub printed_aexp_int : (x0 : Span) (x1 : ℕ) → aexp (v_Aexp.Int x0 x1) ≡ print (at (k.Int x1) x0 ∷ []) true
unfolding aexp alt decl exp locals open_operand operand rhs where_part alt_guard alt_item alts decl_item decls guard next_operand operands part redef redef_item redefs
printed_aexp_int x0 x1 = ap aexp (sym (v_Aexp.rolls-Int x0 x1)) ∙ fold-roll-Aexp Print Print Print Print Print Print Print Print Print Print Print Print Print Print Print Print Print Print Print Print Print aexp_step alt_step decl_step exp_step locals_step open_operand_step operand_step rhs_step where_part_step alt_guard_step alt_item_step alts_step decl_item_step decls_step guard_step next_operand_step operands_step part_step redef_step redef_item_step redefs_step (Aexp-F.Int x0 x1)

pub printed_aexp_char : (x0 : Span) (x1 : ℕ) → aexp (v_Aexp.Char x0 x1) ≡ print (at (k.Char x1) x0 ∷ []) true
unfolding aexp alt decl exp locals open_operand operand rhs where_part alt_guard alt_item alts decl_item decls guard next_operand operands part redef redef_item redefs
printed_aexp_char x0 x1 = ap aexp (sym (v_Aexp.rolls-Char x0 x1)) ∙ fold-roll-Aexp Print Print Print Print Print Print Print Print Print Print Print Print Print Print Print Print Print Print Print Print Print aexp_step alt_step decl_step exp_step locals_step open_operand_step operand_step rhs_step where_part_step alt_guard_step alt_item_step alts_step decl_item_step decls_step guard_step next_operand_step operands_step part_step redef_step redef_item_step redefs_step (Aexp-F.Char x0 x1)

pub printed_aexp_str : (x0 : Span) (x1 : List ℕ) → aexp (v_Aexp.Str x0 x1) ≡ print (at (k.Str x1) x0 ∷ []) true
unfolding aexp alt decl exp locals open_operand operand rhs where_part alt_guard alt_item alts decl_item decls guard next_operand operands part redef redef_item redefs
printed_aexp_str x0 x1 = ap aexp (sym (v_Aexp.rolls-Str x0 x1)) ∙ fold-roll-Aexp Print Print Print Print Print Print Print Print Print Print Print Print Print Print Print Print Print Print Print Print Print aexp_step alt_step decl_step exp_step locals_step open_operand_step operand_step rhs_step where_part_step alt_guard_step alt_item_step alts_step decl_item_step decls_step guard_step next_operand_step operands_step part_step redef_step redef_item_step redefs_step (Aexp-F.Str x0 x1)

pub printed_aexp_paren : (x0 : Span) (x1 : Span) (x2 : Exp) (x3 : Span) → aexp (v_Aexp.Paren x0 x1 x2 x3) ≡ spanned x0 (at k.Open x1 ∷ ((exp x2).flat ++ at k.Close x3 ∷ [])) (exp x2).good
unfolding aexp alt decl exp locals open_operand operand rhs where_part alt_guard alt_item alts decl_item decls guard next_operand operands part redef redef_item redefs
printed_aexp_paren x0 x1 x2 x3 = ap aexp (sym (v_Aexp.rolls-Paren x0 x1 x2 x3)) ∙ fold-roll-Aexp Print Print Print Print Print Print Print Print Print Print Print Print Print Print Print Print Print Print Print Print Print aexp_step alt_step decl_step exp_step locals_step open_operand_step operand_step rhs_step where_part_step alt_guard_step alt_item_step alts_step decl_item_step decls_step guard_step next_operand_step operands_step part_step redef_step redef_item_step redefs_step (Aexp-F.Paren x0 x1 x2 x3)

pub printed_aexp_tuple : (x0 : Span) (x1 : Span) (x2 : Exp) (x3 : List Part) (x4 : Span) → aexp (v_Aexp.Tuple x0 x1 x2 x3 x4) ≡ spanned x0 (at k.Open x1 ∷ ((exp x2).flat ++ (flat_all (map part x3) ++ at k.Close x4 ∷ []))) ((exp x2).good && (good_all (map part x3) && is_tuple (map part x3)))
unfolding aexp alt decl exp locals open_operand operand rhs where_part alt_guard alt_item alts decl_item decls guard next_operand operands part redef redef_item redefs
printed_aexp_tuple x0 x1 x2 x3 x4 = ap aexp (sym (v_Aexp.rolls-Tuple x0 x1 x2 x3 x4)) ∙ fold-roll-Aexp Print Print Print Print Print Print Print Print Print Print Print Print Print Print Print Print Print Print Print Print Print aexp_step alt_step decl_step exp_step locals_step open_operand_step operand_step rhs_step where_part_step alt_guard_step alt_item_step alts_step decl_item_step decls_step guard_step next_operand_step operands_step part_step redef_step redef_item_step redefs_step (Aexp-F.Tuple x0 x1 x2 x3 x4)

pub printed_aexp_list : (x0 : Span) (x1 : Span) (x2 : Exp) (x3 : List Part) (x4 : Span) → aexp (v_Aexp.List x0 x1 x2 x3 x4) ≡ spanned x0 (at k.OpenList x1 ∷ ((exp x2).flat ++ (flat_all (map part x3) ++ at k.CloseList x4 ∷ []))) ((exp x2).good && good_all (map part x3))
unfolding aexp alt decl exp locals open_operand operand rhs where_part alt_guard alt_item alts decl_item decls guard next_operand operands part redef redef_item redefs
printed_aexp_list x0 x1 x2 x3 x4 = ap aexp (sym (v_Aexp.rolls-List x0 x1 x2 x3 x4)) ∙ fold-roll-Aexp Print Print Print Print Print Print Print Print Print Print Print Print Print Print Print Print Print Print Print Print Print aexp_step alt_step decl_step exp_step locals_step open_operand_step operand_step rhs_step where_part_step alt_guard_step alt_item_step alts_step decl_item_step decls_step guard_step next_operand_step operands_step part_step redef_step redef_item_step redefs_step (Aexp-F.List x0 x1 x2 x3 x4)

pub printed_aexp_left : (x0 : Span) (x1 : Span) (x2 : OperandList) (x3 : Op) (x4 : Span) → aexp (v_Aexp.Left x0 x1 x2 x3 x4) ≡ spanned x0 (at k.Open x1 ∷ ((operands x2).flat ++ (op_flat x3 ++ at k.Close x4 ∷ []))) ((operands x2).good && not (operands x2).is_open)
unfolding aexp alt decl exp locals open_operand operand rhs where_part alt_guard alt_item alts decl_item decls guard next_operand operands part redef redef_item redefs
printed_aexp_left x0 x1 x2 x3 x4 = ap aexp (sym (v_Aexp.rolls-Left x0 x1 x2 x3 x4)) ∙ fold-roll-Aexp Print Print Print Print Print Print Print Print Print Print Print Print Print Print Print Print Print Print Print Print Print aexp_step alt_step decl_step exp_step locals_step open_operand_step operand_step rhs_step where_part_step alt_guard_step alt_item_step alts_step decl_item_step decls_step guard_step next_operand_step operands_step part_step redef_step redef_item_step redefs_step (Aexp-F.Left x0 x1 x2 x3 x4)

pub printed_aexp_right : (x0 : Span) (x1 : Span) (x2 : Op) (x3 : OperandList) (x4 : Span) → aexp (v_Aexp.Right x0 x1 x2 x3 x4) ≡ spanned x0 (at k.Open x1 ∷ (op_flat x2 ++ ((operands x3).flat ++ at k.Close x4 ∷ []))) ((operands x3).good && not (is_minus x2))
unfolding aexp alt decl exp locals open_operand operand rhs where_part alt_guard alt_item alts decl_item decls guard next_operand operands part redef redef_item redefs
printed_aexp_right x0 x1 x2 x3 x4 = ap aexp (sym (v_Aexp.rolls-Right x0 x1 x2 x3 x4)) ∙ fold-roll-Aexp Print Print Print Print Print Print Print Print Print Print Print Print Print Print Print Print Print Print Print Print Print aexp_step alt_step decl_step exp_step locals_step open_operand_step operand_step rhs_step where_part_step alt_guard_step alt_item_step alts_step decl_item_step decls_step guard_step next_operand_step operands_step part_step redef_step redef_item_step redefs_step (Aexp-F.Right x0 x1 x2 x3 x4)

pub printed_alt_plain : (x0 : Span) (x1 : Pattern) (x2 : Span) (x3 : Exp) (x4 : Where) → alt (v_Alt.Plain x0 x1 x2 x3 x4) ≡ spanned x0 ((pattern x1).flat ++ (at k.Arrow x2 ∷ ((exp x3).flat ++ (where_part x4).flat))) ((pattern x1).good && ((exp x3).good && (where_part x4).good))
unfolding aexp alt decl exp locals open_operand operand rhs where_part alt_guard alt_item alts decl_item decls guard next_operand operands part redef redef_item redefs
printed_alt_plain x0 x1 x2 x3 x4 = ap alt (sym (v_Alt.rolls-Plain x0 x1 x2 x3 x4)) ∙ fold-roll-Alt Print Print Print Print Print Print Print Print Print Print Print Print Print Print Print Print Print Print Print Print Print aexp_step alt_step decl_step exp_step locals_step open_operand_step operand_step rhs_step where_part_step alt_guard_step alt_item_step alts_step decl_item_step decls_step guard_step next_operand_step operands_step part_step redef_step redef_item_step redefs_step (Alt-F.Alt::Plain x0 x1 x2 x3 x4)

pub printed_alt_guarded : (x0 : Span) (x1 : Pattern) (x2 : AltGuard) (x3 : List AltGuard) (x4 : Where) → alt (v_Alt.Guarded x0 x1 x2 x3 x4) ≡ spanned x0 ((pattern x1).flat ++ ((alt_guard x2).flat ++ (flat_all (map alt_guard x3) ++ (where_part x4).flat))) ((pattern x1).good && ((alt_guard x2).good && (good_all (map alt_guard x3) && (where_part x4).good)))
unfolding aexp alt decl exp locals open_operand operand rhs where_part alt_guard alt_item alts decl_item decls guard next_operand operands part redef redef_item redefs
printed_alt_guarded x0 x1 x2 x3 x4 = ap alt (sym (v_Alt.rolls-Guarded x0 x1 x2 x3 x4)) ∙ fold-roll-Alt Print Print Print Print Print Print Print Print Print Print Print Print Print Print Print Print Print Print Print Print Print aexp_step alt_step decl_step exp_step locals_step open_operand_step operand_step rhs_step where_part_step alt_guard_step alt_item_step alts_step decl_item_step decls_step guard_step next_operand_step operands_step part_step redef_step redef_item_step redefs_step (Alt-F.Alt::Guarded x0 x1 x2 x3 x4)

pub printed_decl_signature : (x0 : Span) (x1 : Var) (x2 : List NextVar) (x3 : Span) (x4 : TypeExpr) → decl (v_Decl.Signature x0 x1 x2 x3 x4) ≡ spanned x0 (var x1 ++ (flat_all (map next_var x2) ++ (at k.Colons x3 ∷ (type_expr x4).flat))) (plain_var x1 && (good_all (map next_var x2) && (type_expr x4).good))
unfolding aexp alt decl exp locals open_operand operand rhs where_part alt_guard alt_item alts decl_item decls guard next_operand operands part redef redef_item redefs
printed_decl_signature x0 x1 x2 x3 x4 = ap decl (sym (v_Decl.rolls-Signature x0 x1 x2 x3 x4)) ∙ fold-roll-Decl Print Print Print Print Print Print Print Print Print Print Print Print Print Print Print Print Print Print Print Print Print aexp_step alt_step decl_step exp_step locals_step open_operand_step operand_step rhs_step where_part_step alt_guard_step alt_item_step alts_step decl_item_step decls_step guard_step next_operand_step operands_step part_step redef_step redef_item_step redefs_step (Decl-F.Signature x0 x1 x2 x3 x4)

pub printed_decl_fixity : (x0 : Span) (x1 : FixityWord) (x2 : Option (Span × ℕ)) (x3 : Op) (x4 : List NextOp) → decl (v_Decl.Fixity x0 x1 x2 x3 x4) ≡ spanned x0 (fixity_word x1 ∷ (level_flat x2 ++ (op_flat x3 ++ flat_all (map next_op x4)))) (is_level x2 && (plain_op x3 && good_all (map next_op x4)))
unfolding aexp alt decl exp locals open_operand operand rhs where_part alt_guard alt_item alts decl_item decls guard next_operand operands part redef redef_item redefs
printed_decl_fixity x0 x1 x2 x3 x4 = ap decl (sym (v_Decl.rolls-Fixity x0 x1 x2 x3 x4)) ∙ fold-roll-Decl Print Print Print Print Print Print Print Print Print Print Print Print Print Print Print Print Print Print Print Print Print aexp_step alt_step decl_step exp_step locals_step open_operand_step operand_step rhs_step where_part_step alt_guard_step alt_item_step alts_step decl_item_step decls_step guard_step next_operand_step operands_step part_step redef_step redef_item_step redefs_step (Decl-F.Fixity x0 x1 x2 x3 x4)

pub printed_decl_function : (x0 : Span) (x1 : FunLhs) (x2 : Rhs) → decl (v_Decl.Function x0 x1 x2) ≡ spanned x0 ((fun_lhs x1).flat ++ (rhs x2).flat) ((fun_lhs x1).good && (rhs x2).good)
unfolding aexp alt decl exp locals open_operand operand rhs where_part alt_guard alt_item alts decl_item decls guard next_operand operands part redef redef_item redefs
printed_decl_function x0 x1 x2 = ap decl (sym (v_Decl.rolls-Function x0 x1 x2)) ∙ fold-roll-Decl Print Print Print Print Print Print Print Print Print Print Print Print Print Print Print Print Print Print Print Print Print aexp_step alt_step decl_step exp_step locals_step open_operand_step operand_step rhs_step where_part_step alt_guard_step alt_item_step alts_step decl_item_step decls_step guard_step next_operand_step operands_step part_step redef_step redef_item_step redefs_step (Decl-F.Function x0 x1 x2)

pub printed_decl_pattern : (x0 : Span) (x1 : Pattern) (x2 : Rhs) → decl (v_Decl.Pattern x0 x1 x2) ≡ spanned x0 ((pattern x1).flat ++ (rhs x2).flat) ((pattern x1).good && ((rhs x2).good && not (pattern x1).is_var))
unfolding aexp alt decl exp locals open_operand operand rhs where_part alt_guard alt_item alts decl_item decls guard next_operand operands part redef redef_item redefs
printed_decl_pattern x0 x1 x2 = ap decl (sym (v_Decl.rolls-Pattern x0 x1 x2)) ∙ fold-roll-Decl Print Print Print Print Print Print Print Print Print Print Print Print Print Print Print Print Print Print Print Print Print aexp_step alt_step decl_step exp_step locals_step open_operand_step operand_step rhs_step where_part_step alt_guard_step alt_item_step alts_step decl_item_step decls_step guard_step next_operand_step operands_step part_step redef_step redef_item_step redefs_step (Decl-F.Pattern x0 x1 x2)

pub printed_exp_plain : (x0 : OperandList) → exp (v_Exp.Plain x0) ≡ (operands x0)
unfolding aexp alt decl exp locals open_operand operand rhs where_part alt_guard alt_item alts decl_item decls guard next_operand operands part redef redef_item redefs
printed_exp_plain x0 = ap exp (sym (v_Exp.rolls-Plain x0)) ∙ fold-roll-Exp Print Print Print Print Print Print Print Print Print Print Print Print Print Print Print Print Print Print Print Print Print aexp_step alt_step decl_step exp_step locals_step open_operand_step operand_step rhs_step where_part_step alt_guard_step alt_item_step alts_step decl_item_step decls_step guard_step next_operand_step operands_step part_step redef_step redef_item_step redefs_step (Exp-F.Exp::Plain x0)

pub printed_exp_typed : (x0 : Span) (x1 : OperandList) (x2 : Span) (x3 : TypeExpr) → exp (v_Exp.Typed x0 x1 x2 x3) ≡ spanned x0 ((operands x1).flat ++ (at k.Colons x2 ∷ (type_expr x3).flat)) ((operands x1).good && (not (operands x1).is_open && (type_expr x3).good))
unfolding aexp alt decl exp locals open_operand operand rhs where_part alt_guard alt_item alts decl_item decls guard next_operand operands part redef redef_item redefs
printed_exp_typed x0 x1 x2 x3 = ap exp (sym (v_Exp.rolls-Typed x0 x1 x2 x3)) ∙ fold-roll-Exp Print Print Print Print Print Print Print Print Print Print Print Print Print Print Print Print Print Print Print Print Print aexp_step alt_step decl_step exp_step locals_step open_operand_step operand_step rhs_step where_part_step alt_guard_step alt_item_step alts_step decl_item_step decls_step guard_step next_operand_step operands_step part_step redef_step redef_item_step redefs_step (Exp-F.Typed x0 x1 x2 x3)

pub printed_locals_decls : (x0 : Decls) → locals (v_Locals.Decls x0) ≡ (decls x0)
unfolding aexp alt decl exp locals open_operand operand rhs where_part alt_guard alt_item alts decl_item decls guard next_operand operands part redef redef_item redefs
printed_locals_decls x0 = ap locals (sym (v_Locals.rolls-Decls x0)) ∙ fold-roll-Locals Print Print Print Print Print Print Print Print Print Print Print Print Print Print Print Print Print Print Print Print Print aexp_step alt_step decl_step exp_step locals_step open_operand_step operand_step rhs_step where_part_step alt_guard_step alt_item_step alts_step decl_item_step decls_step guard_step next_operand_step operands_step part_step redef_step redef_item_step redefs_step (Locals-F.Decls x0)

pub printed_locals_redefs : (x0 : Redefs) → locals (v_Locals.Redefs x0) ≡ (redefs x0)
unfolding aexp alt decl exp locals open_operand operand rhs where_part alt_guard alt_item alts decl_item decls guard next_operand operands part redef redef_item redefs
printed_locals_redefs x0 = ap locals (sym (v_Locals.rolls-Redefs x0)) ∙ fold-roll-Locals Print Print Print Print Print Print Print Print Print Print Print Print Print Print Print Print Print Print Print Print Print aexp_step alt_step decl_step exp_step locals_step open_operand_step operand_step rhs_step where_part_step alt_guard_step alt_item_step alts_step decl_item_step decls_step guard_step next_operand_step operands_step part_step redef_step redef_item_step redefs_step (Locals-F.Redefs x0)

pub printed_open_lambda : (x0 : Span) (x1 : Span) (x2 : ArgPattern) (x3 : List ArgPattern) (x4 : Span) (x5 : Exp) → open_operand (v_Open.Lambda x0 x1 x2 x3 x4 x5) ≡ opened x0 (at k.Backslash x1 ∷ ((arg_pattern x2).flat ++ (flat_all (map arg_pattern x3) ++ (at k.Arrow x4 ∷ (exp x5).flat)))) ((arg_pattern x2).good && (good_all (map arg_pattern x3) && (exp x5).good))
unfolding aexp alt decl exp locals open_operand operand rhs where_part alt_guard alt_item alts decl_item decls guard next_operand operands part redef redef_item redefs
printed_open_lambda x0 x1 x2 x3 x4 x5 = ap open_operand (sym (v_Open.rolls-Lambda x0 x1 x2 x3 x4 x5)) ∙ fold-roll-Open Print Print Print Print Print Print Print Print Print Print Print Print Print Print Print Print Print Print Print Print Print aexp_step alt_step decl_step exp_step locals_step open_operand_step operand_step rhs_step where_part_step alt_guard_step alt_item_step alts_step decl_item_step decls_step guard_step next_operand_step operands_step part_step redef_step redef_item_step redefs_step (Open-F.Lambda x0 x1 x2 x3 x4 x5)

pub printed_open_let : (x0 : Span) (x1 : Span) (x2 : Locals) (x3 : Span) (x4 : Exp) → open_operand (v_Open.Let x0 x1 x2 x3 x4) ≡ opened x0 (at k.Let x1 ∷ ((locals x2).flat ++ (at k.In x3 ∷ (exp x4).flat))) ((locals x2).good && (exp x4).good)
unfolding aexp alt decl exp locals open_operand operand rhs where_part alt_guard alt_item alts decl_item decls guard next_operand operands part redef redef_item redefs
printed_open_let x0 x1 x2 x3 x4 = ap open_operand (sym (v_Open.rolls-Let x0 x1 x2 x3 x4)) ∙ fold-roll-Open Print Print Print Print Print Print Print Print Print Print Print Print Print Print Print Print Print Print Print Print Print aexp_step alt_step decl_step exp_step locals_step open_operand_step operand_step rhs_step where_part_step alt_guard_step alt_item_step alts_step decl_item_step decls_step guard_step next_operand_step operands_step part_step redef_step redef_item_step redefs_step (Open-F.Let x0 x1 x2 x3 x4)

pub printed_open_if : (x0 : Span) (x1 : Span) (x2 : Exp) (x3 : Span) (x4 : Exp) (x5 : Span) (x6 : Exp) → open_operand (v_Open.If x0 x1 x2 x3 x4 x5 x6) ≡ opened x0 (at k.If x1 ∷ ((exp x2).flat ++ (at k.Then x3 ∷ ((exp x4).flat ++ (at k.Else x5 ∷ (exp x6).flat))))) ((exp x2).good && ((exp x4).good && (exp x6).good))
unfolding aexp alt decl exp locals open_operand operand rhs where_part alt_guard alt_item alts decl_item decls guard next_operand operands part redef redef_item redefs
printed_open_if x0 x1 x2 x3 x4 x5 x6 = ap open_operand (sym (v_Open.rolls-If x0 x1 x2 x3 x4 x5 x6)) ∙ fold-roll-Open Print Print Print Print Print Print Print Print Print Print Print Print Print Print Print Print Print Print Print Print Print aexp_step alt_step decl_step exp_step locals_step open_operand_step operand_step rhs_step where_part_step alt_guard_step alt_item_step alts_step decl_item_step decls_step guard_step next_operand_step operands_step part_step redef_step redef_item_step redefs_step (Open-F.If x0 x1 x2 x3 x4 x5 x6)

pub printed_operand_apply : (x0 : Span) (x1 : Aexp) (x2 : List Aexp) → operand (v_Operand.Apply x0 x1 x2) ≡ spanned x0 ((aexp x1).flat ++ flat_all (map aexp x2)) ((aexp x1).good && good_all (map aexp x2))
unfolding aexp alt decl exp locals open_operand operand rhs where_part alt_guard alt_item alts decl_item decls guard next_operand operands part redef redef_item redefs
printed_operand_apply x0 x1 x2 = ap operand (sym (v_Operand.rolls-Apply x0 x1 x2)) ∙ fold-roll-Operand Print Print Print Print Print Print Print Print Print Print Print Print Print Print Print Print Print Print Print Print Print aexp_step alt_step decl_step exp_step locals_step open_operand_step operand_step rhs_step where_part_step alt_guard_step alt_item_step alts_step decl_item_step decls_step guard_step next_operand_step operands_step part_step redef_step redef_item_step redefs_step (Operand-F.Apply x0 x1 x2)

pub printed_operand_case : (x0 : Span) (x1 : Span) (x2 : Exp) (x3 : Span) (x4 : Alts) → operand (v_Operand.Case x0 x1 x2 x3 x4) ≡ spanned x0 (at k.Case x1 ∷ ((exp x2).flat ++ (at k.Of x3 ∷ (alts x4).flat))) ((exp x2).good && (alts x4).good)
unfolding aexp alt decl exp locals open_operand operand rhs where_part alt_guard alt_item alts decl_item decls guard next_operand operands part redef redef_item redefs
printed_operand_case x0 x1 x2 x3 x4 = ap operand (sym (v_Operand.rolls-Case x0 x1 x2 x3 x4)) ∙ fold-roll-Operand Print Print Print Print Print Print Print Print Print Print Print Print Print Print Print Print Print Print Print Print Print aexp_step alt_step decl_step exp_step locals_step open_operand_step operand_step rhs_step where_part_step alt_guard_step alt_item_step alts_step decl_item_step decls_step guard_step next_operand_step operands_step part_step redef_step redef_item_step redefs_step (Operand-F.Case x0 x1 x2 x3 x4)

pub printed_operand_open : (x0 : Open) → operand (v_Operand.Open x0) ≡ (open_operand x0)
unfolding aexp alt decl exp locals open_operand operand rhs where_part alt_guard alt_item alts decl_item decls guard next_operand operands part redef redef_item redefs
printed_operand_open x0 = ap operand (sym (v_Operand.rolls-Open x0)) ∙ fold-roll-Operand Print Print Print Print Print Print Print Print Print Print Print Print Print Print Print Print Print Print Print Print Print aexp_step alt_step decl_step exp_step locals_step open_operand_step operand_step rhs_step where_part_step alt_guard_step alt_item_step alts_step decl_item_step decls_step guard_step next_operand_step operands_step part_step redef_step redef_item_step redefs_step (Operand-F.Open x0)

pub printed_rhs_plain : (x0 : Span) (x1 : Span) (x2 : Exp) (x3 : Where) → rhs (v_Rhs.Plain x0 x1 x2 x3) ≡ spanned x0 (at k.Equals x1 ∷ ((exp x2).flat ++ (where_part x3).flat)) ((exp x2).good && (where_part x3).good)
unfolding aexp alt decl exp locals open_operand operand rhs where_part alt_guard alt_item alts decl_item decls guard next_operand operands part redef redef_item redefs
printed_rhs_plain x0 x1 x2 x3 = ap rhs (sym (v_Rhs.rolls-Plain x0 x1 x2 x3)) ∙ fold-roll-Rhs Print Print Print Print Print Print Print Print Print Print Print Print Print Print Print Print Print Print Print Print Print aexp_step alt_step decl_step exp_step locals_step open_operand_step operand_step rhs_step where_part_step alt_guard_step alt_item_step alts_step decl_item_step decls_step guard_step next_operand_step operands_step part_step redef_step redef_item_step redefs_step (Rhs-F.Rhs::Plain x0 x1 x2 x3)

pub printed_rhs_guarded : (x0 : Span) (x1 : Guard) (x2 : List Guard) (x3 : Where) → rhs (v_Rhs.Guarded x0 x1 x2 x3) ≡ spanned x0 ((guard x1).flat ++ (flat_all (map guard x2) ++ (where_part x3).flat)) ((guard x1).good && (good_all (map guard x2) && (where_part x3).good))
unfolding aexp alt decl exp locals open_operand operand rhs where_part alt_guard alt_item alts decl_item decls guard next_operand operands part redef redef_item redefs
printed_rhs_guarded x0 x1 x2 x3 = ap rhs (sym (v_Rhs.rolls-Guarded x0 x1 x2 x3)) ∙ fold-roll-Rhs Print Print Print Print Print Print Print Print Print Print Print Print Print Print Print Print Print Print Print Print Print aexp_step alt_step decl_step exp_step locals_step open_operand_step operand_step rhs_step where_part_step alt_guard_step alt_item_step alts_step decl_item_step decls_step guard_step next_operand_step operands_step part_step redef_step redef_item_step redefs_step (Rhs-F.Rhs::Guarded x0 x1 x2 x3)

pub printed_where_absent : where_part v_Where.Absent ≡ print [] true
unfolding aexp alt decl exp locals open_operand operand rhs where_part alt_guard alt_item alts decl_item decls guard next_operand operands part redef redef_item redefs
printed_where_absent = ap where_part (sym (v_Where.rolls-Absent)) ∙ fold-roll-Where Print Print Print Print Print Print Print Print Print Print Print Print Print Print Print Print Print Print Print Print Print aexp_step alt_step decl_step exp_step locals_step open_operand_step operand_step rhs_step where_part_step alt_guard_step alt_item_step alts_step decl_item_step decls_step guard_step next_operand_step operands_step part_step redef_step redef_item_step redefs_step Where-F.Absent

pub printed_where_block : (x0 : Span) (x1 : Decls) → where_part (v_Where.Block x0 x1) ≡ print (at k.Where x0 ∷ (decls x1).flat) (decls x1).good
unfolding aexp alt decl exp locals open_operand operand rhs where_part alt_guard alt_item alts decl_item decls guard next_operand operands part redef redef_item redefs
printed_where_block x0 x1 = ap where_part (sym (v_Where.rolls-Block x0 x1)) ∙ fold-roll-Where Print Print Print Print Print Print Print Print Print Print Print Print Print Print Print Print Print Print Print Print Print aexp_step alt_step decl_step exp_step locals_step open_operand_step operand_step rhs_step where_part_step alt_guard_step alt_item_step alts_step decl_item_step decls_step guard_step next_operand_step operands_step part_step redef_step redef_item_step redefs_step (Where-F.Block x0 x1)

pub printed_alt_guard : (a_span : Span) (a_bar : Span) (a_test : OperandList) (a_mark : Span) (a_body : Exp) → alt_guard (roll-AltGuard (record { span = a_span; bar = a_bar; test = a_test; mark = a_mark; body = a_body })) ≡ spanned a_span (at k.Bar a_bar ∷ ((operands a_test).flat ++ (at k.Arrow a_mark ∷ (exp a_body).flat))) ((operands a_test).good && (not (operands a_test).is_open && (exp a_body).good))
unfolding aexp alt decl exp locals open_operand operand rhs where_part alt_guard alt_item alts decl_item decls guard next_operand operands part redef redef_item redefs
printed_alt_guard a_span a_bar a_test a_mark a_body = fold-roll-AltGuard Print Print Print Print Print Print Print Print Print Print Print Print Print Print Print Print Print Print Print Print Print aexp_step alt_step decl_step exp_step locals_step open_operand_step operand_step rhs_step where_part_step alt_guard_step alt_item_step alts_step decl_item_step decls_step guard_step next_operand_step operands_step part_step redef_step redef_item_step redefs_step (record { span = a_span; bar = a_bar; test = a_test; mark = a_mark; body = a_body })

pub printed_alt_item : (a_alt : Alt) (a_marks : List BlockMark) → alt_item (roll-AltItem (record { alt = a_alt; marks = a_marks })) ≡ block_part (alt a_alt) a_marks
unfolding aexp alt decl exp locals open_operand operand rhs where_part alt_guard alt_item alts decl_item decls guard next_operand operands part redef redef_item redefs
printed_alt_item a_alt a_marks = fold-roll-AltItem Print Print Print Print Print Print Print Print Print Print Print Print Print Print Print Print Print Print Print Print Print aexp_step alt_step decl_step exp_step locals_step open_operand_step operand_step rhs_step where_part_step alt_guard_step alt_item_step alts_step decl_item_step decls_step guard_step next_operand_step operands_step part_step redef_step redef_item_step redefs_step (record { alt = a_alt; marks = a_marks })

pub printed_alts : (a_span : Span) (a_open : BlockMark) (a_before : List BlockMark) (a_alts : List AltItem) (a_close : BlockMark) → alts (roll-Alts (record { span = a_span; «open» = a_open; before = a_before; alts = a_alts; close = a_close })) ≡ block_some a_span a_open a_before (map alt_item a_alts) a_close
unfolding aexp alt decl exp locals open_operand operand rhs where_part alt_guard alt_item alts decl_item decls guard next_operand operands part redef redef_item redefs
printed_alts a_span a_open a_before a_alts a_close = fold-roll-Alts Print Print Print Print Print Print Print Print Print Print Print Print Print Print Print Print Print Print Print Print Print aexp_step alt_step decl_step exp_step locals_step open_operand_step operand_step rhs_step where_part_step alt_guard_step alt_item_step alts_step decl_item_step decls_step guard_step next_operand_step operands_step part_step redef_step redef_item_step redefs_step (record { span = a_span; «open» = a_open; before = a_before; alts = a_alts; close = a_close })

pub printed_decl_item : (a_decl : Decl) (a_marks : List BlockMark) → decl_item (roll-DeclItem (record { decl = a_decl; marks = a_marks })) ≡ block_part (decl a_decl) a_marks
unfolding aexp alt decl exp locals open_operand operand rhs where_part alt_guard alt_item alts decl_item decls guard next_operand operands part redef redef_item redefs
printed_decl_item a_decl a_marks = fold-roll-DeclItem Print Print Print Print Print Print Print Print Print Print Print Print Print Print Print Print Print Print Print Print Print aexp_step alt_step decl_step exp_step locals_step open_operand_step operand_step rhs_step where_part_step alt_guard_step alt_item_step alts_step decl_item_step decls_step guard_step next_operand_step operands_step part_step redef_step redef_item_step redefs_step (record { decl = a_decl; marks = a_marks })

pub printed_decls : (a_span : Span) (a_open : BlockMark) (a_before : List BlockMark) (a_decls : List DeclItem) (a_close : BlockMark) → decls (roll-Decls (record { span = a_span; «open» = a_open; before = a_before; decls = a_decls; close = a_close })) ≡ block a_span a_open a_before (map decl_item a_decls) a_close
unfolding aexp alt decl exp locals open_operand operand rhs where_part alt_guard alt_item alts decl_item decls guard next_operand operands part redef redef_item redefs
printed_decls a_span a_open a_before a_decls a_close = fold-roll-Decls Print Print Print Print Print Print Print Print Print Print Print Print Print Print Print Print Print Print Print Print Print aexp_step alt_step decl_step exp_step locals_step open_operand_step operand_step rhs_step where_part_step alt_guard_step alt_item_step alts_step decl_item_step decls_step guard_step next_operand_step operands_step part_step redef_step redef_item_step redefs_step (record { span = a_span; «open» = a_open; before = a_before; decls = a_decls; close = a_close })

pub printed_guard : (a_span : Span) (a_bar : Span) (a_test : OperandList) (a_mark : Span) (a_body : Exp) → guard (roll-Guard (record { span = a_span; bar = a_bar; test = a_test; mark = a_mark; body = a_body })) ≡ spanned a_span (at k.Bar a_bar ∷ ((operands a_test).flat ++ (at k.Equals a_mark ∷ (exp a_body).flat))) ((operands a_test).good && (not (operands a_test).is_open && (exp a_body).good))
unfolding aexp alt decl exp locals open_operand operand rhs where_part alt_guard alt_item alts decl_item decls guard next_operand operands part redef redef_item redefs
printed_guard a_span a_bar a_test a_mark a_body = fold-roll-Guard Print Print Print Print Print Print Print Print Print Print Print Print Print Print Print Print Print Print Print Print Print aexp_step alt_step decl_step exp_step locals_step open_operand_step operand_step rhs_step where_part_step alt_guard_step alt_item_step alts_step decl_item_step decls_step guard_step next_operand_step operands_step part_step redef_step redef_item_step redefs_step (record { span = a_span; bar = a_bar; test = a_test; mark = a_mark; body = a_body })

pub printed_next_operand : (a_op : Op) (a_minus : Option Span) (a_operand : Operand) → next_operand (roll-NextOperand (record { op = a_op; minus = a_minus; operand = a_operand })) ≡ record { flat = op_flat a_op ++ (minus_flat a_minus ++ (operand a_operand).flat); good = (operand a_operand).good; is_open = (operand a_operand).is_open; is_var = false; is_parted = false }
unfolding aexp alt decl exp locals open_operand operand rhs where_part alt_guard alt_item alts decl_item decls guard next_operand operands part redef redef_item redefs
printed_next_operand a_op a_minus a_operand = fold-roll-NextOperand Print Print Print Print Print Print Print Print Print Print Print Print Print Print Print Print Print Print Print Print Print aexp_step alt_step decl_step exp_step locals_step open_operand_step operand_step rhs_step where_part_step alt_guard_step alt_item_step alts_step decl_item_step decls_step guard_step next_operand_step operands_step part_step redef_step redef_item_step redefs_step (record { op = a_op; minus = a_minus; operand = a_operand })

pub printed_operands : (a_span : Span) (a_minus : Option Span) (a_first : Operand) (a_others : List NextOperand) → operands (roll-OperandList (record { span = a_span; minus = a_minus; first = a_first; others = a_others })) ≡ operands_of a_span (minus_flat a_minus) (operand a_first) (map next_operand a_others)
unfolding aexp alt decl exp locals open_operand operand rhs where_part alt_guard alt_item alts decl_item decls guard next_operand operands part redef redef_item redefs
printed_operands a_span a_minus a_first a_others = fold-roll-OperandList Print Print Print Print Print Print Print Print Print Print Print Print Print Print Print Print Print Print Print Print Print aexp_step alt_step decl_step exp_step locals_step open_operand_step operand_step rhs_step where_part_step alt_guard_step alt_item_step alts_step decl_item_step decls_step guard_step next_operand_step operands_step part_step redef_step redef_item_step redefs_step (record { span = a_span; minus = a_minus; first = a_first; others = a_others })

pub printed_part : (a_mark : Span) (a_exp : Exp) → part (roll-Part (record { mark = a_mark; exp = a_exp })) ≡ print (at k.Comma a_mark ∷ (exp a_exp).flat) (exp a_exp).good
unfolding aexp alt decl exp locals open_operand operand rhs where_part alt_guard alt_item alts decl_item decls guard next_operand operands part redef redef_item redefs
printed_part a_mark a_exp = fold-roll-Part Print Print Print Print Print Print Print Print Print Print Print Print Print Print Print Print Print Print Print Print Print aexp_step alt_step decl_step exp_step locals_step open_operand_step operand_step rhs_step where_part_step alt_guard_step alt_item_step alts_step decl_item_step decls_step guard_step next_operand_step operands_step part_step redef_step redef_item_step redefs_step (record { mark = a_mark; exp = a_exp })

pub printed_redef : (a_span : Span) (a_function : Var) (a_open : Span) (a_variable : Name) (a_close : Span) (a_equals : Span) (a_body : Exp) → redef (roll-Redef (record { span = a_span; function = a_function; «open» = a_open; variable = a_variable; close = a_close; equals = a_equals; body = a_body })) ≡ spanned a_span (var a_function ++ (at k.OpenBanana a_open ∷ var_id a_variable ∷ at k.CloseBanana a_close ∷ at k.Equals a_equals ∷ (exp a_body).flat)) (plain a_variable && (exp a_body).good)
unfolding aexp alt decl exp locals open_operand operand rhs where_part alt_guard alt_item alts decl_item decls guard next_operand operands part redef redef_item redefs
printed_redef a_span a_function a_open a_variable a_close a_equals a_body = fold-roll-Redef Print Print Print Print Print Print Print Print Print Print Print Print Print Print Print Print Print Print Print Print Print aexp_step alt_step decl_step exp_step locals_step open_operand_step operand_step rhs_step where_part_step alt_guard_step alt_item_step alts_step decl_item_step decls_step guard_step next_operand_step operands_step part_step redef_step redef_item_step redefs_step (record { span = a_span; function = a_function; «open» = a_open; variable = a_variable; close = a_close; equals = a_equals; body = a_body })

pub printed_redef_item : (a_redef : Redef) (a_marks : List BlockMark) → redef_item (roll-RedefItem (record { redef = a_redef; marks = a_marks })) ≡ block_part (redef a_redef) a_marks
unfolding aexp alt decl exp locals open_operand operand rhs where_part alt_guard alt_item alts decl_item decls guard next_operand operands part redef redef_item redefs
printed_redef_item a_redef a_marks = fold-roll-RedefItem Print Print Print Print Print Print Print Print Print Print Print Print Print Print Print Print Print Print Print Print Print aexp_step alt_step decl_step exp_step locals_step open_operand_step operand_step rhs_step where_part_step alt_guard_step alt_item_step alts_step decl_item_step decls_step guard_step next_operand_step operands_step part_step redef_step redef_item_step redefs_step (record { redef = a_redef; marks = a_marks })

pub printed_redefs : (a_span : Span) (a_open : BlockMark) (a_before : List BlockMark) (a_redefs : List RedefItem) (a_close : BlockMark) → redefs (roll-Redefs (record { span = a_span; «open» = a_open; before = a_before; redefs = a_redefs; close = a_close })) ≡ block_some a_span a_open a_before (map redef_item a_redefs) a_close
unfolding aexp alt decl exp locals open_operand operand rhs where_part alt_guard alt_item alts decl_item decls guard next_operand operands part redef redef_item redefs
printed_redefs a_span a_open a_before a_redefs a_close = fold-roll-Redefs Print Print Print Print Print Print Print Print Print Print Print Print Print Print Print Print Print Print Print Print Print aexp_step alt_step decl_step exp_step locals_step open_operand_step operand_step rhs_step where_part_step alt_guard_step alt_item_step alts_step decl_item_step decls_step guard_step next_operand_step operands_step part_step redef_step redef_item_step redefs_step (record { span = a_span; «open» = a_open; before = a_before; redefs = a_redefs; close = a_close })

pub ruleset printed = (printed_arg_type_con, printed_arg_type_var, printed_arg_type_unit, printed_arg_type_no_list, printed_arg_type_no_arrow, printed_arg_type_no_tuple, printed_arg_type_paren, printed_arg_type_tuple, printed_arg_type_list, printed_arrow, printed_btype, printed_type_expr, printed_type_part, printed_arg_pattern_var, printed_arg_pattern_as, printed_arg_pattern_wild, printed_arg_pattern_con, printed_arg_pattern_int, printed_arg_pattern_char, printed_arg_pattern_str, printed_arg_pattern_paren, printed_arg_pattern_tuple, printed_arg_pattern_list, printed_pat_operand_negative, printed_pat_operand_arg, printed_pat_operand_con, printed_next_pattern, printed_pat_part, printed_pattern, printed_fun_lhs_prefix, printed_fun_lhs_infix, printed_fun_lhs_nested, printed_aexp_var, printed_aexp_generic, printed_aexp_con, printed_aexp_int, printed_aexp_char, printed_aexp_str, printed_aexp_paren, printed_aexp_tuple, printed_aexp_list, printed_aexp_left, printed_aexp_right, printed_alt_plain, printed_alt_guarded, printed_decl_signature, printed_decl_fixity, printed_decl_function, printed_decl_pattern, printed_exp_plain, printed_exp_typed, printed_locals_decls, printed_locals_redefs, printed_open_lambda, printed_open_let, printed_open_if, printed_operand_apply, printed_operand_case, printed_operand_open, printed_rhs_plain, printed_rhs_guarded, printed_where_absent, printed_where_block, printed_alt_guard, printed_alt_item, printed_alts, printed_decl_item, printed_decls, printed_guard, printed_next_operand, printed_operands, printed_part, printed_redef, printed_redef_item, printed_redefs)
