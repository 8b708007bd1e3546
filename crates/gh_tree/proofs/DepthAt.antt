-- The depth of each node, in numbers that stand still at the greatest `u32`.
use Rattle.std.proofs.Common.{◌≡◌, ℕ, ◌+◌, max, List, length, map, Option, sym, ap, ◌∙◌}
use Rattle.gh_base.specs.declared.place.Span.{Span}
use Rattle.gh_tree.specs.declared.names.Name.{Name}
use Rattle.gh_tree.specs.declared.names.Var.{Var}
use Rattle.gh_tree.specs.declared.names.VarOp.{VarOp}
use Rattle.gh_tree.specs.declared.names.Op.{Op}
use Rattle.gh_tree.specs.declared.names.GenCon.{GenCon}
use Rattle.gh_tree.specs.declared.names.FixityWord.{FixityWord}
use Rattle.gh_tree.specs.declared.names.NextVar.{NextVar}
use Rattle.gh_tree.specs.declared.names.NextOp.{NextOp}
use Rattle.gh_tree.specs.declared.types.ArgType.{fold-roll-ArgType}
use Rattle.gh_tree.specs.declared.types.ArgType.TheVariants as v_ArgType
use Rattle.gh_tree.specs.declared.types.Arrow.{Arrow, out-Arrow, fold_out-Arrow}
use Rattle.gh_tree.specs.declared.types.BType.{BType, out-BType, fold_out-BType}
use Rattle.gh_tree.specs.declared.types.TypeExpr.{TypeExpr, out-TypeExpr, fold_out-TypeExpr}
use Rattle.gh_tree.specs.declared.types.TypePart.{TypePart, out-TypePart, fold_out-TypePart}
use Rattle.gh_tree.specs.declared.types.ArgType.TheOpen.{ArgType-F}
use Rattle.gh_tree.specs.declared.patterns.ArgPattern.{ArgPattern, fold-roll-ArgPattern}
use Rattle.gh_tree.specs.declared.patterns.ArgPattern.TheVariants as v_ArgPattern
use Rattle.gh_tree.specs.declared.patterns.PatOperand.{PatOperand, fold-roll-PatOperand}
use Rattle.gh_tree.specs.declared.patterns.PatOperand.TheVariants as v_PatOperand
use Rattle.gh_tree.specs.declared.patterns.NextPattern.{NextPattern, out-NextPattern, fold_out-NextPattern}
use Rattle.gh_tree.specs.declared.patterns.PatPart.{PatPart, out-PatPart, fold_out-PatPart}
use Rattle.gh_tree.specs.declared.patterns.Pattern.{Pattern, out-Pattern, fold_out-Pattern}
use Rattle.gh_tree.specs.declared.patterns.ArgPattern.TheOpen.{ArgPattern-F, PatOperand-F}
use Rattle.gh_tree.specs.declared.patterns.FunLhs.{FunLhs, fold-roll-FunLhs}
use Rattle.gh_tree.specs.declared.patterns.FunLhs.TheVariants as v_FunLhs
use Rattle.gh_tree.specs.declared.patterns.FunLhs.TheOpen.{FunLhs-F}
use Rattle.gh_tree.specs.declared.expressions.Aexp.{Aexp, fold-roll-Aexp}
use Rattle.gh_tree.specs.declared.expressions.Aexp.TheVariants as v_Aexp
use Rattle.gh_tree.specs.declared.expressions.Alt.{fold-roll-Alt}
use Rattle.gh_tree.specs.declared.expressions.Alt.TheVariants as v_Alt
use Rattle.gh_tree.specs.declared.expressions.Decl.{fold-roll-Decl}
use Rattle.gh_tree.specs.declared.expressions.Decl.TheVariants as v_Decl
use Rattle.gh_tree.specs.declared.expressions.Exp.{Exp, fold-roll-Exp}
use Rattle.gh_tree.specs.declared.expressions.Exp.TheVariants as v_Exp
use Rattle.gh_tree.specs.declared.expressions.Locals.{Locals, fold-roll-Locals}
use Rattle.gh_tree.specs.declared.expressions.Locals.TheVariants as v_Locals
use Rattle.gh_tree.specs.declared.expressions.Open.{Open, fold-roll-Open}
use Rattle.gh_tree.specs.declared.expressions.Open.TheVariants as v_Open
use Rattle.gh_tree.specs.declared.expressions.Operand.{fold-roll-Operand}
use Rattle.gh_tree.specs.declared.expressions.Operand.TheVariants as v_Operand
use Rattle.gh_tree.specs.declared.expressions.Rhs.{Rhs, fold-roll-Rhs}
use Rattle.gh_tree.specs.declared.expressions.Rhs.TheVariants as v_Rhs
use Rattle.gh_tree.specs.declared.expressions.Where.{Where, fold-roll-Where}
use Rattle.gh_tree.specs.declared.expressions.Where.TheVariants as v_Where
use Rattle.gh_tree.specs.declared.expressions.AltGuard.{AltGuard, out-AltGuard, fold_out-AltGuard}
use Rattle.gh_tree.specs.declared.expressions.AltItem.{AltItem, out-AltItem, fold_out-AltItem}
use Rattle.gh_tree.specs.declared.expressions.Alts.{Alts, out-Alts, fold_out-Alts}
use Rattle.gh_tree.specs.declared.expressions.DeclItem.{DeclItem, out-DeclItem, fold_out-DeclItem}
use Rattle.gh_tree.specs.declared.expressions.Decls.{Decls, out-Decls, fold_out-Decls}
use Rattle.gh_tree.specs.declared.expressions.Guard.{Guard, out-Guard, fold_out-Guard}
use Rattle.gh_tree.specs.declared.expressions.NextOperand.{NextOperand, out-NextOperand, fold_out-NextOperand}
use Rattle.gh_tree.specs.declared.expressions.OperandList.{OperandList, out-OperandList, fold_out-OperandList}
use Rattle.gh_tree.specs.declared.expressions.Part.{Part, out-Part, fold_out-Part}
use Rattle.gh_tree.specs.declared.expressions.Redef.{Redef, out-Redef, fold_out-Redef}
use Rattle.gh_tree.specs.declared.expressions.RedefItem.{RedefItem, out-RedefItem, fold_out-RedefItem}
use Rattle.gh_tree.specs.declared.expressions.Redefs.{Redefs, out-Redefs, fold_out-Redefs}
use Rattle.gh_tree.specs.declared.expressions.Aexp.TheOpen.{Aexp-F, Alt-F, Decl-F, Exp-F, Locals-F, Open-F, Operand-F, Rhs-F, Where-F}
use Rattle.gh_tree.specs.Depth.{capped, capped_sum, weight_of, deepest, arg_type_depth, arrow_depth, btype_depth, type_depth, type_part_depth, arg_pattern_depth, pat_operand_depth, next_pattern_depth, pat_part_depth, pattern_depth, fun_lhs_depth, aexp_depth, alt_depth, decl_depth, exp_depth, locals_depth, open_depth, operand_depth, rhs_depth, where_depth, alt_guard_depth, alt_item_depth, alts_depth, decl_item_depth, decls_depth, guard_depth, next_operand_depth, operands_depth, part_depth, redef_depth, redef_item_depth, redefs_depth, arg_type_step, arrow_step, btype_step, type_step, type_part_step, arg_pattern_step, pat_operand_step, next_pattern_step, pat_part_step, pattern_step, fun_lhs_step, aexp_step, alt_step, decl_step, exp_step, locals_step, open_step, operand_step, rhs_step, where_step, alt_guard_step, alt_item_step, alts_step, decl_item_step, decls_step, guard_step, next_operand_step, operands_step, part_step, redef_step, redef_item_step, redefs_step}
use Rattle.std.proofs.lemmas.List.{length-map}
use Rattle.gh_tree.proofs.Capped.{capped_max, capped_adds, zero_is, one_is, two_is}

pub arg_type_con : (x0 : Name) → capped (arg_type_depth (v_ArgType.Con x0)) ≡ 1
unfolding arg_type_depth arrow_depth btype_depth type_depth type_part_depth
arg_type_con x0 = ap (λ d. capped d) (ap arg_type_depth (sym (v_ArgType.rolls-Con x0)) ∙ fold-roll-ArgType ℕ ℕ ℕ ℕ ℕ arg_type_step arrow_step btype_step type_step type_part_step (ArgType-F.Con x0)) ∙ sym one_is

pub arg_type_var : (x0 : Name) → capped (arg_type_depth (v_ArgType.Var x0)) ≡ 1
unfolding arg_type_depth arrow_depth btype_depth type_depth type_part_depth
arg_type_var x0 = ap (λ d. capped d) (ap arg_type_depth (sym (v_ArgType.rolls-Var x0)) ∙ fold-roll-ArgType ℕ ℕ ℕ ℕ ℕ arg_type_step arrow_step btype_step type_step type_part_step (ArgType-F.Var x0)) ∙ sym one_is

pub arg_type_unit : (x0 : Span) (x1 : Span) (x2 : Span) → capped (arg_type_depth (v_ArgType.Unit x0 x1 x2)) ≡ 1
unfolding arg_type_depth arrow_depth btype_depth type_depth type_part_depth
arg_type_unit x0 x1 x2 = ap (λ d. capped d) (ap arg_type_depth (sym (v_ArgType.rolls-Unit x0 x1 x2)) ∙ fold-roll-ArgType ℕ ℕ ℕ ℕ ℕ arg_type_step arrow_step btype_step type_step type_part_step (ArgType-F.Unit x0 x1 x2)) ∙ sym one_is

pub arg_type_no_list : (x0 : Span) (x1 : Span) (x2 : Span) → capped (arg_type_depth (v_ArgType.NoList x0 x1 x2)) ≡ 1
unfolding arg_type_depth arrow_depth btype_depth type_depth type_part_depth
arg_type_no_list x0 x1 x2 = ap (λ d. capped d) (ap arg_type_depth (sym (v_ArgType.rolls-NoList x0 x1 x2)) ∙ fold-roll-ArgType ℕ ℕ ℕ ℕ ℕ arg_type_step arrow_step btype_step type_step type_part_step (ArgType-F.NoList x0 x1 x2)) ∙ sym one_is

pub arg_type_no_arrow : (x0 : Span) (x1 : Span) (x2 : Span) (x3 : Span) → capped (arg_type_depth (v_ArgType.NoArrow x0 x1 x2 x3)) ≡ 1
unfolding arg_type_depth arrow_depth btype_depth type_depth type_part_depth
arg_type_no_arrow x0 x1 x2 x3 = ap (λ d. capped d) (ap arg_type_depth (sym (v_ArgType.rolls-NoArrow x0 x1 x2 x3)) ∙ fold-roll-ArgType ℕ ℕ ℕ ℕ ℕ arg_type_step arrow_step btype_step type_step type_part_step (ArgType-F.NoArrow x0 x1 x2 x3)) ∙ sym one_is

pub arg_type_no_tuple : (x0 : Span) (x1 : Span) (x2 : List Span) (x3 : Span) → capped (arg_type_depth (v_ArgType.NoTuple x0 x1 x2 x3)) ≡ 1
unfolding arg_type_depth arrow_depth btype_depth type_depth type_part_depth
arg_type_no_tuple x0 x1 x2 x3 = ap (λ d. capped d) (ap arg_type_depth (sym (v_ArgType.rolls-NoTuple x0 x1 x2 x3)) ∙ fold-roll-ArgType ℕ ℕ ℕ ℕ ℕ arg_type_step arrow_step btype_step type_step type_part_step (ArgType-F.NoTuple x0 x1 x2 x3)) ∙ sym one_is

pub arg_type_paren : (x0 : Span) (x1 : Span) (x2 : TypeExpr) (x3 : Span) → capped (arg_type_depth (v_ArgType.Paren x0 x1 x2 x3)) ≡ capped_sum (capped 1) (capped (type_depth x2))
unfolding arg_type_depth arrow_depth btype_depth type_depth type_part_depth
arg_type_paren x0 x1 x2 x3 = ap (λ d. capped d) (ap arg_type_depth (sym (v_ArgType.rolls-Paren x0 x1 x2 x3)) ∙ fold-roll-ArgType ℕ ℕ ℕ ℕ ℕ arg_type_step arrow_step btype_step type_step type_part_step (ArgType-F.Paren x0 x1 x2 x3)) ∙ sym (capped_adds 1 (type_depth x2))

pub arg_type_tuple : (x0 : Span) (x1 : Span) (x2 : TypeExpr) (x3 : List TypePart) (x4 : Span) → capped (arg_type_depth (v_ArgType.Tuple x0 x1 x2 x3 x4)) ≡ capped_sum (capped (1 + length x3)) (max (capped (type_depth x2)) (capped (deepest (map type_part_depth x3))))
unfolding arg_type_depth arrow_depth btype_depth type_depth type_part_depth
arg_type_tuple x0 x1 x2 x3 x4 = ap (λ d. capped d) (ap arg_type_depth (sym (v_ArgType.rolls-Tuple x0 x1 x2 x3 x4)) ∙ fold-roll-ArgType ℕ ℕ ℕ ℕ ℕ arg_type_step arrow_step btype_step type_step type_part_step (ArgType-F.Tuple x0 x1 x2 x3 x4)) ∙ ap (λ (n : ℕ). capped (1 + n + (max (type_depth x2) (deepest (map type_part_depth x3))))) (length-map x3 type_part_depth) ∙ sym (capped_adds (1 + length x3) (max (type_depth x2) (deepest (map type_part_depth x3)))) ∙ ap (capped_sum (capped (1 + length x3))) (sym (capped_max (type_depth x2) (deepest (map type_part_depth x3))))

pub arg_type_list : (x0 : Span) (x1 : Span) (x2 : TypeExpr) (x3 : Span) → capped (arg_type_depth (v_ArgType.List x0 x1 x2 x3)) ≡ capped_sum (capped 1) (capped (type_depth x2))
unfolding arg_type_depth arrow_depth btype_depth type_depth type_part_depth
arg_type_list x0 x1 x2 x3 = ap (λ d. capped d) (ap arg_type_depth (sym (v_ArgType.rolls-List x0 x1 x2 x3)) ∙ fold-roll-ArgType ℕ ℕ ℕ ℕ ℕ arg_type_step arrow_step btype_step type_step type_part_step (ArgType-F.List x0 x1 x2 x3)) ∙ sym (capped_adds 1 (type_depth x2))

pub arrow_at : (x : Arrow) → capped (arrow_depth x) ≡ capped (btype_depth (out-Arrow x).to)
unfolding arg_type_depth arrow_depth btype_depth type_depth type_part_depth
arrow_at x = ap (λ d. capped d) (fold_out-Arrow ℕ ℕ ℕ ℕ ℕ arg_type_step arrow_step btype_step type_step type_part_step x)

pub btype_at : (x : BType) → capped (btype_depth x) ≡ capped_sum (capped (weight_of (length (out-BType x).args))) (max (capped (arg_type_depth (out-BType x).head)) (capped (deepest (map arg_type_depth (out-BType x).args))))
unfolding arg_type_depth arrow_depth btype_depth type_depth type_part_depth
btype_at x = ap (λ d. capped d) (fold_out-BType ℕ ℕ ℕ ℕ ℕ arg_type_step arrow_step btype_step type_step type_part_step x) ∙ ap (λ (n : ℕ). capped (weight_of n + (max (arg_type_depth (out-BType x).head) (deepest (map arg_type_depth (out-BType x).args))))) (length-map ((out-BType x).args) arg_type_depth) ∙ sym (capped_adds (weight_of (length (out-BType x).args)) (max (arg_type_depth (out-BType x).head) (deepest (map arg_type_depth (out-BType x).args)))) ∙ ap (capped_sum (capped (weight_of (length (out-BType x).args)))) (sym (capped_max (arg_type_depth (out-BType x).head) (deepest (map arg_type_depth (out-BType x).args))))

pub type_at : (x : TypeExpr) → capped (type_depth x) ≡ capped_sum (capped (1 + length (out-TypeExpr x).arrows)) (max (capped (btype_depth (out-TypeExpr x).first)) (capped (deepest (map arrow_depth (out-TypeExpr x).arrows))))
unfolding arg_type_depth arrow_depth btype_depth type_depth type_part_depth
type_at x = ap (λ d. capped d) (fold_out-TypeExpr ℕ ℕ ℕ ℕ ℕ arg_type_step arrow_step btype_step type_step type_part_step x) ∙ ap (λ (n : ℕ). capped (1 + n + (max (btype_depth (out-TypeExpr x).first) (deepest (map arrow_depth (out-TypeExpr x).arrows))))) (length-map ((out-TypeExpr x).arrows) arrow_depth) ∙ sym (capped_adds (1 + length (out-TypeExpr x).arrows) (max (btype_depth (out-TypeExpr x).first) (deepest (map arrow_depth (out-TypeExpr x).arrows)))) ∙ ap (capped_sum (capped (1 + length (out-TypeExpr x).arrows))) (sym (capped_max (btype_depth (out-TypeExpr x).first) (deepest (map arrow_depth (out-TypeExpr x).arrows))))

pub type_part_at : (x : TypePart) → capped (type_part_depth x) ≡ capped (type_depth (out-TypePart x).part)
unfolding arg_type_depth arrow_depth btype_depth type_depth type_part_depth
type_part_at x = ap (λ d. capped d) (fold_out-TypePart ℕ ℕ ℕ ℕ ℕ arg_type_step arrow_step btype_step type_step type_part_step x)

pub arg_pattern_var : (x0 : Var) → capped (arg_pattern_depth (v_ArgPattern.Var x0)) ≡ 1
unfolding arg_pattern_depth pat_operand_depth next_pattern_depth pat_part_depth pattern_depth
arg_pattern_var x0 = ap (λ d. capped d) (ap arg_pattern_depth (sym (v_ArgPattern.rolls-Var x0)) ∙ fold-roll-ArgPattern ℕ ℕ ℕ ℕ ℕ arg_pattern_step pat_operand_step next_pattern_step pat_part_step pattern_step (ArgPattern-F.Var x0)) ∙ sym one_is

pub arg_pattern_as : (x0 : Span) (x1 : Var) (x2 : Span) (x3 : ArgPattern) → capped (arg_pattern_depth (v_ArgPattern.As x0 x1 x2 x3)) ≡ capped_sum (capped 1) (capped (arg_pattern_depth x3))
unfolding arg_pattern_depth pat_operand_depth next_pattern_depth pat_part_depth pattern_depth
arg_pattern_as x0 x1 x2 x3 = ap (λ d. capped d) (ap arg_pattern_depth (sym (v_ArgPattern.rolls-As x0 x1 x2 x3)) ∙ fold-roll-ArgPattern ℕ ℕ ℕ ℕ ℕ arg_pattern_step pat_operand_step next_pattern_step pat_part_step pattern_step (ArgPattern-F.As x0 x1 x2 x3)) ∙ sym (capped_adds 1 (arg_pattern_depth x3))

pub arg_pattern_wild : (x0 : Span) → capped (arg_pattern_depth (v_ArgPattern.Wild x0)) ≡ 1
unfolding arg_pattern_depth pat_operand_depth next_pattern_depth pat_part_depth pattern_depth
arg_pattern_wild x0 = ap (λ d. capped d) (ap arg_pattern_depth (sym (v_ArgPattern.rolls-Wild x0)) ∙ fold-roll-ArgPattern ℕ ℕ ℕ ℕ ℕ arg_pattern_step pat_operand_step next_pattern_step pat_part_step pattern_step (ArgPattern-F.Wild x0)) ∙ sym one_is

pub arg_pattern_con : (x0 : GenCon) → capped (arg_pattern_depth (v_ArgPattern.Con x0)) ≡ 2
unfolding arg_pattern_depth pat_operand_depth next_pattern_depth pat_part_depth pattern_depth
arg_pattern_con x0 = ap (λ d. capped d) (ap arg_pattern_depth (sym (v_ArgPattern.rolls-Con x0)) ∙ fold-roll-ArgPattern ℕ ℕ ℕ ℕ ℕ arg_pattern_step pat_operand_step next_pattern_step pat_part_step pattern_step (ArgPattern-F.ArgPattern::Con x0)) ∙ sym two_is

pub arg_pattern_int : (x0 : Span) (x1 : ℕ) → capped (arg_pattern_depth (v_ArgPattern.Int x0 x1)) ≡ 1
unfolding arg_pattern_depth pat_operand_depth next_pattern_depth pat_part_depth pattern_depth
arg_pattern_int x0 x1 = ap (λ d. capped d) (ap arg_pattern_depth (sym (v_ArgPattern.rolls-Int x0 x1)) ∙ fold-roll-ArgPattern ℕ ℕ ℕ ℕ ℕ arg_pattern_step pat_operand_step next_pattern_step pat_part_step pattern_step (ArgPattern-F.Int x0 x1)) ∙ sym one_is

pub arg_pattern_char : (x0 : Span) (x1 : ℕ) → capped (arg_pattern_depth (v_ArgPattern.Char x0 x1)) ≡ 1
unfolding arg_pattern_depth pat_operand_depth next_pattern_depth pat_part_depth pattern_depth
arg_pattern_char x0 x1 = ap (λ d. capped d) (ap arg_pattern_depth (sym (v_ArgPattern.rolls-Char x0 x1)) ∙ fold-roll-ArgPattern ℕ ℕ ℕ ℕ ℕ arg_pattern_step pat_operand_step next_pattern_step pat_part_step pattern_step (ArgPattern-F.Char x0 x1)) ∙ sym one_is

pub arg_pattern_str : (x0 : Span) (x1 : List ℕ) → capped (arg_pattern_depth (v_ArgPattern.Str x0 x1)) ≡ 1
unfolding arg_pattern_depth pat_operand_depth next_pattern_depth pat_part_depth pattern_depth
arg_pattern_str x0 x1 = ap (λ d. capped d) (ap arg_pattern_depth (sym (v_ArgPattern.rolls-Str x0 x1)) ∙ fold-roll-ArgPattern ℕ ℕ ℕ ℕ ℕ arg_pattern_step pat_operand_step next_pattern_step pat_part_step pattern_step (ArgPattern-F.Str x0 x1)) ∙ sym one_is

pub arg_pattern_paren : (x0 : Span) (x1 : Span) (x2 : Pattern) (x3 : Span) → capped (arg_pattern_depth (v_ArgPattern.Paren x0 x1 x2 x3)) ≡ capped_sum (capped 1) (capped (pattern_depth x2))
unfolding arg_pattern_depth pat_operand_depth next_pattern_depth pat_part_depth pattern_depth
arg_pattern_paren x0 x1 x2 x3 = ap (λ d. capped d) (ap arg_pattern_depth (sym (v_ArgPattern.rolls-Paren x0 x1 x2 x3)) ∙ fold-roll-ArgPattern ℕ ℕ ℕ ℕ ℕ arg_pattern_step pat_operand_step next_pattern_step pat_part_step pattern_step (ArgPattern-F.Paren x0 x1 x2 x3)) ∙ sym (capped_adds 1 (pattern_depth x2))

pub arg_pattern_tuple : (x0 : Span) (x1 : Span) (x2 : Pattern) (x3 : List PatPart) (x4 : Span) → capped (arg_pattern_depth (v_ArgPattern.Tuple x0 x1 x2 x3 x4)) ≡ capped_sum (capped (1 + length x3)) (max (capped (pattern_depth x2)) (capped (deepest (map pat_part_depth x3))))
unfolding arg_pattern_depth pat_operand_depth next_pattern_depth pat_part_depth pattern_depth
arg_pattern_tuple x0 x1 x2 x3 x4 = ap (λ d. capped d) (ap arg_pattern_depth (sym (v_ArgPattern.rolls-Tuple x0 x1 x2 x3 x4)) ∙ fold-roll-ArgPattern ℕ ℕ ℕ ℕ ℕ arg_pattern_step pat_operand_step next_pattern_step pat_part_step pattern_step (ArgPattern-F.Tuple x0 x1 x2 x3 x4)) ∙ ap (λ (n : ℕ). capped (1 + n + (max (pattern_depth x2) (deepest (map pat_part_depth x3))))) (length-map x3 pat_part_depth) ∙ sym (capped_adds (1 + length x3) (max (pattern_depth x2) (deepest (map pat_part_depth x3)))) ∙ ap (capped_sum (capped (1 + length x3))) (sym (capped_max (pattern_depth x2) (deepest (map pat_part_depth x3))))

pub arg_pattern_list : (x0 : Span) (x1 : Span) (x2 : Pattern) (x3 : List PatPart) (x4 : Span) → capped (arg_pattern_depth (v_ArgPattern.List x0 x1 x2 x3 x4)) ≡ capped_sum (capped (1 + length x3)) (max (capped (pattern_depth x2)) (capped (deepest (map pat_part_depth x3))))
unfolding arg_pattern_depth pat_operand_depth next_pattern_depth pat_part_depth pattern_depth
arg_pattern_list x0 x1 x2 x3 x4 = ap (λ d. capped d) (ap arg_pattern_depth (sym (v_ArgPattern.rolls-List x0 x1 x2 x3 x4)) ∙ fold-roll-ArgPattern ℕ ℕ ℕ ℕ ℕ arg_pattern_step pat_operand_step next_pattern_step pat_part_step pattern_step (ArgPattern-F.List x0 x1 x2 x3 x4)) ∙ ap (λ (n : ℕ). capped (1 + n + (max (pattern_depth x2) (deepest (map pat_part_depth x3))))) (length-map x3 pat_part_depth) ∙ sym (capped_adds (1 + length x3) (max (pattern_depth x2) (deepest (map pat_part_depth x3)))) ∙ ap (capped_sum (capped (1 + length x3))) (sym (capped_max (pattern_depth x2) (deepest (map pat_part_depth x3))))

pub pat_operand_negative : (x0 : Span) (x1 : Span) (x2 : Span) (x3 : ℕ) → capped (pat_operand_depth (v_PatOperand.Negative x0 x1 x2 x3)) ≡ 1
unfolding arg_pattern_depth pat_operand_depth next_pattern_depth pat_part_depth pattern_depth
pat_operand_negative x0 x1 x2 x3 = ap (λ d. capped d) (ap pat_operand_depth (sym (v_PatOperand.rolls-Negative x0 x1 x2 x3)) ∙ fold-roll-PatOperand ℕ ℕ ℕ ℕ ℕ arg_pattern_step pat_operand_step next_pattern_step pat_part_step pattern_step (PatOperand-F.Negative x0 x1 x2 x3)) ∙ sym one_is

pub pat_operand_arg : (x0 : ArgPattern) → capped (pat_operand_depth (v_PatOperand.Arg x0)) ≡ capped_sum (capped 1) (capped (arg_pattern_depth x0))
unfolding arg_pattern_depth pat_operand_depth next_pattern_depth pat_part_depth pattern_depth
pat_operand_arg x0 = ap (λ d. capped d) (ap pat_operand_depth (sym (v_PatOperand.rolls-Arg x0)) ∙ fold-roll-PatOperand ℕ ℕ ℕ ℕ ℕ arg_pattern_step pat_operand_step next_pattern_step pat_part_step pattern_step (PatOperand-F.Arg x0)) ∙ sym (capped_adds 1 (arg_pattern_depth x0))

pub pat_operand_con : (x0 : Span) (x1 : GenCon) (x2 : ArgPattern) (x3 : List ArgPattern) → capped (pat_operand_depth (v_PatOperand.Con x0 x1 x2 x3)) ≡ capped_sum (capped (1 + length x3)) (max (capped 1) (max (capped (arg_pattern_depth x2)) (capped (deepest (map arg_pattern_depth x3)))))
unfolding arg_pattern_depth pat_operand_depth next_pattern_depth pat_part_depth pattern_depth
pat_operand_con x0 x1 x2 x3 = ap (λ d. capped d) (ap pat_operand_depth (sym (v_PatOperand.rolls-Con x0 x1 x2 x3)) ∙ fold-roll-PatOperand ℕ ℕ ℕ ℕ ℕ arg_pattern_step pat_operand_step next_pattern_step pat_part_step pattern_step (PatOperand-F.PatOperand::Con x0 x1 x2 x3)) ∙ ap (λ (n : ℕ). capped (1 + n + (max 1 (max (arg_pattern_depth x2) (deepest (map arg_pattern_depth x3)))))) (length-map x3 arg_pattern_depth) ∙ sym (capped_adds (1 + length x3) (max 1 (max (arg_pattern_depth x2) (deepest (map arg_pattern_depth x3))))) ∙ ap (capped_sum (capped (1 + length x3))) (sym (capped_max 1 (max (arg_pattern_depth x2) (deepest (map arg_pattern_depth x3)))) ∙ ap (max (capped 1)) (sym (capped_max (arg_pattern_depth x2) (deepest (map arg_pattern_depth x3)))))

pub next_pattern_at : (x : NextPattern) → capped (next_pattern_depth x) ≡ capped (pat_operand_depth (out-NextPattern x).operand)
unfolding arg_pattern_depth pat_operand_depth next_pattern_depth pat_part_depth pattern_depth
next_pattern_at x = ap (λ d. capped d) (fold_out-NextPattern ℕ ℕ ℕ ℕ ℕ arg_pattern_step pat_operand_step next_pattern_step pat_part_step pattern_step x)

pub pat_part_at : (x : PatPart) → capped (pat_part_depth x) ≡ capped (pattern_depth (out-PatPart x).part)
unfolding arg_pattern_depth pat_operand_depth next_pattern_depth pat_part_depth pattern_depth
pat_part_at x = ap (λ d. capped d) (fold_out-PatPart ℕ ℕ ℕ ℕ ℕ arg_pattern_step pat_operand_step next_pattern_step pat_part_step pattern_step x)

pub pattern_at : (x : Pattern) → capped (pattern_depth x) ≡ capped_sum (capped (1 + length (out-Pattern x).others)) (max (capped (pat_operand_depth (out-Pattern x).first)) (capped (deepest (map next_pattern_depth (out-Pattern x).others))))
unfolding arg_pattern_depth pat_operand_depth next_pattern_depth pat_part_depth pattern_depth
pattern_at x = ap (λ d. capped d) (fold_out-Pattern ℕ ℕ ℕ ℕ ℕ arg_pattern_step pat_operand_step next_pattern_step pat_part_step pattern_step x) ∙ ap (λ (n : ℕ). capped (1 + n + (max (pat_operand_depth (out-Pattern x).first) (deepest (map next_pattern_depth (out-Pattern x).others))))) (length-map ((out-Pattern x).others) next_pattern_depth) ∙ sym (capped_adds (1 + length (out-Pattern x).others) (max (pat_operand_depth (out-Pattern x).first) (deepest (map next_pattern_depth (out-Pattern x).others)))) ∙ ap (capped_sum (capped (1 + length (out-Pattern x).others))) (sym (capped_max (pat_operand_depth (out-Pattern x).first) (deepest (map next_pattern_depth (out-Pattern x).others))))

pub fun_lhs_prefix : (x0 : Span) (x1 : Var) (x2 : List ArgPattern) → capped (fun_lhs_depth (v_FunLhs.Prefix x0 x1 x2)) ≡ capped_sum (capped (weight_of (length x2))) (capped (deepest (map arg_pattern_depth x2)))
unfolding fun_lhs_depth
fun_lhs_prefix x0 x1 x2 = ap (λ d. capped d) (ap fun_lhs_depth (sym (v_FunLhs.rolls-Prefix x0 x1 x2)) ∙ fold-roll-FunLhs ℕ fun_lhs_step (FunLhs-F.Prefix x0 x1 x2)) ∙ sym (capped_adds (weight_of (length x2)) (deepest (map arg_pattern_depth x2)))

pub fun_lhs_infix : (x0 : Span) (x1 : PatOperand) (x2 : List NextPattern) (x3 : VarOp) (x4 : PatOperand) (x5 : List NextPattern) → capped (fun_lhs_depth (v_FunLhs.Infix x0 x1 x2 x3 x4 x5)) ≡ capped_sum (capped (2 + length x2 + length x5)) (max (capped (pat_operand_depth x1)) (max (capped (deepest (map next_pattern_depth x2))) (max (capped (pat_operand_depth x4)) (capped (deepest (map next_pattern_depth x5))))))
unfolding fun_lhs_depth
fun_lhs_infix x0 x1 x2 x3 x4 x5 = ap (λ d. capped d) (ap fun_lhs_depth (sym (v_FunLhs.rolls-Infix x0 x1 x2 x3 x4 x5)) ∙ fold-roll-FunLhs ℕ fun_lhs_step (FunLhs-F.Infix x0 x1 x2 x3 x4 x5)) ∙ sym (capped_adds (2 + length x2 + length x5) (max (pat_operand_depth x1) (max (deepest (map next_pattern_depth x2)) (max (pat_operand_depth x4) (deepest (map next_pattern_depth x5)))))) ∙ ap (capped_sum (capped (2 + length x2 + length x5))) (sym (capped_max (pat_operand_depth x1) (max (deepest (map next_pattern_depth x2)) (max (pat_operand_depth x4) (deepest (map next_pattern_depth x5))))) ∙ ap (max (capped (pat_operand_depth x1))) (sym (capped_max (deepest (map next_pattern_depth x2)) (max (pat_operand_depth x4) (deepest (map next_pattern_depth x5)))) ∙ ap (max (capped (deepest (map next_pattern_depth x2)))) (sym (capped_max (pat_operand_depth x4) (deepest (map next_pattern_depth x5))))))

pub fun_lhs_nested : (x0 : Span) (x1 : Span) (x2 : FunLhs) (x3 : Span) (x4 : ArgPattern) (x5 : List ArgPattern) → capped (fun_lhs_depth (v_FunLhs.Nested x0 x1 x2 x3 x4 x5)) ≡ capped_sum (capped (1 + length x5)) (max (capped (fun_lhs_depth x2)) (max (capped (arg_pattern_depth x4)) (capped (deepest (map arg_pattern_depth x5)))))
unfolding fun_lhs_depth
fun_lhs_nested x0 x1 x2 x3 x4 x5 = ap (λ d. capped d) (ap fun_lhs_depth (sym (v_FunLhs.rolls-Nested x0 x1 x2 x3 x4 x5)) ∙ fold-roll-FunLhs ℕ fun_lhs_step (FunLhs-F.Nested x0 x1 x2 x3 x4 x5)) ∙ sym (capped_adds (1 + length x5) (max (fun_lhs_depth x2) (max (arg_pattern_depth x4) (deepest (map arg_pattern_depth x5))))) ∙ ap (capped_sum (capped (1 + length x5))) (sym (capped_max (fun_lhs_depth x2) (max (arg_pattern_depth x4) (deepest (map arg_pattern_depth x5)))) ∙ ap (max (capped (fun_lhs_depth x2))) (sym (capped_max (arg_pattern_depth x4) (deepest (map arg_pattern_depth x5)))))

pub aexp_var : (x0 : Var) → capped (aexp_depth (v_Aexp.Var x0)) ≡ 1
unfolding aexp_depth alt_depth decl_depth exp_depth locals_depth open_depth operand_depth rhs_depth where_depth alt_guard_depth alt_item_depth alts_depth decl_item_depth decls_depth guard_depth next_operand_depth operands_depth part_depth redef_depth redef_item_depth redefs_depth
aexp_var x0 = ap (λ d. capped d) (ap aexp_depth (sym (v_Aexp.rolls-Var x0)) ∙ fold-roll-Aexp ℕ ℕ ℕ ℕ ℕ ℕ ℕ ℕ ℕ ℕ ℕ ℕ ℕ ℕ ℕ ℕ ℕ ℕ ℕ ℕ ℕ aexp_step alt_step decl_step exp_step locals_step open_step operand_step rhs_step where_step alt_guard_step alt_item_step alts_step decl_item_step decls_step guard_step next_operand_step operands_step part_step redef_step redef_item_step redefs_step (Aexp-F.Var x0)) ∙ sym one_is

pub aexp_generic : (x0 : Span) (x1 : Var) (x2 : Span) (x3 : TypeExpr) (x4 : Span) → capped (aexp_depth (v_Aexp.Generic x0 x1 x2 x3 x4)) ≡ capped_sum (capped 1) (capped (type_depth x3))
unfolding aexp_depth alt_depth decl_depth exp_depth locals_depth open_depth operand_depth rhs_depth where_depth alt_guard_depth alt_item_depth alts_depth decl_item_depth decls_depth guard_depth next_operand_depth operands_depth part_depth redef_depth redef_item_depth redefs_depth
aexp_generic x0 x1 x2 x3 x4 = ap (λ d. capped d) (ap aexp_depth (sym (v_Aexp.rolls-Generic x0 x1 x2 x3 x4)) ∙ fold-roll-Aexp ℕ ℕ ℕ ℕ ℕ ℕ ℕ ℕ ℕ ℕ ℕ ℕ ℕ ℕ ℕ ℕ ℕ ℕ ℕ ℕ ℕ aexp_step alt_step decl_step exp_step locals_step open_step operand_step rhs_step where_step alt_guard_step alt_item_step alts_step decl_item_step decls_step guard_step next_operand_step operands_step part_step redef_step redef_item_step redefs_step (Aexp-F.Generic x0 x1 x2 x3 x4)) ∙ sym (capped_adds 1 (type_depth x3))

pub aexp_con : (x0 : GenCon) → capped (aexp_depth (v_Aexp.Con x0)) ≡ 2
unfolding aexp_depth alt_depth decl_depth exp_depth locals_depth open_depth operand_depth rhs_depth where_depth alt_guard_depth alt_item_depth alts_depth decl_item_depth decls_depth guard_depth next_operand_depth operands_depth part_depth redef_depth redef_item_depth redefs_depth
aexp_con x0 = ap (λ d. capped d) (ap aexp_depth (sym (v_Aexp.rolls-Con x0)) ∙ fold-roll-Aexp ℕ ℕ ℕ ℕ ℕ ℕ ℕ ℕ ℕ ℕ ℕ ℕ ℕ ℕ ℕ ℕ ℕ ℕ ℕ ℕ ℕ aexp_step alt_step decl_step exp_step locals_step open_step operand_step rhs_step where_step alt_guard_step alt_item_step alts_step decl_item_step decls_step guard_step next_operand_step operands_step part_step redef_step redef_item_step redefs_step (Aexp-F.Con x0)) ∙ sym two_is

pub aexp_int : (x0 : Span) (x1 : ℕ) → capped (aexp_depth (v_Aexp.Int x0 x1)) ≡ 1
unfolding aexp_depth alt_depth decl_depth exp_depth locals_depth open_depth operand_depth rhs_depth where_depth alt_guard_depth alt_item_depth alts_depth decl_item_depth decls_depth guard_depth next_operand_depth operands_depth part_depth redef_depth redef_item_depth redefs_depth
aexp_int x0 x1 = ap (λ d. capped d) (ap aexp_depth (sym (v_Aexp.rolls-Int x0 x1)) ∙ fold-roll-Aexp ℕ ℕ ℕ ℕ ℕ ℕ ℕ ℕ ℕ ℕ ℕ ℕ ℕ ℕ ℕ ℕ ℕ ℕ ℕ ℕ ℕ aexp_step alt_step decl_step exp_step locals_step open_step operand_step rhs_step where_step alt_guard_step alt_item_step alts_step decl_item_step decls_step guard_step next_operand_step operands_step part_step redef_step redef_item_step redefs_step (Aexp-F.Int x0 x1)) ∙ sym one_is

pub aexp_char : (x0 : Span) (x1 : ℕ) → capped (aexp_depth (v_Aexp.Char x0 x1)) ≡ 1
unfolding aexp_depth alt_depth decl_depth exp_depth locals_depth open_depth operand_depth rhs_depth where_depth alt_guard_depth alt_item_depth alts_depth decl_item_depth decls_depth guard_depth next_operand_depth operands_depth part_depth redef_depth redef_item_depth redefs_depth
aexp_char x0 x1 = ap (λ d. capped d) (ap aexp_depth (sym (v_Aexp.rolls-Char x0 x1)) ∙ fold-roll-Aexp ℕ ℕ ℕ ℕ ℕ ℕ ℕ ℕ ℕ ℕ ℕ ℕ ℕ ℕ ℕ ℕ ℕ ℕ ℕ ℕ ℕ aexp_step alt_step decl_step exp_step locals_step open_step operand_step rhs_step where_step alt_guard_step alt_item_step alts_step decl_item_step decls_step guard_step next_operand_step operands_step part_step redef_step redef_item_step redefs_step (Aexp-F.Char x0 x1)) ∙ sym one_is

pub aexp_str : (x0 : Span) (x1 : List ℕ) → capped (aexp_depth (v_Aexp.Str x0 x1)) ≡ 1
unfolding aexp_depth alt_depth decl_depth exp_depth locals_depth open_depth operand_depth rhs_depth where_depth alt_guard_depth alt_item_depth alts_depth decl_item_depth decls_depth guard_depth next_operand_depth operands_depth part_depth redef_depth redef_item_depth redefs_depth
aexp_str x0 x1 = ap (λ d. capped d) (ap aexp_depth (sym (v_Aexp.rolls-Str x0 x1)) ∙ fold-roll-Aexp ℕ ℕ ℕ ℕ ℕ ℕ ℕ ℕ ℕ ℕ ℕ ℕ ℕ ℕ ℕ ℕ ℕ ℕ ℕ ℕ ℕ aexp_step alt_step decl_step exp_step locals_step open_step operand_step rhs_step where_step alt_guard_step alt_item_step alts_step decl_item_step decls_step guard_step next_operand_step operands_step part_step redef_step redef_item_step redefs_step (Aexp-F.Str x0 x1)) ∙ sym one_is

pub aexp_paren : (x0 : Span) (x1 : Span) (x2 : Exp) (x3 : Span) → capped (aexp_depth (v_Aexp.Paren x0 x1 x2 x3)) ≡ capped_sum (capped 1) (capped (exp_depth x2))
unfolding aexp_depth alt_depth decl_depth exp_depth locals_depth open_depth operand_depth rhs_depth where_depth alt_guard_depth alt_item_depth alts_depth decl_item_depth decls_depth guard_depth next_operand_depth operands_depth part_depth redef_depth redef_item_depth redefs_depth
aexp_paren x0 x1 x2 x3 = ap (λ d. capped d) (ap aexp_depth (sym (v_Aexp.rolls-Paren x0 x1 x2 x3)) ∙ fold-roll-Aexp ℕ ℕ ℕ ℕ ℕ ℕ ℕ ℕ ℕ ℕ ℕ ℕ ℕ ℕ ℕ ℕ ℕ ℕ ℕ ℕ ℕ aexp_step alt_step decl_step exp_step locals_step open_step operand_step rhs_step where_step alt_guard_step alt_item_step alts_step decl_item_step decls_step guard_step next_operand_step operands_step part_step redef_step redef_item_step redefs_step (Aexp-F.Paren x0 x1 x2 x3)) ∙ sym (capped_adds 1 (exp_depth x2))

pub aexp_tuple : (x0 : Span) (x1 : Span) (x2 : Exp) (x3 : List Part) (x4 : Span) → capped (aexp_depth (v_Aexp.Tuple x0 x1 x2 x3 x4)) ≡ capped_sum (capped (1 + length x3)) (max (capped (exp_depth x2)) (capped (deepest (map part_depth x3))))
unfolding aexp_depth alt_depth decl_depth exp_depth locals_depth open_depth operand_depth rhs_depth where_depth alt_guard_depth alt_item_depth alts_depth decl_item_depth decls_depth guard_depth next_operand_depth operands_depth part_depth redef_depth redef_item_depth redefs_depth
aexp_tuple x0 x1 x2 x3 x4 = ap (λ d. capped d) (ap aexp_depth (sym (v_Aexp.rolls-Tuple x0 x1 x2 x3 x4)) ∙ fold-roll-Aexp ℕ ℕ ℕ ℕ ℕ ℕ ℕ ℕ ℕ ℕ ℕ ℕ ℕ ℕ ℕ ℕ ℕ ℕ ℕ ℕ ℕ aexp_step alt_step decl_step exp_step locals_step open_step operand_step rhs_step where_step alt_guard_step alt_item_step alts_step decl_item_step decls_step guard_step next_operand_step operands_step part_step redef_step redef_item_step redefs_step (Aexp-F.Tuple x0 x1 x2 x3 x4)) ∙ ap (λ (n : ℕ). capped (1 + n + (max (exp_depth x2) (deepest (map part_depth x3))))) (length-map x3 part_depth) ∙ sym (capped_adds (1 + length x3) (max (exp_depth x2) (deepest (map part_depth x3)))) ∙ ap (capped_sum (capped (1 + length x3))) (sym (capped_max (exp_depth x2) (deepest (map part_depth x3))))

pub aexp_list : (x0 : Span) (x1 : Span) (x2 : Exp) (x3 : List Part) (x4 : Span) → capped (aexp_depth (v_Aexp.List x0 x1 x2 x3 x4)) ≡ capped_sum (capped (1 + length x3)) (max (capped (exp_depth x2)) (capped (deepest (map part_depth x3))))
unfolding aexp_depth alt_depth decl_depth exp_depth locals_depth open_depth operand_depth rhs_depth where_depth alt_guard_depth alt_item_depth alts_depth decl_item_depth decls_depth guard_depth next_operand_depth operands_depth part_depth redef_depth redef_item_depth redefs_depth
aexp_list x0 x1 x2 x3 x4 = ap (λ d. capped d) (ap aexp_depth (sym (v_Aexp.rolls-List x0 x1 x2 x3 x4)) ∙ fold-roll-Aexp ℕ ℕ ℕ ℕ ℕ ℕ ℕ ℕ ℕ ℕ ℕ ℕ ℕ ℕ ℕ ℕ ℕ ℕ ℕ ℕ ℕ aexp_step alt_step decl_step exp_step locals_step open_step operand_step rhs_step where_step alt_guard_step alt_item_step alts_step decl_item_step decls_step guard_step next_operand_step operands_step part_step redef_step redef_item_step redefs_step (Aexp-F.List x0 x1 x2 x3 x4)) ∙ ap (λ (n : ℕ). capped (1 + n + (max (exp_depth x2) (deepest (map part_depth x3))))) (length-map x3 part_depth) ∙ sym (capped_adds (1 + length x3) (max (exp_depth x2) (deepest (map part_depth x3)))) ∙ ap (capped_sum (capped (1 + length x3))) (sym (capped_max (exp_depth x2) (deepest (map part_depth x3))))

pub aexp_left : (x0 : Span) (x1 : Span) (x2 : OperandList) (x3 : Op) (x4 : Span) → capped (aexp_depth (v_Aexp.Left x0 x1 x2 x3 x4)) ≡ capped_sum (capped 1) (capped (operands_depth x2))
unfolding aexp_depth alt_depth decl_depth exp_depth locals_depth open_depth operand_depth rhs_depth where_depth alt_guard_depth alt_item_depth alts_depth decl_item_depth decls_depth guard_depth next_operand_depth operands_depth part_depth redef_depth redef_item_depth redefs_depth
aexp_left x0 x1 x2 x3 x4 = ap (λ d. capped d) (ap aexp_depth (sym (v_Aexp.rolls-Left x0 x1 x2 x3 x4)) ∙ fold-roll-Aexp ℕ ℕ ℕ ℕ ℕ ℕ ℕ ℕ ℕ ℕ ℕ ℕ ℕ ℕ ℕ ℕ ℕ ℕ ℕ ℕ ℕ aexp_step alt_step decl_step exp_step locals_step open_step operand_step rhs_step where_step alt_guard_step alt_item_step alts_step decl_item_step decls_step guard_step next_operand_step operands_step part_step redef_step redef_item_step redefs_step (Aexp-F.Left x0 x1 x2 x3 x4)) ∙ sym (capped_adds 1 (operands_depth x2))

pub aexp_right : (x0 : Span) (x1 : Span) (x2 : Op) (x3 : OperandList) (x4 : Span) → capped (aexp_depth (v_Aexp.Right x0 x1 x2 x3 x4)) ≡ capped_sum (capped 1) (capped (operands_depth x3))
unfolding aexp_depth alt_depth decl_depth exp_depth locals_depth open_depth operand_depth rhs_depth where_depth alt_guard_depth alt_item_depth alts_depth decl_item_depth decls_depth guard_depth next_operand_depth operands_depth part_depth redef_depth redef_item_depth redefs_depth
aexp_right x0 x1 x2 x3 x4 = ap (λ d. capped d) (ap aexp_depth (sym (v_Aexp.rolls-Right x0 x1 x2 x3 x4)) ∙ fold-roll-Aexp ℕ ℕ ℕ ℕ ℕ ℕ ℕ ℕ ℕ ℕ ℕ ℕ ℕ ℕ ℕ ℕ ℕ ℕ ℕ ℕ ℕ aexp_step alt_step decl_step exp_step locals_step open_step operand_step rhs_step where_step alt_guard_step alt_item_step alts_step decl_item_step decls_step guard_step next_operand_step operands_step part_step redef_step redef_item_step redefs_step (Aexp-F.Right x0 x1 x2 x3 x4)) ∙ sym (capped_adds 1 (operands_depth x3))

pub alt_plain : (x0 : Span) (x1 : Pattern) (x2 : Span) (x3 : Exp) (x4 : Where) → capped (alt_depth (v_Alt.Plain x0 x1 x2 x3 x4)) ≡ capped_sum (capped 1) (max (capped (pattern_depth x1)) (max (capped (exp_depth x3)) (capped (where_depth x4))))
unfolding aexp_depth alt_depth decl_depth exp_depth locals_depth open_depth operand_depth rhs_depth where_depth alt_guard_depth alt_item_depth alts_depth decl_item_depth decls_depth guard_depth next_operand_depth operands_depth part_depth redef_depth redef_item_depth redefs_depth
alt_plain x0 x1 x2 x3 x4 = ap (λ d. capped d) (ap alt_depth (sym (v_Alt.rolls-Plain x0 x1 x2 x3 x4)) ∙ fold-roll-Alt ℕ ℕ ℕ ℕ ℕ ℕ ℕ ℕ ℕ ℕ ℕ ℕ ℕ ℕ ℕ ℕ ℕ ℕ ℕ ℕ ℕ aexp_step alt_step decl_step exp_step locals_step open_step operand_step rhs_step where_step alt_guard_step alt_item_step alts_step decl_item_step decls_step guard_step next_operand_step operands_step part_step redef_step redef_item_step redefs_step (Alt-F.Alt::Plain x0 x1 x2 x3 x4)) ∙ sym (capped_adds 1 (max (pattern_depth x1) (max (exp_depth x3) (where_depth x4)))) ∙ ap (capped_sum (capped 1)) (sym (capped_max (pattern_depth x1) (max (exp_depth x3) (where_depth x4))) ∙ ap (max (capped (pattern_depth x1))) (sym (capped_max (exp_depth x3) (where_depth x4))))

pub alt_guarded : (x0 : Span) (x1 : Pattern) (x2 : AltGuard) (x3 : List AltGuard) (x4 : Where) → capped (alt_depth (v_Alt.Guarded x0 x1 x2 x3 x4)) ≡ capped_sum (capped (1 + length x3)) (max (capped (pattern_depth x1)) (max (capped (alt_guard_depth x2)) (max (capped (deepest (map alt_guard_depth x3))) (capped (where_depth x4)))))
unfolding aexp_depth alt_depth decl_depth exp_depth locals_depth open_depth operand_depth rhs_depth where_depth alt_guard_depth alt_item_depth alts_depth decl_item_depth decls_depth guard_depth next_operand_depth operands_depth part_depth redef_depth redef_item_depth redefs_depth
alt_guarded x0 x1 x2 x3 x4 = ap (λ d. capped d) (ap alt_depth (sym (v_Alt.rolls-Guarded x0 x1 x2 x3 x4)) ∙ fold-roll-Alt ℕ ℕ ℕ ℕ ℕ ℕ ℕ ℕ ℕ ℕ ℕ ℕ ℕ ℕ ℕ ℕ ℕ ℕ ℕ ℕ ℕ aexp_step alt_step decl_step exp_step locals_step open_step operand_step rhs_step where_step alt_guard_step alt_item_step alts_step decl_item_step decls_step guard_step next_operand_step operands_step part_step redef_step redef_item_step redefs_step (Alt-F.Alt::Guarded x0 x1 x2 x3 x4)) ∙ ap (λ (n : ℕ). capped (1 + n + (max (pattern_depth x1) (max (alt_guard_depth x2) (max (deepest (map alt_guard_depth x3)) (where_depth x4)))))) (length-map x3 alt_guard_depth) ∙ sym (capped_adds (1 + length x3) (max (pattern_depth x1) (max (alt_guard_depth x2) (max (deepest (map alt_guard_depth x3)) (where_depth x4))))) ∙ ap (capped_sum (capped (1 + length x3))) (sym (capped_max (pattern_depth x1) (max (alt_guard_depth x2) (max (deepest (map alt_guard_depth x3)) (where_depth x4)))) ∙ ap (max (capped (pattern_depth x1))) (sym (capped_max (alt_guard_depth x2) (max (deepest (map alt_guard_depth x3)) (where_depth x4))) ∙ ap (max (capped (alt_guard_depth x2))) (sym (capped_max (deepest (map alt_guard_depth x3)) (where_depth x4)))))

pub decl_signature : (x0 : Span) (x1 : Var) (x2 : List NextVar) (x3 : Span) (x4 : TypeExpr) → capped (decl_depth (v_Decl.Signature x0 x1 x2 x3 x4)) ≡ capped_sum (capped 1) (capped (type_depth x4))
unfolding aexp_depth alt_depth decl_depth exp_depth locals_depth open_depth operand_depth rhs_depth where_depth alt_guard_depth alt_item_depth alts_depth decl_item_depth decls_depth guard_depth next_operand_depth operands_depth part_depth redef_depth redef_item_depth redefs_depth
decl_signature x0 x1 x2 x3 x4 = ap (λ d. capped d) (ap decl_depth (sym (v_Decl.rolls-Signature x0 x1 x2 x3 x4)) ∙ fold-roll-Decl ℕ ℕ ℕ ℕ ℕ ℕ ℕ ℕ ℕ ℕ ℕ ℕ ℕ ℕ ℕ ℕ ℕ ℕ ℕ ℕ ℕ aexp_step alt_step decl_step exp_step locals_step open_step operand_step rhs_step where_step alt_guard_step alt_item_step alts_step decl_item_step decls_step guard_step next_operand_step operands_step part_step redef_step redef_item_step redefs_step (Decl-F.Signature x0 x1 x2 x3 x4)) ∙ sym (capped_adds 1 (type_depth x4))

pub decl_fixity : (x0 : Span) (x1 : FixityWord) (x2 : Option (Span × ℕ)) (x3 : Op) (x4 : List NextOp) → capped (decl_depth (v_Decl.Fixity x0 x1 x2 x3 x4)) ≡ 2
unfolding aexp_depth alt_depth decl_depth exp_depth locals_depth open_depth operand_depth rhs_depth where_depth alt_guard_depth alt_item_depth alts_depth decl_item_depth decls_depth guard_depth next_operand_depth operands_depth part_depth redef_depth redef_item_depth redefs_depth
decl_fixity x0 x1 x2 x3 x4 = ap (λ d. capped d) (ap decl_depth (sym (v_Decl.rolls-Fixity x0 x1 x2 x3 x4)) ∙ fold-roll-Decl ℕ ℕ ℕ ℕ ℕ ℕ ℕ ℕ ℕ ℕ ℕ ℕ ℕ ℕ ℕ ℕ ℕ ℕ ℕ ℕ ℕ aexp_step alt_step decl_step exp_step locals_step open_step operand_step rhs_step where_step alt_guard_step alt_item_step alts_step decl_item_step decls_step guard_step next_operand_step operands_step part_step redef_step redef_item_step redefs_step (Decl-F.Fixity x0 x1 x2 x3 x4)) ∙ sym two_is

pub decl_function : (x0 : Span) (x1 : FunLhs) (x2 : Rhs) → capped (decl_depth (v_Decl.Function x0 x1 x2)) ≡ capped_sum (capped 1) (max (capped (fun_lhs_depth x1)) (capped (rhs_depth x2)))
unfolding aexp_depth alt_depth decl_depth exp_depth locals_depth open_depth operand_depth rhs_depth where_depth alt_guard_depth alt_item_depth alts_depth decl_item_depth decls_depth guard_depth next_operand_depth operands_depth part_depth redef_depth redef_item_depth redefs_depth
decl_function x0 x1 x2 = ap (λ d. capped d) (ap decl_depth (sym (v_Decl.rolls-Function x0 x1 x2)) ∙ fold-roll-Decl ℕ ℕ ℕ ℕ ℕ ℕ ℕ ℕ ℕ ℕ ℕ ℕ ℕ ℕ ℕ ℕ ℕ ℕ ℕ ℕ ℕ aexp_step alt_step decl_step exp_step locals_step open_step operand_step rhs_step where_step alt_guard_step alt_item_step alts_step decl_item_step decls_step guard_step next_operand_step operands_step part_step redef_step redef_item_step redefs_step (Decl-F.Function x0 x1 x2)) ∙ sym (capped_adds 1 (max (fun_lhs_depth x1) (rhs_depth x2))) ∙ ap (capped_sum (capped 1)) (sym (capped_max (fun_lhs_depth x1) (rhs_depth x2)))

pub decl_pattern : (x0 : Span) (x1 : Pattern) (x2 : Rhs) → capped (decl_depth (v_Decl.Pattern x0 x1 x2)) ≡ capped_sum (capped 1) (max (capped (pattern_depth x1)) (capped (rhs_depth x2)))
unfolding aexp_depth alt_depth decl_depth exp_depth locals_depth open_depth operand_depth rhs_depth where_depth alt_guard_depth alt_item_depth alts_depth decl_item_depth decls_depth guard_depth next_operand_depth operands_depth part_depth redef_depth redef_item_depth redefs_depth
decl_pattern x0 x1 x2 = ap (λ d. capped d) (ap decl_depth (sym (v_Decl.rolls-Pattern x0 x1 x2)) ∙ fold-roll-Decl ℕ ℕ ℕ ℕ ℕ ℕ ℕ ℕ ℕ ℕ ℕ ℕ ℕ ℕ ℕ ℕ ℕ ℕ ℕ ℕ ℕ aexp_step alt_step decl_step exp_step locals_step open_step operand_step rhs_step where_step alt_guard_step alt_item_step alts_step decl_item_step decls_step guard_step next_operand_step operands_step part_step redef_step redef_item_step redefs_step (Decl-F.Pattern x0 x1 x2)) ∙ sym (capped_adds 1 (max (pattern_depth x1) (rhs_depth x2))) ∙ ap (capped_sum (capped 1)) (sym (capped_max (pattern_depth x1) (rhs_depth x2)))

pub exp_plain : (x0 : OperandList) → capped (exp_depth (v_Exp.Plain x0)) ≡ capped_sum (capped 1) (capped (operands_depth x0))
unfolding aexp_depth alt_depth decl_depth exp_depth locals_depth open_depth operand_depth rhs_depth where_depth alt_guard_depth alt_item_depth alts_depth decl_item_depth decls_depth guard_depth next_operand_depth operands_depth part_depth redef_depth redef_item_depth redefs_depth
exp_plain x0 = ap (λ d. capped d) (ap exp_depth (sym (v_Exp.rolls-Plain x0)) ∙ fold-roll-Exp ℕ ℕ ℕ ℕ ℕ ℕ ℕ ℕ ℕ ℕ ℕ ℕ ℕ ℕ ℕ ℕ ℕ ℕ ℕ ℕ ℕ aexp_step alt_step decl_step exp_step locals_step open_step operand_step rhs_step where_step alt_guard_step alt_item_step alts_step decl_item_step decls_step guard_step next_operand_step operands_step part_step redef_step redef_item_step redefs_step (Exp-F.Exp::Plain x0)) ∙ sym (capped_adds 1 (operands_depth x0))

pub exp_typed : (x0 : Span) (x1 : OperandList) (x2 : Span) (x3 : TypeExpr) → capped (exp_depth (v_Exp.Typed x0 x1 x2 x3)) ≡ capped_sum (capped 1) (max (capped (operands_depth x1)) (capped (type_depth x3)))
unfolding aexp_depth alt_depth decl_depth exp_depth locals_depth open_depth operand_depth rhs_depth where_depth alt_guard_depth alt_item_depth alts_depth decl_item_depth decls_depth guard_depth next_operand_depth operands_depth part_depth redef_depth redef_item_depth redefs_depth
exp_typed x0 x1 x2 x3 = ap (λ d. capped d) (ap exp_depth (sym (v_Exp.rolls-Typed x0 x1 x2 x3)) ∙ fold-roll-Exp ℕ ℕ ℕ ℕ ℕ ℕ ℕ ℕ ℕ ℕ ℕ ℕ ℕ ℕ ℕ ℕ ℕ ℕ ℕ ℕ ℕ aexp_step alt_step decl_step exp_step locals_step open_step operand_step rhs_step where_step alt_guard_step alt_item_step alts_step decl_item_step decls_step guard_step next_operand_step operands_step part_step redef_step redef_item_step redefs_step (Exp-F.Typed x0 x1 x2 x3)) ∙ sym (capped_adds 1 (max (operands_depth x1) (type_depth x3))) ∙ ap (capped_sum (capped 1)) (sym (capped_max (operands_depth x1) (type_depth x3)))

pub locals_decls : (x0 : Decls) → capped (locals_depth (v_Locals.Decls x0)) ≡ capped_sum (capped 1) (capped (decls_depth x0))
unfolding aexp_depth alt_depth decl_depth exp_depth locals_depth open_depth operand_depth rhs_depth where_depth alt_guard_depth alt_item_depth alts_depth decl_item_depth decls_depth guard_depth next_operand_depth operands_depth part_depth redef_depth redef_item_depth redefs_depth
locals_decls x0 = ap (λ d. capped d) (ap locals_depth (sym (v_Locals.rolls-Decls x0)) ∙ fold-roll-Locals ℕ ℕ ℕ ℕ ℕ ℕ ℕ ℕ ℕ ℕ ℕ ℕ ℕ ℕ ℕ ℕ ℕ ℕ ℕ ℕ ℕ aexp_step alt_step decl_step exp_step locals_step open_step operand_step rhs_step where_step alt_guard_step alt_item_step alts_step decl_item_step decls_step guard_step next_operand_step operands_step part_step redef_step redef_item_step redefs_step (Locals-F.Decls x0)) ∙ sym (capped_adds 1 (decls_depth x0))

pub locals_redefs : (x0 : Redefs) → capped (locals_depth (v_Locals.Redefs x0)) ≡ capped (redefs_depth x0)
unfolding aexp_depth alt_depth decl_depth exp_depth locals_depth open_depth operand_depth rhs_depth where_depth alt_guard_depth alt_item_depth alts_depth decl_item_depth decls_depth guard_depth next_operand_depth operands_depth part_depth redef_depth redef_item_depth redefs_depth
locals_redefs x0 = ap (λ d. capped d) (ap locals_depth (sym (v_Locals.rolls-Redefs x0)) ∙ fold-roll-Locals ℕ ℕ ℕ ℕ ℕ ℕ ℕ ℕ ℕ ℕ ℕ ℕ ℕ ℕ ℕ ℕ ℕ ℕ ℕ ℕ ℕ aexp_step alt_step decl_step exp_step locals_step open_step operand_step rhs_step where_step alt_guard_step alt_item_step alts_step decl_item_step decls_step guard_step next_operand_step operands_step part_step redef_step redef_item_step redefs_step (Locals-F.Redefs x0))

pub open_lambda : (x0 : Span) (x1 : Span) (x2 : ArgPattern) (x3 : List ArgPattern) (x4 : Span) (x5 : Exp) → capped (open_depth (v_Open.Lambda x0 x1 x2 x3 x4 x5)) ≡ capped_sum (capped (1 + length x3)) (max (capped (arg_pattern_depth x2)) (max (capped (deepest (map arg_pattern_depth x3))) (capped (exp_depth x5))))
unfolding aexp_depth alt_depth decl_depth exp_depth locals_depth open_depth operand_depth rhs_depth where_depth alt_guard_depth alt_item_depth alts_depth decl_item_depth decls_depth guard_depth next_operand_depth operands_depth part_depth redef_depth redef_item_depth redefs_depth
open_lambda x0 x1 x2 x3 x4 x5 = ap (λ d. capped d) (ap open_depth (sym (v_Open.rolls-Lambda x0 x1 x2 x3 x4 x5)) ∙ fold-roll-Open ℕ ℕ ℕ ℕ ℕ ℕ ℕ ℕ ℕ ℕ ℕ ℕ ℕ ℕ ℕ ℕ ℕ ℕ ℕ ℕ ℕ aexp_step alt_step decl_step exp_step locals_step open_step operand_step rhs_step where_step alt_guard_step alt_item_step alts_step decl_item_step decls_step guard_step next_operand_step operands_step part_step redef_step redef_item_step redefs_step (Open-F.Lambda x0 x1 x2 x3 x4 x5)) ∙ sym (capped_adds (1 + length x3) (max (arg_pattern_depth x2) (max (deepest (map arg_pattern_depth x3)) (exp_depth x5)))) ∙ ap (capped_sum (capped (1 + length x3))) (sym (capped_max (arg_pattern_depth x2) (max (deepest (map arg_pattern_depth x3)) (exp_depth x5))) ∙ ap (max (capped (arg_pattern_depth x2))) (sym (capped_max (deepest (map arg_pattern_depth x3)) (exp_depth x5))))

pub open_let : (x0 : Span) (x1 : Span) (x2 : Locals) (x3 : Span) (x4 : Exp) → capped (open_depth (v_Open.Let x0 x1 x2 x3 x4)) ≡ capped_sum (capped 1) (max (capped (locals_depth x2)) (capped (exp_depth x4)))
unfolding aexp_depth alt_depth decl_depth exp_depth locals_depth open_depth operand_depth rhs_depth where_depth alt_guard_depth alt_item_depth alts_depth decl_item_depth decls_depth guard_depth next_operand_depth operands_depth part_depth redef_depth redef_item_depth redefs_depth
open_let x0 x1 x2 x3 x4 = ap (λ d. capped d) (ap open_depth (sym (v_Open.rolls-Let x0 x1 x2 x3 x4)) ∙ fold-roll-Open ℕ ℕ ℕ ℕ ℕ ℕ ℕ ℕ ℕ ℕ ℕ ℕ ℕ ℕ ℕ ℕ ℕ ℕ ℕ ℕ ℕ aexp_step alt_step decl_step exp_step locals_step open_step operand_step rhs_step where_step alt_guard_step alt_item_step alts_step decl_item_step decls_step guard_step next_operand_step operands_step part_step redef_step redef_item_step redefs_step (Open-F.Let x0 x1 x2 x3 x4)) ∙ sym (capped_adds 1 (max (locals_depth x2) (exp_depth x4))) ∙ ap (capped_sum (capped 1)) (sym (capped_max (locals_depth x2) (exp_depth x4)))

pub open_if : (x0 : Span) (x1 : Span) (x2 : Exp) (x3 : Span) (x4 : Exp) (x5 : Span) (x6 : Exp) → capped (open_depth (v_Open.If x0 x1 x2 x3 x4 x5 x6)) ≡ capped_sum (capped 1) (max (capped (exp_depth x2)) (max (capped (exp_depth x4)) (capped (exp_depth x6))))
unfolding aexp_depth alt_depth decl_depth exp_depth locals_depth open_depth operand_depth rhs_depth where_depth alt_guard_depth alt_item_depth alts_depth decl_item_depth decls_depth guard_depth next_operand_depth operands_depth part_depth redef_depth redef_item_depth redefs_depth
open_if x0 x1 x2 x3 x4 x5 x6 = ap (λ d. capped d) (ap open_depth (sym (v_Open.rolls-If x0 x1 x2 x3 x4 x5 x6)) ∙ fold-roll-Open ℕ ℕ ℕ ℕ ℕ ℕ ℕ ℕ ℕ ℕ ℕ ℕ ℕ ℕ ℕ ℕ ℕ ℕ ℕ ℕ ℕ aexp_step alt_step decl_step exp_step locals_step open_step operand_step rhs_step where_step alt_guard_step alt_item_step alts_step decl_item_step decls_step guard_step next_operand_step operands_step part_step redef_step redef_item_step redefs_step (Open-F.If x0 x1 x2 x3 x4 x5 x6)) ∙ sym (capped_adds 1 (max (exp_depth x2) (max (exp_depth x4) (exp_depth x6)))) ∙ ap (capped_sum (capped 1)) (sym (capped_max (exp_depth x2) (max (exp_depth x4) (exp_depth x6))) ∙ ap (max (capped (exp_depth x2))) (sym (capped_max (exp_depth x4) (exp_depth x6))))

pub operand_apply : (x0 : Span) (x1 : Aexp) (x2 : List Aexp) → capped (operand_depth (v_Operand.Apply x0 x1 x2)) ≡ capped_sum (capped (weight_of (length x2))) (max (capped (aexp_depth x1)) (capped (deepest (map aexp_depth x2))))
unfolding aexp_depth alt_depth decl_depth exp_depth locals_depth open_depth operand_depth rhs_depth where_depth alt_guard_depth alt_item_depth alts_depth decl_item_depth decls_depth guard_depth next_operand_depth operands_depth part_depth redef_depth redef_item_depth redefs_depth
operand_apply x0 x1 x2 = ap (λ d. capped d) (ap operand_depth (sym (v_Operand.rolls-Apply x0 x1 x2)) ∙ fold-roll-Operand ℕ ℕ ℕ ℕ ℕ ℕ ℕ ℕ ℕ ℕ ℕ ℕ ℕ ℕ ℕ ℕ ℕ ℕ ℕ ℕ ℕ aexp_step alt_step decl_step exp_step locals_step open_step operand_step rhs_step where_step alt_guard_step alt_item_step alts_step decl_item_step decls_step guard_step next_operand_step operands_step part_step redef_step redef_item_step redefs_step (Operand-F.Apply x0 x1 x2)) ∙ ap (λ (n : ℕ). capped (weight_of n + (max (aexp_depth x1) (deepest (map aexp_depth x2))))) (length-map x2 aexp_depth) ∙ sym (capped_adds (weight_of (length x2)) (max (aexp_depth x1) (deepest (map aexp_depth x2)))) ∙ ap (capped_sum (capped (weight_of (length x2)))) (sym (capped_max (aexp_depth x1) (deepest (map aexp_depth x2))))

pub operand_case : (x0 : Span) (x1 : Span) (x2 : Exp) (x3 : Span) (x4 : Alts) → capped (operand_depth (v_Operand.Case x0 x1 x2 x3 x4)) ≡ capped_sum (capped 1) (max (capped (exp_depth x2)) (capped (alts_depth x4)))
unfolding aexp_depth alt_depth decl_depth exp_depth locals_depth open_depth operand_depth rhs_depth where_depth alt_guard_depth alt_item_depth alts_depth decl_item_depth decls_depth guard_depth next_operand_depth operands_depth part_depth redef_depth redef_item_depth redefs_depth
operand_case x0 x1 x2 x3 x4 = ap (λ d. capped d) (ap operand_depth (sym (v_Operand.rolls-Case x0 x1 x2 x3 x4)) ∙ fold-roll-Operand ℕ ℕ ℕ ℕ ℕ ℕ ℕ ℕ ℕ ℕ ℕ ℕ ℕ ℕ ℕ ℕ ℕ ℕ ℕ ℕ ℕ aexp_step alt_step decl_step exp_step locals_step open_step operand_step rhs_step where_step alt_guard_step alt_item_step alts_step decl_item_step decls_step guard_step next_operand_step operands_step part_step redef_step redef_item_step redefs_step (Operand-F.Case x0 x1 x2 x3 x4)) ∙ sym (capped_adds 1 (max (exp_depth x2) (alts_depth x4))) ∙ ap (capped_sum (capped 1)) (sym (capped_max (exp_depth x2) (alts_depth x4)))

pub operand_open : (x0 : Open) → capped (operand_depth (v_Operand.Open x0)) ≡ capped_sum (capped 1) (capped (open_depth x0))
unfolding aexp_depth alt_depth decl_depth exp_depth locals_depth open_depth operand_depth rhs_depth where_depth alt_guard_depth alt_item_depth alts_depth decl_item_depth decls_depth guard_depth next_operand_depth operands_depth part_depth redef_depth redef_item_depth redefs_depth
operand_open x0 = ap (λ d. capped d) (ap operand_depth (sym (v_Operand.rolls-Open x0)) ∙ fold-roll-Operand ℕ ℕ ℕ ℕ ℕ ℕ ℕ ℕ ℕ ℕ ℕ ℕ ℕ ℕ ℕ ℕ ℕ ℕ ℕ ℕ ℕ aexp_step alt_step decl_step exp_step locals_step open_step operand_step rhs_step where_step alt_guard_step alt_item_step alts_step decl_item_step decls_step guard_step next_operand_step operands_step part_step redef_step redef_item_step redefs_step (Operand-F.Open x0)) ∙ sym (capped_adds 1 (open_depth x0))

pub rhs_plain : (x0 : Span) (x1 : Span) (x2 : Exp) (x3 : Where) → capped (rhs_depth (v_Rhs.Plain x0 x1 x2 x3)) ≡ capped_sum (capped 1) (max (capped (exp_depth x2)) (capped (where_depth x3)))
unfolding aexp_depth alt_depth decl_depth exp_depth locals_depth open_depth operand_depth rhs_depth where_depth alt_guard_depth alt_item_depth alts_depth decl_item_depth decls_depth guard_depth next_operand_depth operands_depth part_depth redef_depth redef_item_depth redefs_depth
rhs_plain x0 x1 x2 x3 = ap (λ d. capped d) (ap rhs_depth (sym (v_Rhs.rolls-Plain x0 x1 x2 x3)) ∙ fold-roll-Rhs ℕ ℕ ℕ ℕ ℕ ℕ ℕ ℕ ℕ ℕ ℕ ℕ ℕ ℕ ℕ ℕ ℕ ℕ ℕ ℕ ℕ aexp_step alt_step decl_step exp_step locals_step open_step operand_step rhs_step where_step alt_guard_step alt_item_step alts_step decl_item_step decls_step guard_step next_operand_step operands_step part_step redef_step redef_item_step redefs_step (Rhs-F.Rhs::Plain x0 x1 x2 x3)) ∙ sym (capped_adds 1 (max (exp_depth x2) (where_depth x3))) ∙ ap (capped_sum (capped 1)) (sym (capped_max (exp_depth x2) (where_depth x3)))

pub rhs_guarded : (x0 : Span) (x1 : Guard) (x2 : List Guard) (x3 : Where) → capped (rhs_depth (v_Rhs.Guarded x0 x1 x2 x3)) ≡ capped_sum (capped (1 + length x2)) (max (capped (guard_depth x1)) (max (capped (deepest (map guard_depth x2))) (capped (where_depth x3))))
unfolding aexp_depth alt_depth decl_depth exp_depth locals_depth open_depth operand_depth rhs_depth where_depth alt_guard_depth alt_item_depth alts_depth decl_item_depth decls_depth guard_depth next_operand_depth operands_depth part_depth redef_depth redef_item_depth redefs_depth
rhs_guarded x0 x1 x2 x3 = ap (λ d. capped d) (ap rhs_depth (sym (v_Rhs.rolls-Guarded x0 x1 x2 x3)) ∙ fold-roll-Rhs ℕ ℕ ℕ ℕ ℕ ℕ ℕ ℕ ℕ ℕ ℕ ℕ ℕ ℕ ℕ ℕ ℕ ℕ ℕ ℕ ℕ aexp_step alt_step decl_step exp_step locals_step open_step operand_step rhs_step where_step alt_guard_step alt_item_step alts_step decl_item_step decls_step guard_step next_operand_step operands_step part_step redef_step redef_item_step redefs_step (Rhs-F.Rhs::Guarded x0 x1 x2 x3)) ∙ ap (λ (n : ℕ). capped (1 + n + (max (guard_depth x1) (max (deepest (map guard_depth x2)) (where_depth x3))))) (length-map x2 guard_depth) ∙ sym (capped_adds (1 + length x2) (max (guard_depth x1) (max (deepest (map guard_depth x2)) (where_depth x3)))) ∙ ap (capped_sum (capped (1 + length x2))) (sym (capped_max (guard_depth x1) (max (deepest (map guard_depth x2)) (where_depth x3))) ∙ ap (max (capped (guard_depth x1))) (sym (capped_max (deepest (map guard_depth x2)) (where_depth x3))))

pub where_absent : capped (where_depth (v_Where.Absent)) ≡ 0
unfolding aexp_depth alt_depth decl_depth exp_depth locals_depth open_depth operand_depth rhs_depth where_depth alt_guard_depth alt_item_depth alts_depth decl_item_depth decls_depth guard_depth next_operand_depth operands_depth part_depth redef_depth redef_item_depth redefs_depth
where_absent = ap (λ d. capped d) (ap where_depth (sym (v_Where.rolls-Absent)) ∙ fold-roll-Where ℕ ℕ ℕ ℕ ℕ ℕ ℕ ℕ ℕ ℕ ℕ ℕ ℕ ℕ ℕ ℕ ℕ ℕ ℕ ℕ ℕ aexp_step alt_step decl_step exp_step locals_step open_step operand_step rhs_step where_step alt_guard_step alt_item_step alts_step decl_item_step decls_step guard_step next_operand_step operands_step part_step redef_step redef_item_step redefs_step (Where-F.Absent)) ∙ sym zero_is

pub where_block : (x0 : Span) (x1 : Decls) → capped (where_depth (v_Where.Block x0 x1)) ≡ capped (decls_depth x1)
unfolding aexp_depth alt_depth decl_depth exp_depth locals_depth open_depth operand_depth rhs_depth where_depth alt_guard_depth alt_item_depth alts_depth decl_item_depth decls_depth guard_depth next_operand_depth operands_depth part_depth redef_depth redef_item_depth redefs_depth
where_block x0 x1 = ap (λ d. capped d) (ap where_depth (sym (v_Where.rolls-Block x0 x1)) ∙ fold-roll-Where ℕ ℕ ℕ ℕ ℕ ℕ ℕ ℕ ℕ ℕ ℕ ℕ ℕ ℕ ℕ ℕ ℕ ℕ ℕ ℕ ℕ aexp_step alt_step decl_step exp_step locals_step open_step operand_step rhs_step where_step alt_guard_step alt_item_step alts_step decl_item_step decls_step guard_step next_operand_step operands_step part_step redef_step redef_item_step redefs_step (Where-F.Block x0 x1))

pub alt_guard_at : (x : AltGuard) → capped (alt_guard_depth x) ≡ capped_sum (capped 1) (max (capped (operands_depth (out-AltGuard x).test)) (capped (exp_depth (out-AltGuard x).body)))
unfolding aexp_depth alt_depth decl_depth exp_depth locals_depth open_depth operand_depth rhs_depth where_depth alt_guard_depth alt_item_depth alts_depth decl_item_depth decls_depth guard_depth next_operand_depth operands_depth part_depth redef_depth redef_item_depth redefs_depth
alt_guard_at x = ap (λ d. capped d) (fold_out-AltGuard ℕ ℕ ℕ ℕ ℕ ℕ ℕ ℕ ℕ ℕ ℕ ℕ ℕ ℕ ℕ ℕ ℕ ℕ ℕ ℕ ℕ aexp_step alt_step decl_step exp_step locals_step open_step operand_step rhs_step where_step alt_guard_step alt_item_step alts_step decl_item_step decls_step guard_step next_operand_step operands_step part_step redef_step redef_item_step redefs_step x) ∙ sym (capped_adds 1 (max (operands_depth (out-AltGuard x).test) (exp_depth (out-AltGuard x).body))) ∙ ap (capped_sum (capped 1)) (sym (capped_max (operands_depth (out-AltGuard x).test) (exp_depth (out-AltGuard x).body)))

pub alt_item_at : (x : AltItem) → capped (alt_item_depth x) ≡ capped (alt_depth (out-AltItem x).alt)
unfolding aexp_depth alt_depth decl_depth exp_depth locals_depth open_depth operand_depth rhs_depth where_depth alt_guard_depth alt_item_depth alts_depth decl_item_depth decls_depth guard_depth next_operand_depth operands_depth part_depth redef_depth redef_item_depth redefs_depth
alt_item_at x = ap (λ d. capped d) (fold_out-AltItem ℕ ℕ ℕ ℕ ℕ ℕ ℕ ℕ ℕ ℕ ℕ ℕ ℕ ℕ ℕ ℕ ℕ ℕ ℕ ℕ ℕ aexp_step alt_step decl_step exp_step locals_step open_step operand_step rhs_step where_step alt_guard_step alt_item_step alts_step decl_item_step decls_step guard_step next_operand_step operands_step part_step redef_step redef_item_step redefs_step x)

pub alts_at : (x : Alts) → capped (alts_depth x) ≡ capped_sum (capped (weight_of (length (out-Alts x).alts))) (capped (deepest (map alt_item_depth (out-Alts x).alts)))
unfolding aexp_depth alt_depth decl_depth exp_depth locals_depth open_depth operand_depth rhs_depth where_depth alt_guard_depth alt_item_depth alts_depth decl_item_depth decls_depth guard_depth next_operand_depth operands_depth part_depth redef_depth redef_item_depth redefs_depth
alts_at x = ap (λ d. capped d) (fold_out-Alts ℕ ℕ ℕ ℕ ℕ ℕ ℕ ℕ ℕ ℕ ℕ ℕ ℕ ℕ ℕ ℕ ℕ ℕ ℕ ℕ ℕ aexp_step alt_step decl_step exp_step locals_step open_step operand_step rhs_step where_step alt_guard_step alt_item_step alts_step decl_item_step decls_step guard_step next_operand_step operands_step part_step redef_step redef_item_step redefs_step x) ∙ ap (λ (n : ℕ). capped (weight_of n + (deepest (map alt_item_depth (out-Alts x).alts)))) (length-map ((out-Alts x).alts) alt_item_depth) ∙ sym (capped_adds (weight_of (length (out-Alts x).alts)) (deepest (map alt_item_depth (out-Alts x).alts)))

pub decl_item_at : (x : DeclItem) → capped (decl_item_depth x) ≡ capped (decl_depth (out-DeclItem x).decl)
unfolding aexp_depth alt_depth decl_depth exp_depth locals_depth open_depth operand_depth rhs_depth where_depth alt_guard_depth alt_item_depth alts_depth decl_item_depth decls_depth guard_depth next_operand_depth operands_depth part_depth redef_depth redef_item_depth redefs_depth
decl_item_at x = ap (λ d. capped d) (fold_out-DeclItem ℕ ℕ ℕ ℕ ℕ ℕ ℕ ℕ ℕ ℕ ℕ ℕ ℕ ℕ ℕ ℕ ℕ ℕ ℕ ℕ ℕ aexp_step alt_step decl_step exp_step locals_step open_step operand_step rhs_step where_step alt_guard_step alt_item_step alts_step decl_item_step decls_step guard_step next_operand_step operands_step part_step redef_step redef_item_step redefs_step x)

pub decls_at : (x : Decls) → capped (decls_depth x) ≡ capped_sum (capped (weight_of (length (out-Decls x).decls))) (capped (deepest (map decl_item_depth (out-Decls x).decls)))
unfolding aexp_depth alt_depth decl_depth exp_depth locals_depth open_depth operand_depth rhs_depth where_depth alt_guard_depth alt_item_depth alts_depth decl_item_depth decls_depth guard_depth next_operand_depth operands_depth part_depth redef_depth redef_item_depth redefs_depth
decls_at x = ap (λ d. capped d) (fold_out-Decls ℕ ℕ ℕ ℕ ℕ ℕ ℕ ℕ ℕ ℕ ℕ ℕ ℕ ℕ ℕ ℕ ℕ ℕ ℕ ℕ ℕ aexp_step alt_step decl_step exp_step locals_step open_step operand_step rhs_step where_step alt_guard_step alt_item_step alts_step decl_item_step decls_step guard_step next_operand_step operands_step part_step redef_step redef_item_step redefs_step x) ∙ ap (λ (n : ℕ). capped (weight_of n + (deepest (map decl_item_depth (out-Decls x).decls)))) (length-map ((out-Decls x).decls) decl_item_depth) ∙ sym (capped_adds (weight_of (length (out-Decls x).decls)) (deepest (map decl_item_depth (out-Decls x).decls)))

pub guard_at : (x : Guard) → capped (guard_depth x) ≡ capped_sum (capped 1) (max (capped (operands_depth (out-Guard x).test)) (capped (exp_depth (out-Guard x).body)))
unfolding aexp_depth alt_depth decl_depth exp_depth locals_depth open_depth operand_depth rhs_depth where_depth alt_guard_depth alt_item_depth alts_depth decl_item_depth decls_depth guard_depth next_operand_depth operands_depth part_depth redef_depth redef_item_depth redefs_depth
guard_at x = ap (λ d. capped d) (fold_out-Guard ℕ ℕ ℕ ℕ ℕ ℕ ℕ ℕ ℕ ℕ ℕ ℕ ℕ ℕ ℕ ℕ ℕ ℕ ℕ ℕ ℕ aexp_step alt_step decl_step exp_step locals_step open_step operand_step rhs_step where_step alt_guard_step alt_item_step alts_step decl_item_step decls_step guard_step next_operand_step operands_step part_step redef_step redef_item_step redefs_step x) ∙ sym (capped_adds 1 (max (operands_depth (out-Guard x).test) (exp_depth (out-Guard x).body))) ∙ ap (capped_sum (capped 1)) (sym (capped_max (operands_depth (out-Guard x).test) (exp_depth (out-Guard x).body)))

pub next_operand_at : (x : NextOperand) → capped (next_operand_depth x) ≡ capped (operand_depth (out-NextOperand x).operand)
unfolding aexp_depth alt_depth decl_depth exp_depth locals_depth open_depth operand_depth rhs_depth where_depth alt_guard_depth alt_item_depth alts_depth decl_item_depth decls_depth guard_depth next_operand_depth operands_depth part_depth redef_depth redef_item_depth redefs_depth
next_operand_at x = ap (λ d. capped d) (fold_out-NextOperand ℕ ℕ ℕ ℕ ℕ ℕ ℕ ℕ ℕ ℕ ℕ ℕ ℕ ℕ ℕ ℕ ℕ ℕ ℕ ℕ ℕ aexp_step alt_step decl_step exp_step locals_step open_step operand_step rhs_step where_step alt_guard_step alt_item_step alts_step decl_item_step decls_step guard_step next_operand_step operands_step part_step redef_step redef_item_step redefs_step x)

pub operands_at : (x : OperandList) → capped (operands_depth x) ≡ capped_sum (capped (1 + length (out-OperandList x).others)) (max (capped (operand_depth (out-OperandList x).first)) (capped (deepest (map next_operand_depth (out-OperandList x).others))))
unfolding aexp_depth alt_depth decl_depth exp_depth locals_depth open_depth operand_depth rhs_depth where_depth alt_guard_depth alt_item_depth alts_depth decl_item_depth decls_depth guard_depth next_operand_depth operands_depth part_depth redef_depth redef_item_depth redefs_depth
operands_at x = ap (λ d. capped d) (fold_out-OperandList ℕ ℕ ℕ ℕ ℕ ℕ ℕ ℕ ℕ ℕ ℕ ℕ ℕ ℕ ℕ ℕ ℕ ℕ ℕ ℕ ℕ aexp_step alt_step decl_step exp_step locals_step open_step operand_step rhs_step where_step alt_guard_step alt_item_step alts_step decl_item_step decls_step guard_step next_operand_step operands_step part_step redef_step redef_item_step redefs_step x) ∙ ap (λ (n : ℕ). capped (1 + n + (max (operand_depth (out-OperandList x).first) (deepest (map next_operand_depth (out-OperandList x).others))))) (length-map ((out-OperandList x).others) next_operand_depth) ∙ sym (capped_adds (1 + length (out-OperandList x).others) (max (operand_depth (out-OperandList x).first) (deepest (map next_operand_depth (out-OperandList x).others)))) ∙ ap (capped_sum (capped (1 + length (out-OperandList x).others))) (sym (capped_max (operand_depth (out-OperandList x).first) (deepest (map next_operand_depth (out-OperandList x).others))))

pub part_at : (x : Part) → capped (part_depth x) ≡ capped (exp_depth (out-Part x).exp)
unfolding aexp_depth alt_depth decl_depth exp_depth locals_depth open_depth operand_depth rhs_depth where_depth alt_guard_depth alt_item_depth alts_depth decl_item_depth decls_depth guard_depth next_operand_depth operands_depth part_depth redef_depth redef_item_depth redefs_depth
part_at x = ap (λ d. capped d) (fold_out-Part ℕ ℕ ℕ ℕ ℕ ℕ ℕ ℕ ℕ ℕ ℕ ℕ ℕ ℕ ℕ ℕ ℕ ℕ ℕ ℕ ℕ aexp_step alt_step decl_step exp_step locals_step open_step operand_step rhs_step where_step alt_guard_step alt_item_step alts_step decl_item_step decls_step guard_step next_operand_step operands_step part_step redef_step redef_item_step redefs_step x)

pub redef_at : (x : Redef) → capped (redef_depth x) ≡ capped_sum (capped 1) (capped (exp_depth (out-Redef x).body))
unfolding aexp_depth alt_depth decl_depth exp_depth locals_depth open_depth operand_depth rhs_depth where_depth alt_guard_depth alt_item_depth alts_depth decl_item_depth decls_depth guard_depth next_operand_depth operands_depth part_depth redef_depth redef_item_depth redefs_depth
redef_at x = ap (λ d. capped d) (fold_out-Redef ℕ ℕ ℕ ℕ ℕ ℕ ℕ ℕ ℕ ℕ ℕ ℕ ℕ ℕ ℕ ℕ ℕ ℕ ℕ ℕ ℕ aexp_step alt_step decl_step exp_step locals_step open_step operand_step rhs_step where_step alt_guard_step alt_item_step alts_step decl_item_step decls_step guard_step next_operand_step operands_step part_step redef_step redef_item_step redefs_step x) ∙ sym (capped_adds 1 (exp_depth (out-Redef x).body))

pub redef_item_at : (x : RedefItem) → capped (redef_item_depth x) ≡ capped (redef_depth (out-RedefItem x).redef)
unfolding aexp_depth alt_depth decl_depth exp_depth locals_depth open_depth operand_depth rhs_depth where_depth alt_guard_depth alt_item_depth alts_depth decl_item_depth decls_depth guard_depth next_operand_depth operands_depth part_depth redef_depth redef_item_depth redefs_depth
redef_item_at x = ap (λ d. capped d) (fold_out-RedefItem ℕ ℕ ℕ ℕ ℕ ℕ ℕ ℕ ℕ ℕ ℕ ℕ ℕ ℕ ℕ ℕ ℕ ℕ ℕ ℕ ℕ aexp_step alt_step decl_step exp_step locals_step open_step operand_step rhs_step where_step alt_guard_step alt_item_step alts_step decl_item_step decls_step guard_step next_operand_step operands_step part_step redef_step redef_item_step redefs_step x)

pub redefs_at : (x : Redefs) → capped (redefs_depth x) ≡ capped_sum (capped (weight_of (length (out-Redefs x).redefs))) (capped (deepest (map redef_item_depth (out-Redefs x).redefs)))
unfolding aexp_depth alt_depth decl_depth exp_depth locals_depth open_depth operand_depth rhs_depth where_depth alt_guard_depth alt_item_depth alts_depth decl_item_depth decls_depth guard_depth next_operand_depth operands_depth part_depth redef_depth redef_item_depth redefs_depth
redefs_at x = ap (λ d. capped d) (fold_out-Redefs ℕ ℕ ℕ ℕ ℕ ℕ ℕ ℕ ℕ ℕ ℕ ℕ ℕ ℕ ℕ ℕ ℕ ℕ ℕ ℕ ℕ aexp_step alt_step decl_step exp_step locals_step open_step operand_step rhs_step where_step alt_guard_step alt_item_step alts_step decl_item_step decls_step guard_step next_operand_step operands_step part_step redef_step redef_item_step redefs_step x) ∙ ap (λ (n : ℕ). capped (weight_of n + (deepest (map redef_item_depth (out-Redefs x).redefs)))) (length-map ((out-Redefs x).redefs) redef_item_depth) ∙ sym (capped_adds (weight_of (length (out-Redefs x).redefs)) (deepest (map redef_item_depth (out-Redefs x).redefs)))
