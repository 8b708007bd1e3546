-- What the limits count, node by node, as places in the table of limits.
use Rattle.std.proofs.Common.{◌≡◌, ℕ, ◌+◌, min, List, [], ◌∷◌, ◌++◌, length, map, Option, Some, None, sym, ap, ◌∙◌}
use Rattle.gh_base.specs.declared.place.Span.{Span}
use Rattle.gh_base.specs.declared.refusal.Limit.TheVariants.{Arguments, Bindings}
use Rattle.gh_tree.specs.declared.names.Var.{Var}
use Rattle.gh_tree.specs.declared.names.Op.{Op}
use Rattle.gh_tree.specs.declared.names.GenCon.{GenCon}
use Rattle.gh_tree.specs.declared.names.FixityWord.{FixityWord}
use Rattle.gh_tree.specs.declared.names.NextVar.{NextVar}
use Rattle.gh_tree.specs.declared.names.NextOp.{NextOp}
use Rattle.gh_tree.specs.declared.types.TypeExpr.{TypeExpr}
use Rattle.gh_tree.specs.declared.patterns.ArgPattern.{ArgPattern}
use Rattle.gh_tree.specs.declared.patterns.Pattern.{Pattern}
use Rattle.gh_tree.specs.declared.patterns.FunLhs.{FunLhs}
use Rattle.gh_tree.specs.declared.expressions.Aexp.{Aexp, fold-roll-Aexp}
use Rattle.gh_tree.specs.declared.expressions.Aexp.TheVariants as v_Aexp
use Rattle.gh_tree.specs.declared.expressions.Alt.{fold-roll-Alt}
use Rattle.gh_tree.specs.declared.expressions.Alt.TheVariants as v_Alt
use Rattle.gh_tree.specs.declared.expressions.Decl.{fold-roll-Decl}
use Rattle.gh_tree.specs.declared.expressions.Decl.TheVariants as v_Decl
use Rattle.gh_tree.specs.declared.expressions.Exp.{Exp, fold-roll-Exp}
use Rattle.gh_tree.specs.declared.expressions.Exp.TheVariants as v_Exp
use Rattle.gh_tree.specs.declared.expressions.Locals.{Locals, fold-roll-Locals}
use Rattle.gh_tree.specs.declared.expressions.Locals.TheVariants as v_Locals
use Rattle.gh_tree.specs.declared.expressions.Open.{Open, fold-roll-Open}
use Rattle.gh_tree.specs.declared.expressions.Open.TheVariants as v_Open
use Rattle.gh_tree.specs.declared.expressions.Operand.{fold-roll-Operand}
use Rattle.gh_tree.specs.declared.expressions.Operand.TheVariants as v_Operand
use Rattle.gh_tree.specs.declared.expressions.Rhs.{Rhs, fold-roll-Rhs}
use Rattle.gh_tree.specs.declared.expressions.Rhs.TheVariants as v_Rhs
use Rattle.gh_tree.specs.declared.expressions.Where.{Where, fold-roll-Where}
use Rattle.gh_tree.specs.declared.expressions.Where.TheVariants as v_Where
use Rattle.gh_tree.specs.declared.expressions.AltGuard.{AltGuard, out-AltGuard, fold_out-AltGuard}
use Rattle.gh_tree.specs.declared.expressions.AltItem.{AltItem, out-AltItem, fold_out-AltItem}
use Rattle.gh_tree.specs.declared.expressions.Alts.{Alts, out-Alts, fold_out-Alts}
use Rattle.gh_tree.specs.declared.expressions.DeclItem.{DeclItem, out-DeclItem, fold_out-DeclItem}
use Rattle.gh_tree.specs.declared.expressions.Decls.{Decls, out-Decls, fold_out-Decls}
use Rattle.gh_tree.specs.declared.expressions.Guard.{Guard, out-Guard, fold_out-Guard}
use Rattle.gh_tree.specs.declared.expressions.NextOperand.{NextOperand, out-NextOperand, fold_out-NextOperand}
use Rattle.gh_tree.specs.declared.expressions.OperandList.{OperandList, out-OperandList, fold_out-OperandList}
use Rattle.gh_tree.specs.declared.expressions.Part.{Part, out-Part, fold_out-Part}
use Rattle.gh_tree.specs.declared.expressions.Redef.{Redef, out-Redef, fold_out-Redef}
use Rattle.gh_tree.specs.declared.expressions.RedefItem.{RedefItem, out-RedefItem, fold_out-RedefItem}
use Rattle.gh_tree.specs.declared.expressions.Redefs.{Redefs, out-Redefs, fold_out-Redefs}
use Rattle.gh_tree.specs.declared.expressions.Aexp.TheOpen.{Aexp-F, Alt-F, Decl-F, Exp-F, Locals-F, Open-F, Operand-F, Rhs-F, Where-F}
use Rattle.gh_limits.specs.Bound.{head_of, pattern_names}
use Rattle.gh_limits.specs.Inside.{Declared, clause_by, bound, clause_counts, insides, clause_at, inside_at, aexp_counts, alt_counts, decl_declared, exp_counts, locals_counts, open_counts, operand_counts, rhs_counts, where_counts, alt_guard_counts, alt_item_counts, alts_counts, decl_item_declared, decls_counts, guard_counts, next_operand_counts, operands_counts, part_counts, redef_counts, redef_item_counts, redefs_counts, aexp_step, alt_step, decl_step, exp_step, locals_step, open_step, operand_step, rhs_step, where_step, alt_guard_step, alt_item_step, alts_step, decl_item_step, decls_step, guard_step, next_operand_step, operands_step, part_step, redef_step, redef_item_step, redefs_step}
use Rattle.gh_limits.specs.Places.{Count, place, first_place, all_of}
use Rattle.gh_limits.proofs.Found.{first_append, map_twice}

pub aexp_var : (x0 : Var) → first_place (aexp_counts (v_Aexp.Var x0)) ≡ 7
unfolding aexp_counts alt_counts decl_declared exp_counts locals_counts open_counts operand_counts rhs_counts where_counts alt_guard_counts alt_item_counts alts_counts decl_item_declared decls_counts guard_counts next_operand_counts operands_counts part_counts redef_counts redef_item_counts redefs_counts
aexp_var x0 = ap first_place (ap aexp_counts (sym (v_Aexp.rolls-Var x0)) ∙ fold-roll-Aexp (List Count) (List Count) Declared (List Count) (List Count) (List Count) (List Count) (List Count) (List Count) (List Count) (List Count) (List Count) Declared (List Count) (List Count) (List Count) (List Count) (List Count) (List Count) (List Count) (List Count) aexp_step alt_step decl_step exp_step locals_step open_step operand_step rhs_step where_step alt_guard_step alt_item_step alts_step decl_item_step decls_step guard_step next_operand_step operands_step part_step redef_step redef_item_step redefs_step (Aexp-F.Var x0))

pub aexp_generic : (x0 : Span) (x1 : Var) (x2 : Span) (x3 : TypeExpr) (x4 : Span) → first_place (aexp_counts (v_Aexp.Generic x0 x1 x2 x3 x4)) ≡ 7
unfolding aexp_counts alt_counts decl_declared exp_counts locals_counts open_counts operand_counts rhs_counts where_counts alt_guard_counts alt_item_counts alts_counts decl_item_declared decls_counts guard_counts next_operand_counts operands_counts part_counts redef_counts redef_item_counts redefs_counts
aexp_generic x0 x1 x2 x3 x4 = ap first_place (ap aexp_counts (sym (v_Aexp.rolls-Generic x0 x1 x2 x3 x4)) ∙ fold-roll-Aexp (List Count) (List Count) Declared (List Count) (List Count) (List Count) (List Count) (List Count) (List Count) (List Count) (List Count) (List Count) Declared (List Count) (List Count) (List Count) (List Count) (List Count) (List Count) (List Count) (List Count) aexp_step alt_step decl_step exp_step locals_step open_step operand_step rhs_step where_step alt_guard_step alt_item_step alts_step decl_item_step decls_step guard_step next_operand_step operands_step part_step redef_step redef_item_step redefs_step (Aexp-F.Generic x0 x1 x2 x3 x4))

pub aexp_con : (x0 : GenCon) → first_place (aexp_counts (v_Aexp.Con x0)) ≡ 7
unfolding aexp_counts alt_counts decl_declared exp_counts locals_counts open_counts operand_counts rhs_counts where_counts alt_guard_counts alt_item_counts alts_counts decl_item_declared decls_counts guard_counts next_operand_counts operands_counts part_counts redef_counts redef_item_counts redefs_counts
aexp_con x0 = ap first_place (ap aexp_counts (sym (v_Aexp.rolls-Con x0)) ∙ fold-roll-Aexp (List Count) (List Count) Declared (List Count) (List Count) (List Count) (List Count) (List Count) (List Count) (List Count) (List Count) (List Count) Declared (List Count) (List Count) (List Count) (List Count) (List Count) (List Count) (List Count) (List Count) aexp_step alt_step decl_step exp_step locals_step open_step operand_step rhs_step where_step alt_guard_step alt_item_step alts_step decl_item_step decls_step guard_step next_operand_step operands_step part_step redef_step redef_item_step redefs_step (Aexp-F.Con x0))

pub aexp_int : (x0 : Span) (x1 : ℕ) → first_place (aexp_counts (v_Aexp.Int x0 x1)) ≡ 7
unfolding aexp_counts alt_counts decl_declared exp_counts locals_counts open_counts operand_counts rhs_counts where_counts alt_guard_counts alt_item_counts alts_counts decl_item_declared decls_counts guard_counts next_operand_counts operands_counts part_counts redef_counts redef_item_counts redefs_counts
aexp_int x0 x1 = ap first_place (ap aexp_counts (sym (v_Aexp.rolls-Int x0 x1)) ∙ fold-roll-Aexp (List Count) (List Count) Declared (List Count) (List Count) (List Count) (List Count) (List Count) (List Count) (List Count) (List Count) (List Count) Declared (List Count) (List Count) (List Count) (List Count) (List Count) (List Count) (List Count) (List Count) aexp_step alt_step decl_step exp_step locals_step open_step operand_step rhs_step where_step alt_guard_step alt_item_step alts_step decl_item_step decls_step guard_step next_operand_step operands_step part_step redef_step redef_item_step redefs_step (Aexp-F.Int x0 x1))

pub aexp_char : (x0 : Span) (x1 : ℕ) → first_place (aexp_counts (v_Aexp.Char x0 x1)) ≡ 7
unfolding aexp_counts alt_counts decl_declared exp_counts locals_counts open_counts operand_counts rhs_counts where_counts alt_guard_counts alt_item_counts alts_counts decl_item_declared decls_counts guard_counts next_operand_counts operands_counts part_counts redef_counts redef_item_counts redefs_counts
aexp_char x0 x1 = ap first_place (ap aexp_counts (sym (v_Aexp.rolls-Char x0 x1)) ∙ fold-roll-Aexp (List Count) (List Count) Declared (List Count) (List Count) (List Count) (List Count) (List Count) (List Count) (List Count) (List Count) (List Count) Declared (List Count) (List Count) (List Count) (List Count) (List Count) (List Count) (List Count) (List Count) aexp_step alt_step decl_step exp_step locals_step open_step operand_step rhs_step where_step alt_guard_step alt_item_step alts_step decl_item_step decls_step guard_step next_operand_step operands_step part_step redef_step redef_item_step redefs_step (Aexp-F.Char x0 x1))

pub aexp_str : (x0 : Span) (x1 : List ℕ) → first_place (aexp_counts (v_Aexp.Str x0 x1)) ≡ 7
unfolding aexp_counts alt_counts decl_declared exp_counts locals_counts open_counts operand_counts rhs_counts where_counts alt_guard_counts alt_item_counts alts_counts decl_item_declared decls_counts guard_counts next_operand_counts operands_counts part_counts redef_counts redef_item_counts redefs_counts
aexp_str x0 x1 = ap first_place (ap aexp_counts (sym (v_Aexp.rolls-Str x0 x1)) ∙ fold-roll-Aexp (List Count) (List Count) Declared (List Count) (List Count) (List Count) (List Count) (List Count) (List Count) (List Count) (List Count) (List Count) Declared (List Count) (List Count) (List Count) (List Count) (List Count) (List Count) (List Count) (List Count) aexp_step alt_step decl_step exp_step locals_step open_step operand_step rhs_step where_step alt_guard_step alt_item_step alts_step decl_item_step decls_step guard_step next_operand_step operands_step part_step redef_step redef_item_step redefs_step (Aexp-F.Str x0 x1))

pub aexp_paren : (x0 : Span) (x1 : Span) (x2 : Exp) (x3 : Span) → first_place (aexp_counts (v_Aexp.Paren x0 x1 x2 x3)) ≡ first_place (exp_counts x2)
unfolding aexp_counts alt_counts decl_declared exp_counts locals_counts open_counts operand_counts rhs_counts where_counts alt_guard_counts alt_item_counts alts_counts decl_item_declared decls_counts guard_counts next_operand_counts operands_counts part_counts redef_counts redef_item_counts redefs_counts
aexp_paren x0 x1 x2 x3 = ap first_place (ap aexp_counts (sym (v_Aexp.rolls-Paren x0 x1 x2 x3)) ∙ fold-roll-Aexp (List Count) (List Count) Declared (List Count) (List Count) (List Count) (List Count) (List Count) (List Count) (List Count) (List Count) (List Count) Declared (List Count) (List Count) (List Count) (List Count) (List Count) (List Count) (List Count) (List Count) aexp_step alt_step decl_step exp_step locals_step open_step operand_step rhs_step where_step alt_guard_step alt_item_step alts_step decl_item_step decls_step guard_step next_operand_step operands_step part_step redef_step redef_item_step redefs_step (Aexp-F.Paren x0 x1 x2 x3))

pub aexp_tuple : (x0 : Span) (x1 : Span) (x2 : Exp) (x3 : List Part) (x4 : Span) → first_place (aexp_counts (v_Aexp.Tuple x0 x1 x2 x3 x4)) ≡ min (first_place (exp_counts x2)) (first_place (all_of (map part_counts x3)))
unfolding aexp_counts alt_counts decl_declared exp_counts locals_counts open_counts operand_counts rhs_counts where_counts alt_guard_counts alt_item_counts alts_counts decl_item_declared decls_counts guard_counts next_operand_counts operands_counts part_counts redef_counts redef_item_counts redefs_counts
aexp_tuple x0 x1 x2 x3 x4 = ap first_place (ap aexp_counts (sym (v_Aexp.rolls-Tuple x0 x1 x2 x3 x4)) ∙ fold-roll-Aexp (List Count) (List Count) Declared (List Count) (List Count) (List Count) (List Count) (List Count) (List Count) (List Count) (List Count) (List Count) Declared (List Count) (List Count) (List Count) (List Count) (List Count) (List Count) (List Count) (List Count) aexp_step alt_step decl_step exp_step locals_step open_step operand_step rhs_step where_step alt_guard_step alt_item_step alts_step decl_item_step decls_step guard_step next_operand_step operands_step part_step redef_step redef_item_step redefs_step (Aexp-F.Tuple x0 x1 x2 x3 x4)) ∙ first_append (exp_counts x2) (all_of (map part_counts x3))

pub aexp_list : (x0 : Span) (x1 : Span) (x2 : Exp) (x3 : List Part) (x4 : Span) → first_place (aexp_counts (v_Aexp.List x0 x1 x2 x3 x4)) ≡ min (first_place (exp_counts x2)) (first_place (all_of (map part_counts x3)))
unfolding aexp_counts alt_counts decl_declared exp_counts locals_counts open_counts operand_counts rhs_counts where_counts alt_guard_counts alt_item_counts alts_counts decl_item_declared decls_counts guard_counts next_operand_counts operands_counts part_counts redef_counts redef_item_counts redefs_counts
aexp_list x0 x1 x2 x3 x4 = ap first_place (ap aexp_counts (sym (v_Aexp.rolls-List x0 x1 x2 x3 x4)) ∙ fold-roll-Aexp (List Count) (List Count) Declared (List Count) (List Count) (List Count) (List Count) (List Count) (List Count) (List Count) (List Count) (List Count) Declared (List Count) (List Count) (List Count) (List Count) (List Count) (List Count) (List Count) (List Count) aexp_step alt_step decl_step exp_step locals_step open_step operand_step rhs_step where_step alt_guard_step alt_item_step alts_step decl_item_step decls_step guard_step next_operand_step operands_step part_step redef_step redef_item_step redefs_step (Aexp-F.List x0 x1 x2 x3 x4)) ∙ first_append (exp_counts x2) (all_of (map part_counts x3))

pub aexp_left : (x0 : Span) (x1 : Span) (x2 : OperandList) (x3 : Op) (x4 : Span) → first_place (aexp_counts (v_Aexp.Left x0 x1 x2 x3 x4)) ≡ first_place (operands_counts x2)
unfolding aexp_counts alt_counts decl_declared exp_counts locals_counts open_counts operand_counts rhs_counts where_counts alt_guard_counts alt_item_counts alts_counts decl_item_declared decls_counts guard_counts next_operand_counts operands_counts part_counts redef_counts redef_item_counts redefs_counts
aexp_left x0 x1 x2 x3 x4 = ap first_place (ap aexp_counts (sym (v_Aexp.rolls-Left x0 x1 x2 x3 x4)) ∙ fold-roll-Aexp (List Count) (List Count) Declared (List Count) (List Count) (List Count) (List Count) (List Count) (List Count) (List Count) (List Count) (List Count) Declared (List Count) (List Count) (List Count) (List Count) (List Count) (List Count) (List Count) (List Count) aexp_step alt_step decl_step exp_step locals_step open_step operand_step rhs_step where_step alt_guard_step alt_item_step alts_step decl_item_step decls_step guard_step next_operand_step operands_step part_step redef_step redef_item_step redefs_step (Aexp-F.Left x0 x1 x2 x3 x4))

pub aexp_right : (x0 : Span) (x1 : Span) (x2 : Op) (x3 : OperandList) (x4 : Span) → first_place (aexp_counts (v_Aexp.Right x0 x1 x2 x3 x4)) ≡ first_place (operands_counts x3)
unfolding aexp_counts alt_counts decl_declared exp_counts locals_counts open_counts operand_counts rhs_counts where_counts alt_guard_counts alt_item_counts alts_counts decl_item_declared decls_counts guard_counts next_operand_counts operands_counts part_counts redef_counts redef_item_counts redefs_counts
aexp_right x0 x1 x2 x3 x4 = ap first_place (ap aexp_counts (sym (v_Aexp.rolls-Right x0 x1 x2 x3 x4)) ∙ fold-roll-Aexp (List Count) (List Count) Declared (List Count) (List Count) (List Count) (List Count) (List Count) (List Count) (List Count) (List Count) (List Count) Declared (List Count) (List Count) (List Count) (List Count) (List Count) (List Count) (List Count) (List Count) aexp_step alt_step decl_step exp_step locals_step open_step operand_step rhs_step where_step alt_guard_step alt_item_step alts_step decl_item_step decls_step guard_step next_operand_step operands_step part_step redef_step redef_item_step redefs_step (Aexp-F.Right x0 x1 x2 x3 x4))

pub alt_plain : (x0 : Span) (x1 : Pattern) (x2 : Span) (x3 : Exp) (x4 : Where) → first_place (alt_counts (v_Alt.Plain x0 x1 x2 x3 x4)) ≡ min (first_place (exp_counts x3)) (first_place (where_counts x4))
unfolding aexp_counts alt_counts decl_declared exp_counts locals_counts open_counts operand_counts rhs_counts where_counts alt_guard_counts alt_item_counts alts_counts decl_item_declared decls_counts guard_counts next_operand_counts operands_counts part_counts redef_counts redef_item_counts redefs_counts
alt_plain x0 x1 x2 x3 x4 = ap first_place (ap alt_counts (sym (v_Alt.rolls-Plain x0 x1 x2 x3 x4)) ∙ fold-roll-Alt (List Count) (List Count) Declared (List Count) (List Count) (List Count) (List Count) (List Count) (List Count) (List Count) (List Count) (List Count) Declared (List Count) (List Count) (List Count) (List Count) (List Count) (List Count) (List Count) (List Count) aexp_step alt_step decl_step exp_step locals_step open_step operand_step rhs_step where_step alt_guard_step alt_item_step alts_step decl_item_step decls_step guard_step next_operand_step operands_step part_step redef_step redef_item_step redefs_step (Alt-F.Alt::Plain x0 x1 x2 x3 x4)) ∙ first_append (exp_counts x3) (where_counts x4)

pub alt_guarded : (x0 : Span) (x1 : Pattern) (x2 : AltGuard) (x3 : List AltGuard) (x4 : Where) → first_place (alt_counts (v_Alt.Guarded x0 x1 x2 x3 x4)) ≡ min (first_place (alt_guard_counts x2)) (min (first_place (all_of (map alt_guard_counts x3))) (first_place (where_counts x4)))
unfolding aexp_counts alt_counts decl_declared exp_counts locals_counts open_counts operand_counts rhs_counts where_counts alt_guard_counts alt_item_counts alts_counts decl_item_declared decls_counts guard_counts next_operand_counts operands_counts part_counts redef_counts redef_item_counts redefs_counts
alt_guarded x0 x1 x2 x3 x4 = ap first_place (ap alt_counts (sym (v_Alt.rolls-Guarded x0 x1 x2 x3 x4)) ∙ fold-roll-Alt (List Count) (List Count) Declared (List Count) (List Count) (List Count) (List Count) (List Count) (List Count) (List Count) (List Count) (List Count) Declared (List Count) (List Count) (List Count) (List Count) (List Count) (List Count) (List Count) (List Count) aexp_step alt_step decl_step exp_step locals_step open_step operand_step rhs_step where_step alt_guard_step alt_item_step alts_step decl_item_step decls_step guard_step next_operand_step operands_step part_step redef_step redef_item_step redefs_step (Alt-F.Alt::Guarded x0 x1 x2 x3 x4)) ∙ first_append (alt_guard_counts x2) (all_of (map alt_guard_counts x3) ++ (where_counts x4)) ∙ ap (min (first_place (alt_guard_counts x2))) (first_append (all_of (map alt_guard_counts x3)) (where_counts x4))

pub exp_plain : (x0 : OperandList) → first_place (exp_counts (v_Exp.Plain x0)) ≡ first_place (operands_counts x0)
unfolding aexp_counts alt_counts decl_declared exp_counts locals_counts open_counts operand_counts rhs_counts where_counts alt_guard_counts alt_item_counts alts_counts decl_item_declared decls_counts guard_counts next_operand_counts operands_counts part_counts redef_counts redef_item_counts redefs_counts
exp_plain x0 = ap first_place (ap exp_counts (sym (v_Exp.rolls-Plain x0)) ∙ fold-roll-Exp (List Count) (List Count) Declared (List Count) (List Count) (List Count) (List Count) (List Count) (List Count) (List Count) (List Count) (List Count) Declared (List Count) (List Count) (List Count) (List Count) (List Count) (List Count) (List Count) (List Count) aexp_step alt_step decl_step exp_step locals_step open_step operand_step rhs_step where_step alt_guard_step alt_item_step alts_step decl_item_step decls_step guard_step next_operand_step operands_step part_step redef_step redef_item_step redefs_step (Exp-F.Exp::Plain x0))

pub exp_typed : (x0 : Span) (x1 : OperandList) (x2 : Span) (x3 : TypeExpr) → first_place (exp_counts (v_Exp.Typed x0 x1 x2 x3)) ≡ first_place (operands_counts x1)
unfolding aexp_counts alt_counts decl_declared exp_counts locals_counts open_counts operand_counts rhs_counts where_counts alt_guard_counts alt_item_counts alts_counts decl_item_declared decls_counts guard_counts next_operand_counts operands_counts part_counts redef_counts redef_item_counts redefs_counts
exp_typed x0 x1 x2 x3 = ap first_place (ap exp_counts (sym (v_Exp.rolls-Typed x0 x1 x2 x3)) ∙ fold-roll-Exp (List Count) (List Count) Declared (List Count) (List Count) (List Count) (List Count) (List Count) (List Count) (List Count) (List Count) (List Count) Declared (List Count) (List Count) (List Count) (List Count) (List Count) (List Count) (List Count) (List Count) aexp_step alt_step decl_step exp_step locals_step open_step operand_step rhs_step where_step alt_guard_step alt_item_step alts_step decl_item_step decls_step guard_step next_operand_step operands_step part_step redef_step redef_item_step redefs_step (Exp-F.Typed x0 x1 x2 x3))

pub locals_decls : (x0 : Decls) → first_place (locals_counts (v_Locals.Decls x0)) ≡ first_place (decls_counts x0)
unfolding aexp_counts alt_counts decl_declared exp_counts locals_counts open_counts operand_counts rhs_counts where_counts alt_guard_counts alt_item_counts alts_counts decl_item_declared decls_counts guard_counts next_operand_counts operands_counts part_counts redef_counts redef_item_counts redefs_counts
locals_decls x0 = ap first_place (ap locals_counts (sym (v_Locals.rolls-Decls x0)) ∙ fold-roll-Locals (List Count) (List Count) Declared (List Count) (List Count) (List Count) (List Count) (List Count) (List Count) (List Count) (List Count) (List Count) Declared (List Count) (List Count) (List Count) (List Count) (List Count) (List Count) (List Count) (List Count) aexp_step alt_step decl_step exp_step locals_step open_step operand_step rhs_step where_step alt_guard_step alt_item_step alts_step decl_item_step decls_step guard_step next_operand_step operands_step part_step redef_step redef_item_step redefs_step (Locals-F.Decls x0))

pub locals_redefs : (x0 : Redefs) → first_place (locals_counts (v_Locals.Redefs x0)) ≡ first_place (redefs_counts x0)
unfolding aexp_counts alt_counts decl_declared exp_counts locals_counts open_counts operand_counts rhs_counts where_counts alt_guard_counts alt_item_counts alts_counts decl_item_declared decls_counts guard_counts next_operand_counts operands_counts part_counts redef_counts redef_item_counts redefs_counts
locals_redefs x0 = ap first_place (ap locals_counts (sym (v_Locals.rolls-Redefs x0)) ∙ fold-roll-Locals (List Count) (List Count) Declared (List Count) (List Count) (List Count) (List Count) (List Count) (List Count) (List Count) (List Count) (List Count) Declared (List Count) (List Count) (List Count) (List Count) (List Count) (List Count) (List Count) (List Count) aexp_step alt_step decl_step exp_step locals_step open_step operand_step rhs_step where_step alt_guard_step alt_item_step alts_step decl_item_step decls_step guard_step next_operand_step operands_step part_step redef_step redef_item_step redefs_step (Locals-F.Redefs x0))

pub open_lambda : (x0 : Span) (x1 : Span) (x2 : ArgPattern) (x3 : List ArgPattern) (x4 : Span) (x5 : Exp) → first_place (open_counts (v_Open.Lambda x0 x1 x2 x3 x4 x5)) ≡ min (place Arguments (1 + length x3)) (first_place (exp_counts x5))
unfolding aexp_counts alt_counts decl_declared exp_counts locals_counts open_counts operand_counts rhs_counts where_counts alt_guard_counts alt_item_counts alts_counts decl_item_declared decls_counts guard_counts next_operand_counts operands_counts part_counts redef_counts redef_item_counts redefs_counts
open_lambda x0 x1 x2 x3 x4 x5 = ap first_place (ap open_counts (sym (v_Open.rolls-Lambda x0 x1 x2 x3 x4 x5)) ∙ fold-roll-Open (List Count) (List Count) Declared (List Count) (List Count) (List Count) (List Count) (List Count) (List Count) (List Count) (List Count) (List Count) Declared (List Count) (List Count) (List Count) (List Count) (List Count) (List Count) (List Count) (List Count) aexp_step alt_step decl_step exp_step locals_step open_step operand_step rhs_step where_step alt_guard_step alt_item_step alts_step decl_item_step decls_step guard_step next_operand_step operands_step part_step redef_step redef_item_step redefs_step (Open-F.Lambda x0 x1 x2 x3 x4 x5))

pub open_let : (x0 : Span) (x1 : Span) (x2 : Locals) (x3 : Span) (x4 : Exp) → first_place (open_counts (v_Open.Let x0 x1 x2 x3 x4)) ≡ min (first_place (locals_counts x2)) (first_place (exp_counts x4))
unfolding aexp_counts alt_counts decl_declared exp_counts locals_counts open_counts operand_counts rhs_counts where_counts alt_guard_counts alt_item_counts alts_counts decl_item_declared decls_counts guard_counts next_operand_counts operands_counts part_counts redef_counts redef_item_counts redefs_counts
open_let x0 x1 x2 x3 x4 = ap first_place (ap open_counts (sym (v_Open.rolls-Let x0 x1 x2 x3 x4)) ∙ fold-roll-Open (List Count) (List Count) Declared (List Count) (List Count) (List Count) (List Count) (List Count) (List Count) (List Count) (List Count) (List Count) Declared (List Count) (List Count) (List Count) (List Count) (List Count) (List Count) (List Count) (List Count) aexp_step alt_step decl_step exp_step locals_step open_step operand_step rhs_step where_step alt_guard_step alt_item_step alts_step decl_item_step decls_step guard_step next_operand_step operands_step part_step redef_step redef_item_step redefs_step (Open-F.Let x0 x1 x2 x3 x4)) ∙ first_append (locals_counts x2) (exp_counts x4)

pub open_if : (x0 : Span) (x1 : Span) (x2 : Exp) (x3 : Span) (x4 : Exp) (x5 : Span) (x6 : Exp) → first_place (open_counts (v_Open.If x0 x1 x2 x3 x4 x5 x6)) ≡ min (first_place (exp_counts x2)) (min (first_place (exp_counts x4)) (first_place (exp_counts x6)))
unfolding aexp_counts alt_counts decl_declared exp_counts locals_counts open_counts operand_counts rhs_counts where_counts alt_guard_counts alt_item_counts alts_counts decl_item_declared decls_counts guard_counts next_operand_counts operands_counts part_counts redef_counts redef_item_counts redefs_counts
open_if x0 x1 x2 x3 x4 x5 x6 = ap first_place (ap open_counts (sym (v_Open.rolls-If x0 x1 x2 x3 x4 x5 x6)) ∙ fold-roll-Open (List Count) (List Count) Declared (List Count) (List Count) (List Count) (List Count) (List Count) (List Count) (List Count) (List Count) (List Count) Declared (List Count) (List Count) (List Count) (List Count) (List Count) (List Count) (List Count) (List Count) aexp_step alt_step decl_step exp_step locals_step open_step operand_step rhs_step where_step alt_guard_step alt_item_step alts_step decl_item_step decls_step guard_step next_operand_step operands_step part_step redef_step redef_item_step redefs_step (Open-F.If x0 x1 x2 x3 x4 x5 x6)) ∙ first_append (exp_counts x2) (exp_counts x4 ++ (exp_counts x6)) ∙ ap (min (first_place (exp_counts x2))) (first_append (exp_counts x4) (exp_counts x6))

pub operand_apply : (x0 : Span) (x1 : Aexp) (x2 : List Aexp) → first_place (operand_counts (v_Operand.Apply x0 x1 x2)) ≡ min (first_place (aexp_counts x1)) (first_place (all_of (map aexp_counts x2)))
unfolding aexp_counts alt_counts decl_declared exp_counts locals_counts open_counts operand_counts rhs_counts where_counts alt_guard_counts alt_item_counts alts_counts decl_item_declared decls_counts guard_counts next_operand_counts operands_counts part_counts redef_counts redef_item_counts redefs_counts
operand_apply x0 x1 x2 = ap first_place (ap operand_counts (sym (v_Operand.rolls-Apply x0 x1 x2)) ∙ fold-roll-Operand (List Count) (List Count) Declared (List Count) (List Count) (List Count) (List Count) (List Count) (List Count) (List Count) (List Count) (List Count) Declared (List Count) (List Count) (List Count) (List Count) (List Count) (List Count) (List Count) (List Count) aexp_step alt_step decl_step exp_step locals_step open_step operand_step rhs_step where_step alt_guard_step alt_item_step alts_step decl_item_step decls_step guard_step next_operand_step operands_step part_step redef_step redef_item_step redefs_step (Operand-F.Apply x0 x1 x2)) ∙ first_append (aexp_counts x1) (all_of (map aexp_counts x2))

pub operand_case : (x0 : Span) (x1 : Span) (x2 : Exp) (x3 : Span) (x4 : Alts) → first_place (operand_counts (v_Operand.Case x0 x1 x2 x3 x4)) ≡ min (first_place (exp_counts x2)) (first_place (alts_counts x4))
unfolding aexp_counts alt_counts decl_declared exp_counts locals_counts open_counts operand_counts rhs_counts where_counts alt_guard_counts alt_item_counts alts_counts decl_item_declared decls_counts guard_counts next_operand_counts operands_counts part_counts redef_counts redef_item_counts redefs_counts
operand_case x0 x1 x2 x3 x4 = ap first_place (ap operand_counts (sym (v_Operand.rolls-Case x0 x1 x2 x3 x4)) ∙ fold-roll-Operand (List Count) (List Count) Declared (List Count) (List Count) (List Count) (List Count) (List Count) (List Count) (List Count) (List Count) (List Count) Declared (List Count) (List Count) (List Count) (List Count) (List Count) (List Count) (List Count) (List Count) aexp_step alt_step decl_step exp_step locals_step open_step operand_step rhs_step where_step alt_guard_step alt_item_step alts_step decl_item_step decls_step guard_step next_operand_step operands_step part_step redef_step redef_item_step redefs_step (Operand-F.Case x0 x1 x2 x3 x4)) ∙ first_append (exp_counts x2) (alts_counts x4)

pub operand_open : (x0 : Open) → first_place (operand_counts (v_Operand.Open x0)) ≡ first_place (open_counts x0)
unfolding aexp_counts alt_counts decl_declared exp_counts locals_counts open_counts operand_counts rhs_counts where_counts alt_guard_counts alt_item_counts alts_counts decl_item_declared decls_counts guard_counts next_operand_counts operands_counts part_counts redef_counts redef_item_counts redefs_counts
operand_open x0 = ap first_place (ap operand_counts (sym (v_Operand.rolls-Open x0)) ∙ fold-roll-Operand (List Count) (List Count) Declared (List Count) (List Count) (List Count) (List Count) (List Count) (List Count) (List Count) (List Count) (List Count) Declared (List Count) (List Count) (List Count) (List Count) (List Count) (List Count) (List Count) (List Count) aexp_step alt_step decl_step exp_step locals_step open_step operand_step rhs_step where_step alt_guard_step alt_item_step alts_step decl_item_step decls_step guard_step next_operand_step operands_step part_step redef_step redef_item_step redefs_step (Operand-F.Open x0))

pub rhs_plain : (x0 : Span) (x1 : Span) (x2 : Exp) (x3 : Where) → first_place (rhs_counts (v_Rhs.Plain x0 x1 x2 x3)) ≡ min (first_place (exp_counts x2)) (first_place (where_counts x3))
unfolding aexp_counts alt_counts decl_declared exp_counts locals_counts open_counts operand_counts rhs_counts where_counts alt_guard_counts alt_item_counts alts_counts decl_item_declared decls_counts guard_counts next_operand_counts operands_counts part_counts redef_counts redef_item_counts redefs_counts
rhs_plain x0 x1 x2 x3 = ap first_place (ap rhs_counts (sym (v_Rhs.rolls-Plain x0 x1 x2 x3)) ∙ fold-roll-Rhs (List Count) (List Count) Declared (List Count) (List Count) (List Count) (List Count) (List Count) (List Count) (List Count) (List Count) (List Count) Declared (List Count) (List Count) (List Count) (List Count) (List Count) (List Count) (List Count) (List Count) aexp_step alt_step decl_step exp_step locals_step open_step operand_step rhs_step where_step alt_guard_step alt_item_step alts_step decl_item_step decls_step guard_step next_operand_step operands_step part_step redef_step redef_item_step redefs_step (Rhs-F.Rhs::Plain x0 x1 x2 x3)) ∙ first_append (exp_counts x2) (where_counts x3)

pub rhs_guarded : (x0 : Span) (x1 : Guard) (x2 : List Guard) (x3 : Where) → first_place (rhs_counts (v_Rhs.Guarded x0 x1 x2 x3)) ≡ min (first_place (guard_counts x1)) (min (first_place (all_of (map guard_counts x2))) (first_place (where_counts x3)))
unfolding aexp_counts alt_counts decl_declared exp_counts locals_counts open_counts operand_counts rhs_counts where_counts alt_guard_counts alt_item_counts alts_counts decl_item_declared decls_counts guard_counts next_operand_counts operands_counts part_counts redef_counts redef_item_counts redefs_counts
rhs_guarded x0 x1 x2 x3 = ap first_place (ap rhs_counts (sym (v_Rhs.rolls-Guarded x0 x1 x2 x3)) ∙ fold-roll-Rhs (List Count) (List Count) Declared (List Count) (List Count) (List Count) (List Count) (List Count) (List Count) (List Count) (List Count) (List Count) Declared (List Count) (List Count) (List Count) (List Count) (List Count) (List Count) (List Count) (List Count) aexp_step alt_step decl_step exp_step locals_step open_step operand_step rhs_step where_step alt_guard_step alt_item_step alts_step decl_item_step decls_step guard_step next_operand_step operands_step part_step redef_step redef_item_step redefs_step (Rhs-F.Rhs::Guarded x0 x1 x2 x3)) ∙ first_append (guard_counts x1) (all_of (map guard_counts x2) ++ (where_counts x3)) ∙ ap (min (first_place (guard_counts x1))) (first_append (all_of (map guard_counts x2)) (where_counts x3))

pub where_absent : first_place (where_counts (v_Where.Absent)) ≡ 7
unfolding aexp_counts alt_counts decl_declared exp_counts locals_counts open_counts operand_counts rhs_counts where_counts alt_guard_counts alt_item_counts alts_counts decl_item_declared decls_counts guard_counts next_operand_counts operands_counts part_counts redef_counts redef_item_counts redefs_counts
where_absent = ap first_place (ap where_counts (sym (v_Where.rolls-Absent)) ∙ fold-roll-Where (List Count) (List Count) Declared (List Count) (List Count) (List Count) (List Count) (List Count) (List Count) (List Count) (List Count) (List Count) Declared (List Count) (List Count) (List Count) (List Count) (List Count) (List Count) (List Count) (List Count) aexp_step alt_step decl_step exp_step locals_step open_step operand_step rhs_step where_step alt_guard_step alt_item_step alts_step decl_item_step decls_step guard_step next_operand_step operands_step part_step redef_step redef_item_step redefs_step (Where-F.Absent))

pub where_block : (x0 : Span) (x1 : Decls) → first_place (where_counts (v_Where.Block x0 x1)) ≡ first_place (decls_counts x1)
unfolding aexp_counts alt_counts decl_declared exp_counts locals_counts open_counts operand_counts rhs_counts where_counts alt_guard_counts alt_item_counts alts_counts decl_item_declared decls_counts guard_counts next_operand_counts operands_counts part_counts redef_counts redef_item_counts redefs_counts
where_block x0 x1 = ap first_place (ap where_counts (sym (v_Where.rolls-Block x0 x1)) ∙ fold-roll-Where (List Count) (List Count) Declared (List Count) (List Count) (List Count) (List Count) (List Count) (List Count) (List Count) (List Count) (List Count) Declared (List Count) (List Count) (List Count) (List Count) (List Count) (List Count) (List Count) (List Count) aexp_step alt_step decl_step exp_step locals_step open_step operand_step rhs_step where_step alt_guard_step alt_item_step alts_step decl_item_step decls_step guard_step next_operand_step operands_step part_step redef_step redef_item_step redefs_step (Where-F.Block x0 x1))

pub clause_signature : (x0 : Span) (x1 : Var) (x2 : List NextVar) (x3 : Span) (x4 : TypeExpr) → (decl_declared (v_Decl.Signature x0 x1 x2 x3 x4)).clause ≡ None
unfolding aexp_counts alt_counts decl_declared exp_counts locals_counts open_counts operand_counts rhs_counts where_counts alt_guard_counts alt_item_counts alts_counts decl_item_declared decls_counts guard_counts next_operand_counts operands_counts part_counts redef_counts redef_item_counts redefs_counts
clause_signature x0 x1 x2 x3 x4 = ap (λ (d : Declared). d.clause) (ap decl_declared (sym (v_Decl.rolls-Signature x0 x1 x2 x3 x4)) ∙ fold-roll-Decl (List Count) (List Count) Declared (List Count) (List Count) (List Count) (List Count) (List Count) (List Count) (List Count) (List Count) (List Count) Declared (List Count) (List Count) (List Count) (List Count) (List Count) (List Count) (List Count) (List Count) aexp_step alt_step decl_step exp_step locals_step open_step operand_step rhs_step where_step alt_guard_step alt_item_step alts_step decl_item_step decls_step guard_step next_operand_step operands_step part_step redef_step redef_item_step redefs_step (Decl-F.Signature x0 x1 x2 x3 x4))

pub names_signature : (x0 : Span) (x1 : Var) (x2 : List NextVar) (x3 : Span) (x4 : TypeExpr) → (decl_declared (v_Decl.Signature x0 x1 x2 x3 x4)).names ≡ []
unfolding aexp_counts alt_counts decl_declared exp_counts locals_counts open_counts operand_counts rhs_counts where_counts alt_guard_counts alt_item_counts alts_counts decl_item_declared decls_counts guard_counts next_operand_counts operands_counts part_counts redef_counts redef_item_counts redefs_counts
names_signature x0 x1 x2 x3 x4 = ap (λ (d : Declared). d.names) (ap decl_declared (sym (v_Decl.rolls-Signature x0 x1 x2 x3 x4)) ∙ fold-roll-Decl (List Count) (List Count) Declared (List Count) (List Count) (List Count) (List Count) (List Count) (List Count) (List Count) (List Count) (List Count) Declared (List Count) (List Count) (List Count) (List Count) (List Count) (List Count) (List Count) (List Count) aexp_step alt_step decl_step exp_step locals_step open_step operand_step rhs_step where_step alt_guard_step alt_item_step alts_step decl_item_step decls_step guard_step next_operand_step operands_step part_step redef_step redef_item_step redefs_step (Decl-F.Signature x0 x1 x2 x3 x4))

pub patterns_signature : (x0 : Span) (x1 : Var) (x2 : List NextVar) (x3 : Span) (x4 : TypeExpr) → (decl_declared (v_Decl.Signature x0 x1 x2 x3 x4)).patterns ≡ 0
unfolding aexp_counts alt_counts decl_declared exp_counts locals_counts open_counts operand_counts rhs_counts where_counts alt_guard_counts alt_item_counts alts_counts decl_item_declared decls_counts guard_counts next_operand_counts operands_counts part_counts redef_counts redef_item_counts redefs_counts
patterns_signature x0 x1 x2 x3 x4 = ap (λ (d : Declared). d.patterns) (ap decl_declared (sym (v_Decl.rolls-Signature x0 x1 x2 x3 x4)) ∙ fold-roll-Decl (List Count) (List Count) Declared (List Count) (List Count) (List Count) (List Count) (List Count) (List Count) (List Count) (List Count) (List Count) Declared (List Count) (List Count) (List Count) (List Count) (List Count) (List Count) (List Count) (List Count) aexp_step alt_step decl_step exp_step locals_step open_step operand_step rhs_step where_step alt_guard_step alt_item_step alts_step decl_item_step decls_step guard_step next_operand_step operands_step part_step redef_step redef_item_step redefs_step (Decl-F.Signature x0 x1 x2 x3 x4))

pub inside_signature : (x0 : Span) (x1 : Var) (x2 : List NextVar) (x3 : Span) (x4 : TypeExpr) → first_place (decl_declared (v_Decl.Signature x0 x1 x2 x3 x4)).inside ≡ 7
unfolding aexp_counts alt_counts decl_declared exp_counts locals_counts open_counts operand_counts rhs_counts where_counts alt_guard_counts alt_item_counts alts_counts decl_item_declared decls_counts guard_counts next_operand_counts operands_counts part_counts redef_counts redef_item_counts redefs_counts
inside_signature x0 x1 x2 x3 x4 = ap (λ (d : Declared). first_place d.inside) (ap decl_declared (sym (v_Decl.rolls-Signature x0 x1 x2 x3 x4)) ∙ fold-roll-Decl (List Count) (List Count) Declared (List Count) (List Count) (List Count) (List Count) (List Count) (List Count) (List Count) (List Count) (List Count) Declared (List Count) (List Count) (List Count) (List Count) (List Count) (List Count) (List Count) (List Count) aexp_step alt_step decl_step exp_step locals_step open_step operand_step rhs_step where_step alt_guard_step alt_item_step alts_step decl_item_step decls_step guard_step next_operand_step operands_step part_step redef_step redef_item_step redefs_step (Decl-F.Signature x0 x1 x2 x3 x4))

pub clause_fixity : (x0 : Span) (x1 : FixityWord) (x2 : Option (Span × ℕ)) (x3 : Op) (x4 : List NextOp) → (decl_declared (v_Decl.Fixity x0 x1 x2 x3 x4)).clause ≡ None
unfolding aexp_counts alt_counts decl_declared exp_counts locals_counts open_counts operand_counts rhs_counts where_counts alt_guard_counts alt_item_counts alts_counts decl_item_declared decls_counts guard_counts next_operand_counts operands_counts part_counts redef_counts redef_item_counts redefs_counts
clause_fixity x0 x1 x2 x3 x4 = ap (λ (d : Declared). d.clause) (ap decl_declared (sym (v_Decl.rolls-Fixity x0 x1 x2 x3 x4)) ∙ fold-roll-Decl (List Count) (List Count) Declared (List Count) (List Count) (List Count) (List Count) (List Count) (List Count) (List Count) (List Count) (List Count) Declared (List Count) (List Count) (List Count) (List Count) (List Count) (List Count) (List Count) (List Count) aexp_step alt_step decl_step exp_step locals_step open_step operand_step rhs_step where_step alt_guard_step alt_item_step alts_step decl_item_step decls_step guard_step next_operand_step operands_step part_step redef_step redef_item_step redefs_step (Decl-F.Fixity x0 x1 x2 x3 x4))

pub names_fixity : (x0 : Span) (x1 : FixityWord) (x2 : Option (Span × ℕ)) (x3 : Op) (x4 : List NextOp) → (decl_declared (v_Decl.Fixity x0 x1 x2 x3 x4)).names ≡ []
unfolding aexp_counts alt_counts decl_declared exp_counts locals_counts open_counts operand_counts rhs_counts where_counts alt_guard_counts alt_item_counts alts_counts decl_item_declared decls_counts guard_counts next_operand_counts operands_counts part_counts redef_counts redef_item_counts redefs_counts
names_fixity x0 x1 x2 x3 x4 = ap (λ (d : Declared). d.names) (ap decl_declared (sym (v_Decl.rolls-Fixity x0 x1 x2 x3 x4)) ∙ fold-roll-Decl (List Count) (List Count) Declared (List Count) (List Count) (List Count) (List Count) (List Count) (List Count) (List Count) (List Count) (List Count) Declared (List Count) (List Count) (List Count) (List Count) (List Count) (List Count) (List Count) (List Count) aexp_step alt_step decl_step exp_step locals_step open_step operand_step rhs_step where_step alt_guard_step alt_item_step alts_step decl_item_step decls_step guard_step next_operand_step operands_step part_step redef_step redef_item_step redefs_step (Decl-F.Fixity x0 x1 x2 x3 x4))

pub patterns_fixity : (x0 : Span) (x1 : FixityWord) (x2 : Option (Span × ℕ)) (x3 : Op) (x4 : List NextOp) → (decl_declared (v_Decl.Fixity x0 x1 x2 x3 x4)).patterns ≡ 0
unfolding aexp_counts alt_counts decl_declared exp_counts locals_counts open_counts operand_counts rhs_counts where_counts alt_guard_counts alt_item_counts alts_counts decl_item_declared decls_counts guard_counts next_operand_counts operands_counts part_counts redef_counts redef_item_counts redefs_counts
patterns_fixity x0 x1 x2 x3 x4 = ap (λ (d : Declared). d.patterns) (ap decl_declared (sym (v_Decl.rolls-Fixity x0 x1 x2 x3 x4)) ∙ fold-roll-Decl (List Count) (List Count) Declared (List Count) (List Count) (List Count) (List Count) (List Count) (List Count) (List Count) (List Count) (List Count) Declared (List Count) (List Count) (List Count) (List Count) (List Count) (List Count) (List Count) (List Count) aexp_step alt_step decl_step exp_step locals_step open_step operand_step rhs_step where_step alt_guard_step alt_item_step alts_step decl_item_step decls_step guard_step next_operand_step operands_step part_step redef_step redef_item_step redefs_step (Decl-F.Fixity x0 x1 x2 x3 x4))

pub inside_fixity : (x0 : Span) (x1 : FixityWord) (x2 : Option (Span × ℕ)) (x3 : Op) (x4 : List NextOp) → first_place (decl_declared (v_Decl.Fixity x0 x1 x2 x3 x4)).inside ≡ 7
unfolding aexp_counts alt_counts decl_declared exp_counts locals_counts open_counts operand_counts rhs_counts where_counts alt_guard_counts alt_item_counts alts_counts decl_item_declared decls_counts guard_counts next_operand_counts operands_counts part_counts redef_counts redef_item_counts redefs_counts
inside_fixity x0 x1 x2 x3 x4 = ap (λ (d : Declared). first_place d.inside) (ap decl_declared (sym (v_Decl.rolls-Fixity x0 x1 x2 x3 x4)) ∙ fold-roll-Decl (List Count) (List Count) Declared (List Count) (List Count) (List Count) (List Count) (List Count) (List Count) (List Count) (List Count) (List Count) Declared (List Count) (List Count) (List Count) (List Count) (List Count) (List Count) (List Count) (List Count) aexp_step alt_step decl_step exp_step locals_step open_step operand_step rhs_step where_step alt_guard_step alt_item_step alts_step decl_item_step decls_step guard_step next_operand_step operands_step part_step redef_step redef_item_step redefs_step (Decl-F.Fixity x0 x1 x2 x3 x4))

pub clause_function : (x0 : Span) (x1 : FunLhs) (x2 : Rhs) → (decl_declared (v_Decl.Function x0 x1 x2)).clause ≡ Some (clause_by (head_of x1))
unfolding aexp_counts alt_counts decl_declared exp_counts locals_counts open_counts operand_counts rhs_counts where_counts alt_guard_counts alt_item_counts alts_counts decl_item_declared decls_counts guard_counts next_operand_counts operands_counts part_counts redef_counts redef_item_counts redefs_counts
clause_function x0 x1 x2 = ap (λ (d : Declared). d.clause) (ap decl_declared (sym (v_Decl.rolls-Function x0 x1 x2)) ∙ fold-roll-Decl (List Count) (List Count) Declared (List Count) (List Count) (List Count) (List Count) (List Count) (List Count) (List Count) (List Count) (List Count) Declared (List Count) (List Count) (List Count) (List Count) (List Count) (List Count) (List Count) (List Count) aexp_step alt_step decl_step exp_step locals_step open_step operand_step rhs_step where_step alt_guard_step alt_item_step alts_step decl_item_step decls_step guard_step next_operand_step operands_step part_step redef_step redef_item_step redefs_step (Decl-F.Function x0 x1 x2))

pub names_function : (x0 : Span) (x1 : FunLhs) (x2 : Rhs) → (decl_declared (v_Decl.Function x0 x1 x2)).names ≡ (head_of x1).name ∷ []
unfolding aexp_counts alt_counts decl_declared exp_counts locals_counts open_counts operand_counts rhs_counts where_counts alt_guard_counts alt_item_counts alts_counts decl_item_declared decls_counts guard_counts next_operand_counts operands_counts part_counts redef_counts redef_item_counts redefs_counts
names_function x0 x1 x2 = ap (λ (d : Declared). d.names) (ap decl_declared (sym (v_Decl.rolls-Function x0 x1 x2)) ∙ fold-roll-Decl (List Count) (List Count) Declared (List Count) (List Count) (List Count) (List Count) (List Count) (List Count) (List Count) (List Count) (List Count) Declared (List Count) (List Count) (List Count) (List Count) (List Count) (List Count) (List Count) (List Count) aexp_step alt_step decl_step exp_step locals_step open_step operand_step rhs_step where_step alt_guard_step alt_item_step alts_step decl_item_step decls_step guard_step next_operand_step operands_step part_step redef_step redef_item_step redefs_step (Decl-F.Function x0 x1 x2))

pub patterns_function : (x0 : Span) (x1 : FunLhs) (x2 : Rhs) → (decl_declared (v_Decl.Function x0 x1 x2)).patterns ≡ 0
unfolding aexp_counts alt_counts decl_declared exp_counts locals_counts open_counts operand_counts rhs_counts where_counts alt_guard_counts alt_item_counts alts_counts decl_item_declared decls_counts guard_counts next_operand_counts operands_counts part_counts redef_counts redef_item_counts redefs_counts
patterns_function x0 x1 x2 = ap (λ (d : Declared). d.patterns) (ap decl_declared (sym (v_Decl.rolls-Function x0 x1 x2)) ∙ fold-roll-Decl (List Count) (List Count) Declared (List Count) (List Count) (List Count) (List Count) (List Count) (List Count) (List Count) (List Count) (List Count) Declared (List Count) (List Count) (List Count) (List Count) (List Count) (List Count) (List Count) (List Count) aexp_step alt_step decl_step exp_step locals_step open_step operand_step rhs_step where_step alt_guard_step alt_item_step alts_step decl_item_step decls_step guard_step next_operand_step operands_step part_step redef_step redef_item_step redefs_step (Decl-F.Function x0 x1 x2))

pub inside_function : (x0 : Span) (x1 : FunLhs) (x2 : Rhs) → first_place (decl_declared (v_Decl.Function x0 x1 x2)).inside ≡ min (place Arguments (head_of x1).arguments) (first_place (rhs_counts x2))
unfolding aexp_counts alt_counts decl_declared exp_counts locals_counts open_counts operand_counts rhs_counts where_counts alt_guard_counts alt_item_counts alts_counts decl_item_declared decls_counts guard_counts next_operand_counts operands_counts part_counts redef_counts redef_item_counts redefs_counts
inside_function x0 x1 x2 = ap (λ (d : Declared). first_place d.inside) (ap decl_declared (sym (v_Decl.rolls-Function x0 x1 x2)) ∙ fold-roll-Decl (List Count) (List Count) Declared (List Count) (List Count) (List Count) (List Count) (List Count) (List Count) (List Count) (List Count) (List Count) Declared (List Count) (List Count) (List Count) (List Count) (List Count) (List Count) (List Count) (List Count) aexp_step alt_step decl_step exp_step locals_step open_step operand_step rhs_step where_step alt_guard_step alt_item_step alts_step decl_item_step decls_step guard_step next_operand_step operands_step part_step redef_step redef_item_step redefs_step (Decl-F.Function x0 x1 x2))

pub clause_pattern : (x0 : Span) (x1 : Pattern) (x2 : Rhs) → (decl_declared (v_Decl.Pattern x0 x1 x2)).clause ≡ None
unfolding aexp_counts alt_counts decl_declared exp_counts locals_counts open_counts operand_counts rhs_counts where_counts alt_guard_counts alt_item_counts alts_counts decl_item_declared decls_counts guard_counts next_operand_counts operands_counts part_counts redef_counts redef_item_counts redefs_counts
clause_pattern x0 x1 x2 = ap (λ (d : Declared). d.clause) (ap decl_declared (sym (v_Decl.rolls-Pattern x0 x1 x2)) ∙ fold-roll-Decl (List Count) (List Count) Declared (List Count) (List Count) (List Count) (List Count) (List Count) (List Count) (List Count) (List Count) (List Count) Declared (List Count) (List Count) (List Count) (List Count) (List Count) (List Count) (List Count) (List Count) aexp_step alt_step decl_step exp_step locals_step open_step operand_step rhs_step where_step alt_guard_step alt_item_step alts_step decl_item_step decls_step guard_step next_operand_step operands_step part_step redef_step redef_item_step redefs_step (Decl-F.Pattern x0 x1 x2))

pub names_pattern : (x0 : Span) (x1 : Pattern) (x2 : Rhs) → (decl_declared (v_Decl.Pattern x0 x1 x2)).names ≡ pattern_names x1
unfolding aexp_counts alt_counts decl_declared exp_counts locals_counts open_counts operand_counts rhs_counts where_counts alt_guard_counts alt_item_counts alts_counts decl_item_declared decls_counts guard_counts next_operand_counts operands_counts part_counts redef_counts redef_item_counts redefs_counts
names_pattern x0 x1 x2 = ap (λ (d : Declared). d.names) (ap decl_declared (sym (v_Decl.rolls-Pattern x0 x1 x2)) ∙ fold-roll-Decl (List Count) (List Count) Declared (List Count) (List Count) (List Count) (List Count) (List Count) (List Count) (List Count) (List Count) (List Count) Declared (List Count) (List Count) (List Count) (List Count) (List Count) (List Count) (List Count) (List Count) aexp_step alt_step decl_step exp_step locals_step open_step operand_step rhs_step where_step alt_guard_step alt_item_step alts_step decl_item_step decls_step guard_step next_operand_step operands_step part_step redef_step redef_item_step redefs_step (Decl-F.Pattern x0 x1 x2))

pub patterns_pattern : (x0 : Span) (x1 : Pattern) (x2 : Rhs) → (decl_declared (v_Decl.Pattern x0 x1 x2)).patterns ≡ 1
unfolding aexp_counts alt_counts decl_declared exp_counts locals_counts open_counts operand_counts rhs_counts where_counts alt_guard_counts alt_item_counts alts_counts decl_item_declared decls_counts guard_counts next_operand_counts operands_counts part_counts redef_counts redef_item_counts redefs_counts
patterns_pattern x0 x1 x2 = ap (λ (d : Declared). d.patterns) (ap decl_declared (sym (v_Decl.rolls-Pattern x0 x1 x2)) ∙ fold-roll-Decl (List Count) (List Count) Declared (List Count) (List Count) (List Count) (List Count) (List Count) (List Count) (List Count) (List Count) (List Count) Declared (List Count) (List Count) (List Count) (List Count) (List Count) (List Count) (List Count) (List Count) aexp_step alt_step decl_step exp_step locals_step open_step operand_step rhs_step where_step alt_guard_step alt_item_step alts_step decl_item_step decls_step guard_step next_operand_step operands_step part_step redef_step redef_item_step redefs_step (Decl-F.Pattern x0 x1 x2))

pub inside_pattern : (x0 : Span) (x1 : Pattern) (x2 : Rhs) → first_place (decl_declared (v_Decl.Pattern x0 x1 x2)).inside ≡ first_place (rhs_counts x2)
unfolding aexp_counts alt_counts decl_declared exp_counts locals_counts open_counts operand_counts rhs_counts where_counts alt_guard_counts alt_item_counts alts_counts decl_item_declared decls_counts guard_counts next_operand_counts operands_counts part_counts redef_counts redef_item_counts redefs_counts
inside_pattern x0 x1 x2 = ap (λ (d : Declared). first_place d.inside) (ap decl_declared (sym (v_Decl.rolls-Pattern x0 x1 x2)) ∙ fold-roll-Decl (List Count) (List Count) Declared (List Count) (List Count) (List Count) (List Count) (List Count) (List Count) (List Count) (List Count) (List Count) Declared (List Count) (List Count) (List Count) (List Count) (List Count) (List Count) (List Count) (List Count) aexp_step alt_step decl_step exp_step locals_step open_step operand_step rhs_step where_step alt_guard_step alt_item_step alts_step decl_item_step decls_step guard_step next_operand_step operands_step part_step redef_step redef_item_step redefs_step (Decl-F.Pattern x0 x1 x2))

pub alt_guard_at : (x : AltGuard) → first_place (alt_guard_counts x) ≡ min (first_place (operands_counts (out-AltGuard x).test)) (first_place (exp_counts (out-AltGuard x).body))
unfolding aexp_counts alt_counts decl_declared exp_counts locals_counts open_counts operand_counts rhs_counts where_counts alt_guard_counts alt_item_counts alts_counts decl_item_declared decls_counts guard_counts next_operand_counts operands_counts part_counts redef_counts redef_item_counts redefs_counts
alt_guard_at x = ap first_place (fold_out-AltGuard (List Count) (List Count) Declared (List Count) (List Count) (List Count) (List Count) (List Count) (List Count) (List Count) (List Count) (List Count) Declared (List Count) (List Count) (List Count) (List Count) (List Count) (List Count) (List Count) (List Count) aexp_step alt_step decl_step exp_step locals_step open_step operand_step rhs_step where_step alt_guard_step alt_item_step alts_step decl_item_step decls_step guard_step next_operand_step operands_step part_step redef_step redef_item_step redefs_step x) ∙ first_append (operands_counts (out-AltGuard x).test) (exp_counts (out-AltGuard x).body)

pub alt_item_at : (x : AltItem) → first_place (alt_item_counts x) ≡ first_place (alt_counts (out-AltItem x).alt)
unfolding aexp_counts alt_counts decl_declared exp_counts locals_counts open_counts operand_counts rhs_counts where_counts alt_guard_counts alt_item_counts alts_counts decl_item_declared decls_counts guard_counts next_operand_counts operands_counts part_counts redef_counts redef_item_counts redefs_counts
alt_item_at x = ap first_place (fold_out-AltItem (List Count) (List Count) Declared (List Count) (List Count) (List Count) (List Count) (List Count) (List Count) (List Count) (List Count) (List Count) Declared (List Count) (List Count) (List Count) (List Count) (List Count) (List Count) (List Count) (List Count) aexp_step alt_step decl_step exp_step locals_step open_step operand_step rhs_step where_step alt_guard_step alt_item_step alts_step decl_item_step decls_step guard_step next_operand_step operands_step part_step redef_step redef_item_step redefs_step x)

pub alts_at : (x : Alts) → first_place (alts_counts x) ≡ first_place (all_of (map alt_item_counts (out-Alts x).alts))
unfolding aexp_counts alt_counts decl_declared exp_counts locals_counts open_counts operand_counts rhs_counts where_counts alt_guard_counts alt_item_counts alts_counts decl_item_declared decls_counts guard_counts next_operand_counts operands_counts part_counts redef_counts redef_item_counts redefs_counts
alts_at x = ap first_place (fold_out-Alts (List Count) (List Count) Declared (List Count) (List Count) (List Count) (List Count) (List Count) (List Count) (List Count) (List Count) (List Count) Declared (List Count) (List Count) (List Count) (List Count) (List Count) (List Count) (List Count) (List Count) aexp_step alt_step decl_step exp_step locals_step open_step operand_step rhs_step where_step alt_guard_step alt_item_step alts_step decl_item_step decls_step guard_step next_operand_step operands_step part_step redef_step redef_item_step redefs_step x)

pub guard_at : (x : Guard) → first_place (guard_counts x) ≡ min (first_place (operands_counts (out-Guard x).test)) (first_place (exp_counts (out-Guard x).body))
unfolding aexp_counts alt_counts decl_declared exp_counts locals_counts open_counts operand_counts rhs_counts where_counts alt_guard_counts alt_item_counts alts_counts decl_item_declared decls_counts guard_counts next_operand_counts operands_counts part_counts redef_counts redef_item_counts redefs_counts
guard_at x = ap first_place (fold_out-Guard (List Count) (List Count) Declared (List Count) (List Count) (List Count) (List Count) (List Count) (List Count) (List Count) (List Count) (List Count) Declared (List Count) (List Count) (List Count) (List Count) (List Count) (List Count) (List Count) (List Count) aexp_step alt_step decl_step exp_step locals_step open_step operand_step rhs_step where_step alt_guard_step alt_item_step alts_step decl_item_step decls_step guard_step next_operand_step operands_step part_step redef_step redef_item_step redefs_step x) ∙ first_append (operands_counts (out-Guard x).test) (exp_counts (out-Guard x).body)

pub next_operand_at : (x : NextOperand) → first_place (next_operand_counts x) ≡ first_place (operand_counts (out-NextOperand x).operand)
unfolding aexp_counts alt_counts decl_declared exp_counts locals_counts open_counts operand_counts rhs_counts where_counts alt_guard_counts alt_item_counts alts_counts decl_item_declared decls_counts guard_counts next_operand_counts operands_counts part_counts redef_counts redef_item_counts redefs_counts
next_operand_at x = ap first_place (fold_out-NextOperand (List Count) (List Count) Declared (List Count) (List Count) (List Count) (List Count) (List Count) (List Count) (List Count) (List Count) (List Count) Declared (List Count) (List Count) (List Count) (List Count) (List Count) (List Count) (List Count) (List Count) aexp_step alt_step decl_step exp_step locals_step open_step operand_step rhs_step where_step alt_guard_step alt_item_step alts_step decl_item_step decls_step guard_step next_operand_step operands_step part_step redef_step redef_item_step redefs_step x)

pub operands_at : (x : OperandList) → first_place (operands_counts x) ≡ min (first_place (operand_counts (out-OperandList x).first)) (first_place (all_of (map next_operand_counts (out-OperandList x).others)))
unfolding aexp_counts alt_counts decl_declared exp_counts locals_counts open_counts operand_counts rhs_counts where_counts alt_guard_counts alt_item_counts alts_counts decl_item_declared decls_counts guard_counts next_operand_counts operands_counts part_counts redef_counts redef_item_counts redefs_counts
operands_at x = ap first_place (fold_out-OperandList (List Count) (List Count) Declared (List Count) (List Count) (List Count) (List Count) (List Count) (List Count) (List Count) (List Count) (List Count) Declared (List Count) (List Count) (List Count) (List Count) (List Count) (List Count) (List Count) (List Count) aexp_step alt_step decl_step exp_step locals_step open_step operand_step rhs_step where_step alt_guard_step alt_item_step alts_step decl_item_step decls_step guard_step next_operand_step operands_step part_step redef_step redef_item_step redefs_step x) ∙ first_append (operand_counts (out-OperandList x).first) (all_of (map next_operand_counts (out-OperandList x).others))

pub part_at : (x : Part) → first_place (part_counts x) ≡ first_place (exp_counts (out-Part x).exp)
unfolding aexp_counts alt_counts decl_declared exp_counts locals_counts open_counts operand_counts rhs_counts where_counts alt_guard_counts alt_item_counts alts_counts decl_item_declared decls_counts guard_counts next_operand_counts operands_counts part_counts redef_counts redef_item_counts redefs_counts
part_at x = ap first_place (fold_out-Part (List Count) (List Count) Declared (List Count) (List Count) (List Count) (List Count) (List Count) (List Count) (List Count) (List Count) (List Count) Declared (List Count) (List Count) (List Count) (List Count) (List Count) (List Count) (List Count) (List Count) aexp_step alt_step decl_step exp_step locals_step open_step operand_step rhs_step where_step alt_guard_step alt_item_step alts_step decl_item_step decls_step guard_step next_operand_step operands_step part_step redef_step redef_item_step redefs_step x)

pub redef_at : (x : Redef) → first_place (redef_counts x) ≡ first_place (exp_counts (out-Redef x).body)
unfolding aexp_counts alt_counts decl_declared exp_counts locals_counts open_counts operand_counts rhs_counts where_counts alt_guard_counts alt_item_counts alts_counts decl_item_declared decls_counts guard_counts next_operand_counts operands_counts part_counts redef_counts redef_item_counts redefs_counts
redef_at x = ap first_place (fold_out-Redef (List Count) (List Count) Declared (List Count) (List Count) (List Count) (List Count) (List Count) (List Count) (List Count) (List Count) (List Count) Declared (List Count) (List Count) (List Count) (List Count) (List Count) (List Count) (List Count) (List Count) aexp_step alt_step decl_step exp_step locals_step open_step operand_step rhs_step where_step alt_guard_step alt_item_step alts_step decl_item_step decls_step guard_step next_operand_step operands_step part_step redef_step redef_item_step redefs_step x)

pub redef_item_at : (x : RedefItem) → first_place (redef_item_counts x) ≡ first_place (redef_counts (out-RedefItem x).redef)
unfolding aexp_counts alt_counts decl_declared exp_counts locals_counts open_counts operand_counts rhs_counts where_counts alt_guard_counts alt_item_counts alts_counts decl_item_declared decls_counts guard_counts next_operand_counts operands_counts part_counts redef_counts redef_item_counts redefs_counts
redef_item_at x = ap first_place (fold_out-RedefItem (List Count) (List Count) Declared (List Count) (List Count) (List Count) (List Count) (List Count) (List Count) (List Count) (List Count) (List Count) Declared (List Count) (List Count) (List Count) (List Count) (List Count) (List Count) (List Count) (List Count) aexp_step alt_step decl_step exp_step locals_step open_step operand_step rhs_step where_step alt_guard_step alt_item_step alts_step decl_item_step decls_step guard_step next_operand_step operands_step part_step redef_step redef_item_step redefs_step x)

pub redefs_at : (x : Redefs) → first_place (redefs_counts x) ≡ first_place (all_of (map redef_item_counts (out-Redefs x).redefs))
unfolding aexp_counts alt_counts decl_declared exp_counts locals_counts open_counts operand_counts rhs_counts where_counts alt_guard_counts alt_item_counts alts_counts decl_item_declared decls_counts guard_counts next_operand_counts operands_counts part_counts redef_counts redef_item_counts redefs_counts
redefs_at x = ap first_place (fold_out-Redefs (List Count) (List Count) Declared (List Count) (List Count) (List Count) (List Count) (List Count) (List Count) (List Count) (List Count) (List Count) Declared (List Count) (List Count) (List Count) (List Count) (List Count) (List Count) (List Count) (List Count) aexp_step alt_step decl_step exp_step locals_step open_step operand_step rhs_step where_step alt_guard_step alt_item_step alts_step decl_item_step decls_step guard_step next_operand_step operands_step part_step redef_step redef_item_step redefs_step x)

pub decl_item_at : (x : DeclItem) → decl_item_declared x ≡ decl_declared (out-DeclItem x).decl
unfolding aexp_counts alt_counts decl_declared exp_counts locals_counts open_counts operand_counts rhs_counts where_counts alt_guard_counts alt_item_counts alts_counts decl_item_declared decls_counts guard_counts next_operand_counts operands_counts part_counts redef_counts redef_item_counts redefs_counts
decl_item_at x = fold_out-DeclItem (List Count) (List Count) Declared (List Count) (List Count) (List Count) (List Count) (List Count) (List Count) (List Count) (List Count) (List Count) Declared (List Count) (List Count) (List Count) (List Count) (List Count) (List Count) (List Count) (List Count) aexp_step alt_step decl_step exp_step locals_step open_step operand_step rhs_step where_step alt_guard_step alt_item_step alts_step decl_item_step decls_step guard_step next_operand_step operands_step part_step redef_step redef_item_step redefs_step x

pub decls_at : (x : Decls) → first_place (decls_counts x) ≡ min (place Bindings (bound (map decl_item_declared (out-Decls x).decls))) (min (first_place (clause_counts None 0 (map clause_at (out-Decls x).decls))) (first_place (all_of (map inside_at (out-Decls x).decls))))
unfolding aexp_counts alt_counts decl_declared exp_counts locals_counts open_counts operand_counts rhs_counts where_counts alt_guard_counts alt_item_counts alts_counts decl_item_declared decls_counts guard_counts next_operand_counts operands_counts part_counts redef_counts redef_item_counts redefs_counts
decls_at x = ap first_place (fold_out-Decls (List Count) (List Count) Declared (List Count) (List Count) (List Count) (List Count) (List Count) (List Count) (List Count) (List Count) (List Count) Declared (List Count) (List Count) (List Count) (List Count) (List Count) (List Count) (List Count) (List Count) aexp_step alt_step decl_step exp_step locals_step open_step operand_step rhs_step where_step alt_guard_step alt_item_step alts_step decl_item_step decls_step guard_step next_operand_step operands_step part_step redef_step redef_item_step redefs_step x)
    ∙ ap (min (place Bindings (bound (map decl_item_declared (out-Decls x).decls)))) (first_append (clause_counts None 0 (map (λ (d : Declared). d.clause) (map decl_item_declared (out-Decls x).decls))) (insides (map decl_item_declared (out-Decls x).decls))
    ∙ (λ j. min (first_place (clause_counts None 0 (map_twice (λ (d : Declared). d.clause) decl_item_declared (out-Decls x).decls j))) (first_place (all_of (map_twice (λ (d : Declared). d.inside) decl_item_declared (out-Decls x).decls j)))))
