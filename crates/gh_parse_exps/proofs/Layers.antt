-- What each node of an expression or declaration is printed as, by its parts.
use Rattle.std.proofs.Common.{◌≡◌, true, false, not, ◌&&◌, [], ◌∷◌, ◌++◌, map, sym, ap, ◌∙◌}
use Rattle.gh_tree.specs.declared.symbol.Kind.TheVariants as k
use Rattle.gh_tree.specs.Syms.{at}
use Rattle.gh_tree.specs.declared.expressions.Aexp.{Aexp, roll-Aexp, out-Aexp, roll-out-Aexp}
use Rattle.gh_tree.specs.declared.expressions.Aexp.TheVariants as v_Aexp
use Rattle.gh_tree.specs.declared.expressions.Alt.{Alt, roll-Alt, out-Alt, roll-out-Alt}
use Rattle.gh_tree.specs.declared.expressions.Alt.TheVariants as v_Alt
use Rattle.gh_tree.specs.declared.expressions.Decl.{Decl, roll-Decl, out-Decl, roll-out-Decl}
use Rattle.gh_tree.specs.declared.expressions.Decl.TheVariants as v_Decl
use Rattle.gh_tree.specs.declared.expressions.Exp.{Exp, roll-Exp, out-Exp, roll-out-Exp}
use Rattle.gh_tree.specs.declared.expressions.Exp.TheVariants as v_Exp
use Rattle.gh_tree.specs.declared.expressions.Locals.{Locals, roll-Locals, out-Locals, roll-out-Locals}
use Rattle.gh_tree.specs.declared.expressions.Locals.TheVariants as v_Locals
use Rattle.gh_tree.specs.declared.expressions.Open.{Open, roll-Open, out-Open, roll-out-Open}
use Rattle.gh_tree.specs.declared.expressions.Open.TheVariants as v_Open
use Rattle.gh_tree.specs.declared.expressions.Operand.{Operand, roll-Operand, out-Operand, roll-out-Operand}
use Rattle.gh_tree.specs.declared.expressions.Operand.TheVariants as v_Operand
use Rattle.gh_tree.specs.declared.expressions.Rhs.{Rhs, roll-Rhs, out-Rhs, roll-out-Rhs}
use Rattle.gh_tree.specs.declared.expressions.Rhs.TheVariants as v_Rhs
use Rattle.gh_tree.specs.declared.expressions.Where.{Where, roll-Where, out-Where, roll-out-Where}
use Rattle.gh_tree.specs.declared.expressions.Where.TheVariants as v_Where
use Rattle.gh_tree.specs.declared.expressions.AltGuard.{AltGuard, out-AltGuard, roll-out-AltGuard}
use Rattle.gh_tree.specs.declared.expressions.AltItem.{AltItem, out-AltItem, roll-out-AltItem}
use Rattle.gh_tree.specs.declared.expressions.Alts.{Alts, out-Alts, roll-out-Alts}
use Rattle.gh_tree.specs.declared.expressions.DeclItem.{DeclItem, out-DeclItem, roll-out-DeclItem}
use Rattle.gh_tree.specs.declared.expressions.Decls.{Decls, out-Decls, roll-out-Decls}
use Rattle.gh_tree.specs.declared.expressions.Guard.{Guard, out-Guard, roll-out-Guard}
use Rattle.gh_tree.specs.declared.expressions.NextOperand.{NextOperand, out-NextOperand, roll-out-NextOperand}
use Rattle.gh_tree.specs.declared.expressions.OperandList.{OperandList, out-OperandList, roll-out-OperandList}
use Rattle.gh_tree.specs.declared.expressions.Part.{Part, out-Part, roll-out-Part}
use Rattle.gh_tree.specs.declared.expressions.Redef.{Redef, out-Redef, roll-out-Redef}
use Rattle.gh_tree.specs.declared.expressions.RedefItem.{RedefItem, out-RedefItem, roll-out-RedefItem}
use Rattle.gh_tree.specs.declared.expressions.Redefs.{Redefs, out-Redefs, roll-out-Redefs}
use Rattle.gh_tree.specs.declared.expressions.Aexp.TheOpen.{Aexp-F, Alt-F, Decl-F, Exp-F, Locals-F, Open-F, Operand-F, Rhs-F, Where-F}
use Rattle.gh_tree.specs.Print.{Print, print, spanned, flat_all, good_all, is_tuple, is_some, plain_var, op_flat, plain_op, minus_flat, level_flat, is_level, block, block_part, block_some, opened, operands_of}
use Rattle.gh_tree.specs.Print as printed
use Rattle.gh_tree.proofs.Printed.{printed_aexp_var, printed_aexp_generic, printed_aexp_con, printed_aexp_int, printed_aexp_char, printed_aexp_str, printed_aexp_paren, printed_aexp_tuple, printed_aexp_list, printed_aexp_left, printed_aexp_right, printed_alt_plain, printed_alt_guarded, printed_decl_signature, printed_decl_fixity, printed_decl_function, printed_decl_pattern, printed_exp_plain, printed_exp_typed, printed_locals_decls, printed_locals_redefs, printed_open_lambda, printed_open_let, printed_open_if, printed_operand_apply, printed_operand_case, printed_operand_open, printed_rhs_plain, printed_rhs_guarded, printed_where_absent, printed_where_block, printed_alt_guard, printed_alt_item, printed_alts, printed_decl_item, printed_decls, printed_guard, printed_next_operand, printed_operands, printed_part, printed_redef, printed_redef_item, printed_redefs}

abbrev pub AexpLayer : Type 0
AexpLayer = Aexp-F Aexp Alt Decl Exp Locals Open Operand Rhs Where AltGuard AltItem Alts DeclItem Decls Guard NextOperand OperandList Part Redef RedefItem Redefs

unfoldable pub aexp_layer : AexpLayer → Print
aexp_layer (Aexp-F.Var x0) = print (printed.var x0) true
aexp_layer (Aexp-F.Generic x0 x1 x2 x3 x4) = spanned x0 (printed.var x1 ++ (at k.OpenBanana x2 ∷ ((printed.type_expr x3).flat ++ at k.CloseBanana x4 ∷ []))) (printed.type_expr x3).good
aexp_layer (Aexp-F.Con x0) = printed.gen_con x0
aexp_layer (Aexp-F.Int x0 x1) = print (at (k.Int x1) x0 ∷ []) true
aexp_layer (Aexp-F.Char x0 x1) = print (at (k.Char x1) x0 ∷ []) true
aexp_layer (Aexp-F.Str x0 x1) = print (at (k.Str x1) x0 ∷ []) true
aexp_layer (Aexp-F.Paren x0 x1 x2 x3) = spanned x0 (at k.Open x1 ∷ ((printed.exp x2).flat ++ at k.Close x3 ∷ [])) (printed.exp x2).good
aexp_layer (Aexp-F.Tuple x0 x1 x2 x3 x4) = spanned x0 (at k.Open x1 ∷ ((printed.exp x2).flat ++ (flat_all (map printed.part x3) ++ at k.Close x4 ∷ []))) ((printed.exp x2).good && (good_all (map printed.part x3) && is_tuple (map printed.part x3)))
aexp_layer (Aexp-F.List x0 x1 x2 x3 x4) = spanned x0 (at k.OpenList x1 ∷ ((printed.exp x2).flat ++ (flat_all (map printed.part x3) ++ at k.CloseList x4 ∷ []))) ((printed.exp x2).good && good_all (map printed.part x3))
aexp_layer (Aexp-F.Left x0 x1 x2 x3 x4) = spanned x0 (at k.Open x1 ∷ ((printed.operands x2).flat ++ (op_flat x3 ++ at k.Close x4 ∷ []))) ((printed.operands x2).good && not (printed.operands x2).is_open)
aexp_layer (Aexp-F.Right x0 x1 x2 x3 x4) = spanned x0 (at k.Open x1 ∷ (op_flat x2 ++ ((printed.operands x3).flat ++ at k.Close x4 ∷ []))) ((printed.operands x3).good && not (printed.is_minus x2))

aexp_rolled : (y : AexpLayer) → printed.aexp (roll-Aexp y) ≡ aexp_layer y
unfolding aexp_layer
aexp_rolled (Aexp-F.Var x0) = ap printed.aexp (v_Aexp.rolls-Var x0) ∙ printed_aexp_var x0
aexp_rolled (Aexp-F.Generic x0 x1 x2 x3 x4) = ap printed.aexp (v_Aexp.rolls-Generic x0 x1 x2 x3 x4) ∙ printed_aexp_generic x0 x1 x2 x3 x4
aexp_rolled (Aexp-F.Con x0) = ap printed.aexp (v_Aexp.rolls-Con x0) ∙ printed_aexp_con x0
aexp_rolled (Aexp-F.Int x0 x1) = ap printed.aexp (v_Aexp.rolls-Int x0 x1) ∙ printed_aexp_int x0 x1
aexp_rolled (Aexp-F.Char x0 x1) = ap printed.aexp (v_Aexp.rolls-Char x0 x1) ∙ printed_aexp_char x0 x1
aexp_rolled (Aexp-F.Str x0 x1) = ap printed.aexp (v_Aexp.rolls-Str x0 x1) ∙ printed_aexp_str x0 x1
aexp_rolled (Aexp-F.Paren x0 x1 x2 x3) = ap printed.aexp (v_Aexp.rolls-Paren x0 x1 x2 x3) ∙ printed_aexp_paren x0 x1 x2 x3
aexp_rolled (Aexp-F.Tuple x0 x1 x2 x3 x4) = ap printed.aexp (v_Aexp.rolls-Tuple x0 x1 x2 x3 x4) ∙ printed_aexp_tuple x0 x1 x2 x3 x4
aexp_rolled (Aexp-F.List x0 x1 x2 x3 x4) = ap printed.aexp (v_Aexp.rolls-List x0 x1 x2 x3 x4) ∙ printed_aexp_list x0 x1 x2 x3 x4
aexp_rolled (Aexp-F.Left x0 x1 x2 x3 x4) = ap printed.aexp (v_Aexp.rolls-Left x0 x1 x2 x3 x4) ∙ printed_aexp_left x0 x1 x2 x3 x4
aexp_rolled (Aexp-F.Right x0 x1 x2 x3 x4) = ap printed.aexp (v_Aexp.rolls-Right x0 x1 x2 x3 x4) ∙ printed_aexp_right x0 x1 x2 x3 x4

pub aexp_at : (x : Aexp) → printed.aexp x ≡ aexp_layer (out-Aexp x)
aexp_at x = ap printed.aexp (sym (roll-out-Aexp x)) ∙ aexp_rolled (out-Aexp x)

abbrev pub AltLayer : Type 0
AltLayer = Alt-F Aexp Alt Decl Exp Locals Open Operand Rhs Where AltGuard AltItem Alts DeclItem Decls Guard NextOperand OperandList Part Redef RedefItem Redefs

unfoldable pub alt_layer : AltLayer → Print
alt_layer (Alt-F.Alt::Plain x0 x1 x2 x3 x4) = spanned x0 ((printed.pattern x1).flat ++ (at k.Arrow x2 ∷ ((printed.exp x3).flat ++ (printed.where_part x4).flat))) ((printed.pattern x1).good && ((printed.exp x3).good && (printed.where_part x4).good))
alt_layer (Alt-F.Alt::Guarded x0 x1 x2 x3 x4) = spanned x0 ((printed.pattern x1).flat ++ ((printed.alt_guard x2).flat ++ (flat_all (map printed.alt_guard x3) ++ (printed.where_part x4).flat))) ((printed.pattern x1).good && ((printed.alt_guard x2).good && (good_all (map printed.alt_guard x3) && (printed.where_part x4).good)))

alt_rolled : (y : AltLayer) → printed.alt (roll-Alt y) ≡ alt_layer y
unfolding alt_layer
alt_rolled (Alt-F.Alt::Plain x0 x1 x2 x3 x4) = ap printed.alt (v_Alt.rolls-Plain x0 x1 x2 x3 x4) ∙ printed_alt_plain x0 x1 x2 x3 x4
alt_rolled (Alt-F.Alt::Guarded x0 x1 x2 x3 x4) = ap printed.alt (v_Alt.rolls-Guarded x0 x1 x2 x3 x4) ∙ printed_alt_guarded x0 x1 x2 x3 x4

pub alt_at : (x : Alt) → printed.alt x ≡ alt_layer (out-Alt x)
alt_at x = ap printed.alt (sym (roll-out-Alt x)) ∙ alt_rolled (out-Alt x)

abbrev pub DeclLayer : Type 0
DeclLayer = Decl-F Aexp Alt Decl Exp Locals Open Operand Rhs Where AltGuard AltItem Alts DeclItem Decls Guard NextOperand OperandList Part Redef RedefItem Redefs

unfoldable pub decl_layer : DeclLayer → Print
decl_layer (Decl-F.Signature x0 x1 x2 x3 x4) = spanned x0 (printed.var x1 ++ (flat_all (map printed.next_var x2) ++ (at k.Colons x3 ∷ (printed.type_expr x4).flat))) (plain_var x1 && (good_all (map printed.next_var x2) && (printed.type_expr x4).good))
decl_layer (Decl-F.Fixity x0 x1 x2 x3 x4) = spanned x0 (printed.fixity_word x1 ∷ (level_flat x2 ++ (op_flat x3 ++ flat_all (map printed.next_op x4)))) (is_level x2 && (plain_op x3 && good_all (map printed.next_op x4)))
decl_layer (Decl-F.Function x0 x1 x2) = spanned x0 ((printed.fun_lhs x1).flat ++ (printed.rhs x2).flat) ((printed.fun_lhs x1).good && (printed.rhs x2).good)
decl_layer (Decl-F.Pattern x0 x1 x2) = spanned x0 ((printed.pattern x1).flat ++ (printed.rhs x2).flat) ((printed.pattern x1).good && ((printed.rhs x2).good && not (printed.pattern x1).is_var))

decl_rolled : (y : DeclLayer) → printed.decl (roll-Decl y) ≡ decl_layer y
unfolding decl_layer
decl_rolled (Decl-F.Signature x0 x1 x2 x3 x4) = ap printed.decl (v_Decl.rolls-Signature x0 x1 x2 x3 x4) ∙ printed_decl_signature x0 x1 x2 x3 x4
decl_rolled (Decl-F.Fixity x0 x1 x2 x3 x4) = ap printed.decl (v_Decl.rolls-Fixity x0 x1 x2 x3 x4) ∙ printed_decl_fixity x0 x1 x2 x3 x4
decl_rolled (Decl-F.Function x0 x1 x2) = ap printed.decl (v_Decl.rolls-Function x0 x1 x2) ∙ printed_decl_function x0 x1 x2
decl_rolled (Decl-F.Pattern x0 x1 x2) = ap printed.decl (v_Decl.rolls-Pattern x0 x1 x2) ∙ printed_decl_pattern x0 x1 x2

pub decl_at : (x : Decl) → printed.decl x ≡ decl_layer (out-Decl x)
decl_at x = ap printed.decl (sym (roll-out-Decl x)) ∙ decl_rolled (out-Decl x)

abbrev pub ExpLayer : Type 0
ExpLayer = Exp-F Aexp Alt Decl Exp Locals Open Operand Rhs Where AltGuard AltItem Alts DeclItem Decls Guard NextOperand OperandList Part Redef RedefItem Redefs

unfoldable pub exp_layer : ExpLayer → Print
exp_layer (Exp-F.Exp::Plain x0) = (printed.operands x0)
exp_layer (Exp-F.Typed x0 x1 x2 x3) = spanned x0 ((printed.operands x1).flat ++ (at k.Colons x2 ∷ (printed.type_expr x3).flat)) ((printed.operands x1).good && (not (printed.operands x1).is_open && (printed.type_expr x3).good))

exp_rolled : (y : ExpLayer) → printed.exp (roll-Exp y) ≡ exp_layer y
unfolding exp_layer
exp_rolled (Exp-F.Exp::Plain x0) = ap printed.exp (v_Exp.rolls-Plain x0) ∙ printed_exp_plain x0
exp_rolled (Exp-F.Typed x0 x1 x2 x3) = ap printed.exp (v_Exp.rolls-Typed x0 x1 x2 x3) ∙ printed_exp_typed x0 x1 x2 x3

pub exp_at : (x : Exp) → printed.exp x ≡ exp_layer (out-Exp x)
exp_at x = ap printed.exp (sym (roll-out-Exp x)) ∙ exp_rolled (out-Exp x)

abbrev pub LocalsLayer : Type 0
LocalsLayer = Locals-F Aexp Alt Decl Exp Locals Open Operand Rhs Where AltGuard AltItem Alts DeclItem Decls Guard NextOperand OperandList Part Redef RedefItem Redefs

unfoldable pub locals_layer : LocalsLayer → Print
locals_layer (Locals-F.Decls x0) = (printed.decls x0)
locals_layer (Locals-F.Redefs x0) = (printed.redefs x0)

locals_rolled : (y : LocalsLayer) → printed.locals (roll-Locals y) ≡ locals_layer y
unfolding locals_layer
locals_rolled (Locals-F.Decls x0) = ap printed.locals (v_Locals.rolls-Decls x0) ∙ printed_locals_decls x0
locals_rolled (Locals-F.Redefs x0) = ap printed.locals (v_Locals.rolls-Redefs x0) ∙ printed_locals_redefs x0

pub locals_at : (x : Locals) → printed.locals x ≡ locals_layer (out-Locals x)
locals_at x = ap printed.locals (sym (roll-out-Locals x)) ∙ locals_rolled (out-Locals x)

abbrev pub OpenLayer : Type 0
OpenLayer = Open-F Aexp Alt Decl Exp Locals Open Operand Rhs Where AltGuard AltItem Alts DeclItem Decls Guard NextOperand OperandList Part Redef RedefItem Redefs

unfoldable pub open_layer : OpenLayer → Print
open_layer (Open-F.Lambda x0 x1 x2 x3 x4 x5) = opened x0 (at k.Backslash x1 ∷ ((printed.arg_pattern x2).flat ++ (flat_all (map printed.arg_pattern x3) ++ (at k.Arrow x4 ∷ (printed.exp x5).flat)))) ((printed.arg_pattern x2).good && (good_all (map printed.arg_pattern x3) && (printed.exp x5).good))
open_layer (Open-F.Let x0 x1 x2 x3 x4) = opened x0 (at k.Let x1 ∷ ((printed.locals x2).flat ++ (at k.In x3 ∷ (printed.exp x4).flat))) ((printed.locals x2).good && (printed.exp x4).good)
open_layer (Open-F.If x0 x1 x2 x3 x4 x5 x6) = opened x0 (at k.If x1 ∷ ((printed.exp x2).flat ++ (at k.Then x3 ∷ ((printed.exp x4).flat ++ (at k.Else x5 ∷ (printed.exp x6).flat))))) ((printed.exp x2).good && ((printed.exp x4).good && (printed.exp x6).good))

open_rolled : (y : OpenLayer) → printed.open_operand (roll-Open y) ≡ open_layer y
unfolding open_layer
open_rolled (Open-F.Lambda x0 x1 x2 x3 x4 x5) = ap printed.open_operand (v_Open.rolls-Lambda x0 x1 x2 x3 x4 x5) ∙ printed_open_lambda x0 x1 x2 x3 x4 x5
open_rolled (Open-F.Let x0 x1 x2 x3 x4) = ap printed.open_operand (v_Open.rolls-Let x0 x1 x2 x3 x4) ∙ printed_open_let x0 x1 x2 x3 x4
open_rolled (Open-F.If x0 x1 x2 x3 x4 x5 x6) = ap printed.open_operand (v_Open.rolls-If x0 x1 x2 x3 x4 x5 x6) ∙ printed_open_if x0 x1 x2 x3 x4 x5 x6

pub open_at : (x : Open) → printed.open_operand x ≡ open_layer (out-Open x)
open_at x = ap printed.open_operand (sym (roll-out-Open x)) ∙ open_rolled (out-Open x)

abbrev pub OperandLayer : Type 0
OperandLayer = Operand-F Aexp Alt Decl Exp Locals Open Operand Rhs Where AltGuard AltItem Alts DeclItem Decls Guard NextOperand OperandList Part Redef RedefItem Redefs

unfoldable pub operand_layer : OperandLayer → Print
operand_layer (Operand-F.Apply x0 x1 x2) = spanned x0 ((printed.aexp x1).flat ++ flat_all (map printed.aexp x2)) ((printed.aexp x1).good && good_all (map printed.aexp x2))
operand_layer (Operand-F.Case x0 x1 x2 x3 x4) = spanned x0 (at k.Case x1 ∷ ((printed.exp x2).flat ++ (at k.Of x3 ∷ (printed.alts x4).flat))) ((printed.exp x2).good && (printed.alts x4).good)
operand_layer (Operand-F.Open x0) = (printed.open_operand x0)

operand_rolled : (y : OperandLayer) → printed.operand (roll-Operand y) ≡ operand_layer y
unfolding operand_layer
operand_rolled (Operand-F.Apply x0 x1 x2) = ap printed.operand (v_Operand.rolls-Apply x0 x1 x2) ∙ printed_operand_apply x0 x1 x2
operand_rolled (Operand-F.Case x0 x1 x2 x3 x4) = ap printed.operand (v_Operand.rolls-Case x0 x1 x2 x3 x4) ∙ printed_operand_case x0 x1 x2 x3 x4
operand_rolled (Operand-F.Open x0) = ap printed.operand (v_Operand.rolls-Open x0) ∙ printed_operand_open x0

pub operand_at : (x : Operand) → printed.operand x ≡ operand_layer (out-Operand x)
operand_at x = ap printed.operand (sym (roll-out-Operand x)) ∙ operand_rolled (out-Operand x)

abbrev pub RhsLayer : Type 0
RhsLayer = Rhs-F Aexp Alt Decl Exp Locals Open Operand Rhs Where AltGuard AltItem Alts DeclItem Decls Guard NextOperand OperandList Part Redef RedefItem Redefs

unfoldable pub rhs_layer : RhsLayer → Print
rhs_layer (Rhs-F.Rhs::Plain x0 x1 x2 x3) = spanned x0 (at k.Equals x1 ∷ ((printed.exp x2).flat ++ (printed.where_part x3).flat)) ((printed.exp x2).good && (printed.where_part x3).good)
rhs_layer (Rhs-F.Rhs::Guarded x0 x1 x2 x3) = spanned x0 ((printed.guard x1).flat ++ (flat_all (map printed.guard x2) ++ (printed.where_part x3).flat)) ((printed.guard x1).good && (good_all (map printed.guard x2) && (printed.where_part x3).good))

rhs_rolled : (y : RhsLayer) → printed.rhs (roll-Rhs y) ≡ rhs_layer y
unfolding rhs_layer
rhs_rolled (Rhs-F.Rhs::Plain x0 x1 x2 x3) = ap printed.rhs (v_Rhs.rolls-Plain x0 x1 x2 x3) ∙ printed_rhs_plain x0 x1 x2 x3
rhs_rolled (Rhs-F.Rhs::Guarded x0 x1 x2 x3) = ap printed.rhs (v_Rhs.rolls-Guarded x0 x1 x2 x3) ∙ printed_rhs_guarded x0 x1 x2 x3

pub rhs_at : (x : Rhs) → printed.rhs x ≡ rhs_layer (out-Rhs x)
rhs_at x = ap printed.rhs (sym (roll-out-Rhs x)) ∙ rhs_rolled (out-Rhs x)

abbrev pub WhereLayer : Type 0
WhereLayer = Where-F Aexp Alt Decl Exp Locals Open Operand Rhs Where AltGuard AltItem Alts DeclItem Decls Guard NextOperand OperandList Part Redef RedefItem Redefs

unfoldable pub where_layer : WhereLayer → Print
where_layer (Where-F.Absent) = print [] true
where_layer (Where-F.Block x0 x1) = print (at k.Where x0 ∷ (printed.decls x1).flat) (printed.decls x1).good

where_rolled : (y : WhereLayer) → printed.where_part (roll-Where y) ≡ where_layer y
unfolding where_layer
where_rolled (Where-F.Absent) = ap printed.where_part v_Where.rolls-Absent ∙ printed_where_absent
where_rolled (Where-F.Block x0 x1) = ap printed.where_part (v_Where.rolls-Block x0 x1) ∙ printed_where_block x0 x1

pub where_at : (x : Where) → printed.where_part x ≡ where_layer (out-Where x)
where_at x = ap printed.where_part (sym (roll-out-Where x)) ∙ where_rolled (out-Where x)

pub alt_guard_at : (x : AltGuard) → printed.alt_guard x ≡ spanned (out-AltGuard x).span (at k.Bar (out-AltGuard x).bar ∷ ((printed.operands (out-AltGuard x).test).flat ++ (at k.Arrow (out-AltGuard x).mark ∷ (printed.exp (out-AltGuard x).body).flat))) ((printed.operands (out-AltGuard x).test).good && (not (printed.operands (out-AltGuard x).test).is_open && (printed.exp (out-AltGuard x).body).good))
alt_guard_at x = ap printed.alt_guard (sym (roll-out-AltGuard x)) ∙ printed_alt_guard (out-AltGuard x).span (out-AltGuard x).bar (out-AltGuard x).test (out-AltGuard x).mark (out-AltGuard x).body

pub alt_item_at : (x : AltItem) → printed.alt_item x ≡ block_part (printed.alt (out-AltItem x).alt) (out-AltItem x).marks
alt_item_at x = ap printed.alt_item (sym (roll-out-AltItem x)) ∙ printed_alt_item (out-AltItem x).alt (out-AltItem x).marks

pub alts_at : (x : Alts) → printed.alts x ≡ block_some (out-Alts x).span (out-Alts x).open (out-Alts x).before (map printed.alt_item (out-Alts x).alts) (out-Alts x).close
alts_at x = ap printed.alts (sym (roll-out-Alts x)) ∙ printed_alts (out-Alts x).span (out-Alts x).open (out-Alts x).before (out-Alts x).alts (out-Alts x).close

pub decl_item_at : (x : DeclItem) → printed.decl_item x ≡ block_part (printed.decl (out-DeclItem x).decl) (out-DeclItem x).marks
decl_item_at x = ap printed.decl_item (sym (roll-out-DeclItem x)) ∙ printed_decl_item (out-DeclItem x).decl (out-DeclItem x).marks

pub decls_at : (x : Decls) → printed.decls x ≡ block (out-Decls x).span (out-Decls x).open (out-Decls x).before (map printed.decl_item (out-Decls x).decls) (out-Decls x).close
decls_at x = ap printed.decls (sym (roll-out-Decls x)) ∙ printed_decls (out-Decls x).span (out-Decls x).open (out-Decls x).before (out-Decls x).decls (out-Decls x).close

pub guard_at : (x : Guard) → printed.guard x ≡ spanned (out-Guard x).span (at k.Bar (out-Guard x).bar ∷ ((printed.operands (out-Guard x).test).flat ++ (at k.Equals (out-Guard x).mark ∷ (printed.exp (out-Guard x).body).flat))) ((printed.operands (out-Guard x).test).good && (not (printed.operands (out-Guard x).test).is_open && (printed.exp (out-Guard x).body).good))
guard_at x = ap printed.guard (sym (roll-out-Guard x)) ∙ printed_guard (out-Guard x).span (out-Guard x).bar (out-Guard x).test (out-Guard x).mark (out-Guard x).body

pub next_operand_at : (x : NextOperand) → printed.next_operand x ≡ record { flat = op_flat (out-NextOperand x).op ++ (minus_flat (out-NextOperand x).minus ++ (printed.operand (out-NextOperand x).operand).flat); good = (printed.operand (out-NextOperand x).operand).good; is_open = (printed.operand (out-NextOperand x).operand).is_open; is_var = false; is_parted = false }
next_operand_at x = ap printed.next_operand (sym (roll-out-NextOperand x)) ∙ printed_next_operand (out-NextOperand x).op (out-NextOperand x).minus (out-NextOperand x).operand

pub operands_at : (x : OperandList) → printed.operands x ≡ operands_of (out-OperandList x).span (minus_flat (out-OperandList x).minus) (printed.operand (out-OperandList x).first) (map printed.next_operand (out-OperandList x).others)
operands_at x = ap printed.operands (sym (roll-out-OperandList x)) ∙ printed_operands (out-OperandList x).span (out-OperandList x).minus (out-OperandList x).first (out-OperandList x).others

pub part_at : (x : Part) → printed.part x ≡ print (at k.Comma (out-Part x).mark ∷ (printed.exp (out-Part x).exp).flat) (printed.exp (out-Part x).exp).good
part_at x = ap printed.part (sym (roll-out-Part x)) ∙ printed_part (out-Part x).mark (out-Part x).exp

pub redef_at : (x : Redef) → printed.redef x ≡ spanned (out-Redef x).span (printed.var (out-Redef x).function ++ (at k.OpenBanana (out-Redef x).open ∷ printed.var_id (out-Redef x).variable ∷ at k.CloseBanana (out-Redef x).close ∷ at k.Equals (out-Redef x).equals ∷ (printed.exp (out-Redef x).body).flat)) (printed.plain (out-Redef x).variable && (printed.exp (out-Redef x).body).good)
redef_at x = ap printed.redef (sym (roll-out-Redef x)) ∙ printed_redef (out-Redef x).span (out-Redef x).function (out-Redef x).open (out-Redef x).variable (out-Redef x).close (out-Redef x).equals (out-Redef x).body

pub redef_item_at : (x : RedefItem) → printed.redef_item x ≡ block_part (printed.redef (out-RedefItem x).redef) (out-RedefItem x).marks
redef_item_at x = ap printed.redef_item (sym (roll-out-RedefItem x)) ∙ printed_redef_item (out-RedefItem x).redef (out-RedefItem x).marks

pub redefs_at : (x : Redefs) → printed.redefs x ≡ block_some (out-Redefs x).span (out-Redefs x).open (out-Redefs x).before (map printed.redef_item (out-Redefs x).redefs) (out-Redefs x).close
redefs_at x = ap printed.redefs (sym (roll-out-Redefs x)) ∙ printed_redefs (out-Redefs x).span (out-Redefs x).open (out-Redefs x).before (out-Redefs x).redefs (out-Redefs x).close
