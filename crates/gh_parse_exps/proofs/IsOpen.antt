-- Which operands go on to the right, and which expressions have no type.
use Rattle.std.proofs.Common.{◌≡◌, ◌<◌, Bool, true, false, List, [], ◌∷◌, length, map, Some, None, sym, ap, ◌∙◌, arith}
use Rattle.gh_base.specs.declared.place.Span.{Span}
use Rattle.gh_tree.specs.declared.types.TypeExpr.{TypeExpr}
use Rattle.gh_tree.specs.declared.expressions.Aexp.{Aexp}
use Rattle.gh_tree.specs.declared.expressions.Alt.{Alt}
use Rattle.gh_tree.specs.declared.expressions.AltGuard.{AltGuard}
use Rattle.gh_tree.specs.declared.expressions.AltItem.{AltItem}
use Rattle.gh_tree.specs.declared.expressions.Alts.{Alts}
use Rattle.gh_tree.specs.declared.expressions.Decl.{Decl}
use Rattle.gh_tree.specs.declared.expressions.DeclItem.{DeclItem}
use Rattle.gh_tree.specs.declared.expressions.Decls.{Decls}
use Rattle.gh_tree.specs.declared.expressions.Exp.{Exp, out-roll-Exp}
use Rattle.gh_tree.specs.declared.expressions.Exp.TheVariants as v_Exp
use Rattle.gh_tree.specs.declared.expressions.Guard.{Guard}
use Rattle.gh_tree.specs.declared.expressions.Locals.{Locals}
use Rattle.gh_tree.specs.declared.expressions.NextOperand.{NextOperand, out-NextOperand, roll-out-NextOperand}
use Rattle.gh_tree.specs.declared.expressions.Open.{Open, roll-Open, out-Open, roll-out-Open}
use Rattle.gh_tree.specs.declared.expressions.Open.TheVariants as v_Open
use Rattle.gh_tree.specs.declared.expressions.Operand.{Operand}
use Rattle.gh_tree.specs.declared.expressions.Operand.TheVariants as v_Operand
use Rattle.gh_tree.specs.declared.expressions.OperandList.{OperandList, out-OperandList, roll-out-OperandList}
use Rattle.gh_tree.specs.declared.expressions.Part.{Part}
use Rattle.gh_tree.specs.declared.expressions.Redef.{Redef}
use Rattle.gh_tree.specs.declared.expressions.RedefItem.{RedefItem}
use Rattle.gh_tree.specs.declared.expressions.Redefs.{Redefs}
use Rattle.gh_tree.specs.declared.expressions.Rhs.{Rhs}
use Rattle.gh_tree.specs.declared.expressions.Where.{Where}
use Rattle.gh_tree.specs.declared.expressions.Aexp.TheOpen.{Exp-F, Open-F}
use Rattle.gh_tree.specs.Print.{Print, closed_before, last_open}
use Rattle.gh_tree.specs.Print as printed
use Rattle.gh_tree.proofs.Printed.{printed_operand_apply, printed_operand_case, printed_operand_open, printed_open_lambda, printed_open_let, printed_open_if, printed_next_operand, printed_operands}
use Rattle.gh_parse_exps.specs.Decls.{plain_by, plain_of}

pub apply_closed : (s : Span) (x : Aexp) (xs : List Aexp) → (printed.operand (v_Operand.Apply s x xs)).is_open ≡ false
apply_closed s x xs = ap (λ (p : Print). p.is_open) (printed_operand_apply s x xs)

pub case_closed : (s a : Span) (x : Exp) (m : Span) (y : Alts) → (printed.operand (v_Operand.Case s a x m y)).is_open ≡ false
case_closed s a x m y = ap (λ (p : Print). p.is_open) (printed_operand_case s a x m y)

rolled_open : (y : Open-F Aexp Alt Decl Exp Locals Open Operand Rhs Where AltGuard AltItem Alts DeclItem Decls Guard NextOperand OperandList Part Redef RedefItem Redefs)
    → (printed.open_operand (roll-Open y)).is_open ≡ true
rolled_open (Open-F.Lambda a b c d e f) = ap (λ (x : Open). (printed.open_operand x).is_open) (v_Open.rolls-Lambda a b c d e f) ∙ ap (λ (p : Print). p.is_open) (printed_open_lambda a b c d e f)
rolled_open (Open-F.Let a b c d e) = ap (λ (x : Open). (printed.open_operand x).is_open) (v_Open.rolls-Let a b c d e) ∙ ap (λ (p : Print). p.is_open) (printed_open_let a b c d e)
rolled_open (Open-F.If a b c d e f g) = ap (λ (x : Open). (printed.open_operand x).is_open) (v_Open.rolls-If a b c d e f g) ∙ ap (λ (p : Print). p.is_open) (printed_open_if a b c d e f g)

pub open_always : (x : Open) → (printed.open_operand x).is_open ≡ true
open_always x = ap (λ (y : Open). (printed.open_operand y).is_open) (sym (roll-out-Open x)) ∙ rolled_open (out-Open x)

pub open_is : (x : Open) → (printed.operand (v_Operand.Open x)).is_open ≡ true
open_is x = ap (λ (p : Print). p.is_open) (printed_operand_open x) ∙ open_always x

pub next_open : (x : NextOperand) → (printed.next_operand x).is_open ≡ (printed.operand (out-NextOperand x).operand).is_open
next_open x =
    let y = out-NextOperand x in
    ap (λ (z : NextOperand). (printed.next_operand z).is_open) (sym (roll-out-NextOperand x)) ∙ ap (λ (p : Print). p.is_open) (printed_next_operand y.op y.minus y.operand)

pub operands_open : (x : OperandList) → (printed.operands x).is_open ≡ last_open (printed.operand (out-OperandList x).first).is_open (map printed.next_operand (out-OperandList x).others)
operands_open x =
    let y = out-OperandList x in
    ap (λ (z : OperandList). (printed.operands z).is_open) (sym (roll-out-OperandList x)) ∙ ap (λ (p : Print). p.is_open) (printed_operands y.span y.minus y.first y.others)

pub plain_plain : (xs : OperandList) → plain_of (v_Exp.Plain xs) ≡ Some xs
unfolding plain_of
plain_plain xs = ap plain_of (sym (v_Exp.rolls-Plain xs)) ∙ ap plain_by (out-roll-Exp (Exp-F.Exp::Plain xs))

pub plain_typed : (s : Span) (xs : OperandList) (m : Span) (t : TypeExpr) → plain_of (v_Exp.Typed s xs m t) ≡ None
unfolding plain_of
plain_typed s xs m t = ap plain_of (sym (v_Exp.rolls-Typed s xs m t)) ∙ ap plain_by (out-roll-Exp (Exp-F.Typed s xs m t))

-- behind an operand that goes on to the right stands another
pub open_before : (was : Bool) (xs : List NextOperand) → was ≡ true → 0 < length xs → closed_before was (map printed.next_operand xs) ≡ false
open_before was [] e some = absurd (omega (arith, some))
open_before was (x ∷ xs) e some = ap (λ b. closed_before b (map printed.next_operand (x ∷ xs))) e
