-- What each definition of the form is at each variant of a tree.
use Rattle.std.proofs.Common.{◌≡◌, ℕ, true, false, ◌&&◌, List, [], ◌∷◌, Option, Some, None, sym, ap, ◌∙◌, cond}
use Rattle.gh_base.specs.declared.place.Span.{Span}
use Rattle.gh_bindings.specs.declared.binding.Operand.TheVariants as operand
use Rattle.gh_tree.specs.declared.names.FixityWord.{FixityWord}
use Rattle.gh_tree.specs.declared.names.GenCon.{GenCon}
use Rattle.gh_tree.specs.declared.names.NextOp.{NextOp}
use Rattle.gh_tree.specs.declared.names.NextVar.{NextVar}
use Rattle.gh_tree.specs.declared.names.Op.{Op}
use Rattle.gh_tree.specs.declared.names.Var.{Var}
use Rattle.gh_tree.specs.declared.names.VarOp.{VarOp}
use Rattle.gh_tree.specs.declared.patterns.ArgPattern.{ArgPattern}
use Rattle.gh_tree.specs.declared.patterns.NextPattern.{NextPattern}
use Rattle.gh_tree.specs.declared.patterns.PatOperand.{PatOperand}
use Rattle.gh_tree.specs.declared.patterns.Pattern.{Pattern}
use Rattle.gh_tree.specs.declared.types.TypeExpr.{TypeExpr}
use Rattle.gh_tree.specs.declared.expressions.Alts.{Alts}
use Rattle.gh_tree.specs.declared.expressions.Decls.{Decls}
use Rattle.gh_tree.specs.declared.expressions.Guard.{Guard}
use Rattle.gh_tree.specs.declared.expressions.Open.{Open}
use Rattle.gh_tree.specs.declared.expressions.OperandList.{OperandList, roll-OperandList, out-roll-OperandList}
use Rattle.gh_tree.specs.declared.expressions.NextOperand.{NextOperand, roll-NextOperand, out-roll-NextOperand}
use Rattle.gh_tree.specs.declared.expressions.Operand as part
use Rattle.gh_tree.specs.declared.expressions.Part.{Part}
use Rattle.gh_tree.specs.declared.expressions.Aexp.{Aexp, out-roll-Aexp}
use Rattle.gh_tree.specs.declared.expressions.Aexp.TheVariants as v_Aexp
use Rattle.gh_tree.specs.declared.expressions.Exp.{Exp, out-roll-Exp}
use Rattle.gh_tree.specs.declared.expressions.Exp.TheVariants as v_Exp
use Rattle.gh_tree.specs.declared.expressions.Rhs.{Rhs, out-roll-Rhs}
use Rattle.gh_tree.specs.declared.expressions.Rhs.TheVariants as v_Rhs
use Rattle.gh_tree.specs.declared.expressions.Where.{Where, out-roll-Where}
use Rattle.gh_tree.specs.declared.expressions.Where.TheVariants as v_Where
use Rattle.gh_tree.specs.declared.expressions.Decl.{out-roll-Decl}
use Rattle.gh_tree.specs.declared.expressions.Decl.TheVariants as v_Decl
use Rattle.gh_tree.specs.declared.expressions.Operand.{out-roll-Operand}
use Rattle.gh_tree.specs.declared.expressions.Operand.TheVariants as v_Operand
use Rattle.gh_tree.specs.declared.patterns.FunLhs.{FunLhs, out-roll-FunLhs}
use Rattle.gh_tree.specs.declared.patterns.FunLhs.TheVariants as v_FunLhs
use Rattle.gh_tree.specs.declared.patterns.FunLhs.TheOpen.{FunLhs-F}
use Rattle.gh_tree.specs.declared.expressions.Aexp.TheOpen.{Aexp-F, Decl-F, Exp-F, Operand-F, Rhs-F, Where-F}
use Rattle.gh_tree_form.specs.declared.item.ItemForm.TheVariants as form
use Rattle.gh_tree_form.specs.Form.{is_absent, is_append, next_by, next_of, on_some, operands_by, operands_from, word_of, name_operand, argument_by, argument_of, alone, operand_by, operand_of, operands_of, exp_by, exp_of, no_locals_by, no_locals, right_by, right_of, left_by, left_of, bind_form, decl_by, decl_form, decl_span_by, decl_span}

pub argument_var : (x0 : Var) → argument_of (v_Aexp.Var x0) ≡ name_operand (word_of x0)
unfolding argument_of
argument_var x0 = ap argument_of (sym (v_Aexp.rolls-Var x0)) ∙ ap argument_by (out-roll-Aexp (Aexp-F.Var x0))

pub argument_generic : (x0 : Span) (x1 : Var) (x2 : Span) (x3 : TypeExpr) (x4 : Span) → argument_of (v_Aexp.Generic x0 x1 x2 x3 x4) ≡ None
unfolding argument_of
argument_generic x0 x1 x2 x3 x4 = ap argument_of (sym (v_Aexp.rolls-Generic x0 x1 x2 x3 x4)) ∙ ap argument_by (out-roll-Aexp (Aexp-F.Generic x0 x1 x2 x3 x4))

pub argument_con : (x0 : GenCon) → argument_of (v_Aexp.Con x0) ≡ None
unfolding argument_of
argument_con x0 = ap argument_of (sym (v_Aexp.rolls-Con x0)) ∙ ap argument_by (out-roll-Aexp (Aexp-F.Con x0))

pub argument_int : (x0 : Span) (x1 : ℕ) → argument_of (v_Aexp.Int x0 x1) ≡ None
unfolding argument_of
argument_int x0 x1 = ap argument_of (sym (v_Aexp.rolls-Int x0 x1)) ∙ ap argument_by (out-roll-Aexp (Aexp-F.Int x0 x1))

pub argument_char : (x0 : Span) (x1 : ℕ) → argument_of (v_Aexp.Char x0 x1) ≡ None
unfolding argument_of
argument_char x0 x1 = ap argument_of (sym (v_Aexp.rolls-Char x0 x1)) ∙ ap argument_by (out-roll-Aexp (Aexp-F.Char x0 x1))

pub argument_str : (x0 : Span) (x1 : List ℕ) → argument_of (v_Aexp.Str x0 x1) ≡ Some (operand.Text x1)
unfolding argument_of
argument_str x0 x1 = ap argument_of (sym (v_Aexp.rolls-Str x0 x1)) ∙ ap argument_by (out-roll-Aexp (Aexp-F.Str x0 x1))

pub argument_paren : (x0 : Span) (x1 : Span) (x2 : Exp) (x3 : Span) → argument_of (v_Aexp.Paren x0 x1 x2 x3) ≡ None
unfolding argument_of
argument_paren x0 x1 x2 x3 = ap argument_of (sym (v_Aexp.rolls-Paren x0 x1 x2 x3)) ∙ ap argument_by (out-roll-Aexp (Aexp-F.Paren x0 x1 x2 x3))

pub argument_tuple : (x0 : Span) (x1 : Span) (x2 : Exp) (x3 : List Part) (x4 : Span) → argument_of (v_Aexp.Tuple x0 x1 x2 x3 x4) ≡ None
unfolding argument_of
argument_tuple x0 x1 x2 x3 x4 = ap argument_of (sym (v_Aexp.rolls-Tuple x0 x1 x2 x3 x4)) ∙ ap argument_by (out-roll-Aexp (Aexp-F.Tuple x0 x1 x2 x3 x4))

pub argument_list : (x0 : Span) (x1 : Span) (x2 : Exp) (x3 : List Part) (x4 : Span) → argument_of (v_Aexp.List x0 x1 x2 x3 x4) ≡ None
unfolding argument_of
argument_list x0 x1 x2 x3 x4 = ap argument_of (sym (v_Aexp.rolls-List x0 x1 x2 x3 x4)) ∙ ap argument_by (out-roll-Aexp (Aexp-F.List x0 x1 x2 x3 x4))

pub argument_left : (x0 : Span) (x1 : Span) (x2 : OperandList) (x3 : Op) (x4 : Span) → argument_of (v_Aexp.Left x0 x1 x2 x3 x4) ≡ None
unfolding argument_of
argument_left x0 x1 x2 x3 x4 = ap argument_of (sym (v_Aexp.rolls-Left x0 x1 x2 x3 x4)) ∙ ap argument_by (out-roll-Aexp (Aexp-F.Left x0 x1 x2 x3 x4))

pub argument_right : (x0 : Span) (x1 : Span) (x2 : Op) (x3 : OperandList) (x4 : Span) → argument_of (v_Aexp.Right x0 x1 x2 x3 x4) ≡ None
unfolding argument_of
argument_right x0 x1 x2 x3 x4 = ap argument_of (sym (v_Aexp.rolls-Right x0 x1 x2 x3 x4)) ∙ ap argument_by (out-roll-Aexp (Aexp-F.Right x0 x1 x2 x3 x4))

pub operand_apply : (x0 : Span) (x1 : Aexp) (x2 : List Aexp) → operand_of (v_Operand.Apply x0 x1 x2) ≡ alone x2 (argument_of x1)
unfolding operand_of
operand_apply x0 x1 x2 = ap operand_of (sym (v_Operand.rolls-Apply x0 x1 x2)) ∙ ap operand_by (out-roll-Operand (Operand-F.Apply x0 x1 x2))

pub operand_case : (x0 : Span) (x1 : Span) (x2 : Exp) (x3 : Span) (x4 : Alts) → operand_of (v_Operand.Case x0 x1 x2 x3 x4) ≡ None
unfolding operand_of
operand_case x0 x1 x2 x3 x4 = ap operand_of (sym (v_Operand.rolls-Case x0 x1 x2 x3 x4)) ∙ ap operand_by (out-roll-Operand (Operand-F.Case x0 x1 x2 x3 x4))

pub operand_open : (x0 : Open) → operand_of (v_Operand.Open x0) ≡ None
unfolding operand_of
operand_open x0 = ap operand_of (sym (v_Operand.rolls-Open x0)) ∙ ap operand_by (out-roll-Operand (Operand-F.Open x0))

pub exp_plain : (x0 : OperandList) → exp_of (v_Exp.Plain x0) ≡ operands_of x0
unfolding exp_of
exp_plain x0 = ap exp_of (sym (v_Exp.rolls-Plain x0)) ∙ ap exp_by (out-roll-Exp (Exp-F.Exp::Plain x0))

pub exp_typed : (x0 : Span) (x1 : OperandList) (x2 : Span) (x3 : TypeExpr) → exp_of (v_Exp.Typed x0 x1 x2 x3) ≡ None
unfolding exp_of
exp_typed x0 x1 x2 x3 = ap exp_of (sym (v_Exp.rolls-Typed x0 x1 x2 x3)) ∙ ap exp_by (out-roll-Exp (Exp-F.Typed x0 x1 x2 x3))

pub no_locals_absent : no_locals v_Where.Absent ≡ true
unfolding no_locals
no_locals_absent = ap no_locals (sym v_Where.rolls-Absent) ∙ ap no_locals_by (out-roll-Where Where-F.Absent)

pub no_locals_block : (x0 : Span) (x1 : Decls) → no_locals (v_Where.Block x0 x1) ≡ false
unfolding no_locals
no_locals_block x0 x1 = ap no_locals (sym (v_Where.rolls-Block x0 x1)) ∙ ap no_locals_by (out-roll-Where (Where-F.Block x0 x1))

pub right_plain : (x0 : Span) (x1 : Span) (x2 : Exp) (x3 : Where) → right_of (v_Rhs.Plain x0 x1 x2 x3) ≡ cond (no_locals x3) (exp_of x2) None
unfolding right_of
right_plain x0 x1 x2 x3 = ap right_of (sym (v_Rhs.rolls-Plain x0 x1 x2 x3)) ∙ ap right_by (out-roll-Rhs (Rhs-F.Rhs::Plain x0 x1 x2 x3))

pub right_guarded : (x0 : Span) (x1 : Guard) (x2 : List Guard) (x3 : Where) → right_of (v_Rhs.Guarded x0 x1 x2 x3) ≡ None
unfolding right_of
right_guarded x0 x1 x2 x3 = ap right_of (sym (v_Rhs.rolls-Guarded x0 x1 x2 x3)) ∙ ap right_by (out-roll-Rhs (Rhs-F.Rhs::Guarded x0 x1 x2 x3))

pub left_prefix : (x0 : Span) (x1 : Var) (x2 : List ArgPattern) → left_of (v_FunLhs.Prefix x0 x1 x2) ≡ alone x2 (word_of x1)
unfolding left_of
left_prefix x0 x1 x2 = ap left_of (sym (v_FunLhs.rolls-Prefix x0 x1 x2)) ∙ ap left_by (out-roll-FunLhs (FunLhs-F.Prefix x0 x1 x2))

pub left_infix : (x0 : Span) (x1 : PatOperand) (x2 : List NextPattern) (x3 : VarOp) (x4 : PatOperand) (x5 : List NextPattern) → left_of (v_FunLhs.Infix x0 x1 x2 x3 x4 x5) ≡ None
unfolding left_of
left_infix x0 x1 x2 x3 x4 x5 = ap left_of (sym (v_FunLhs.rolls-Infix x0 x1 x2 x3 x4 x5)) ∙ ap left_by (out-roll-FunLhs (FunLhs-F.Infix x0 x1 x2 x3 x4 x5))

pub left_nested : (x0 : Span) (x1 : Span) (x2 : FunLhs) (x3 : Span) (x4 : ArgPattern) (x5 : List ArgPattern) → left_of (v_FunLhs.Nested x0 x1 x2 x3 x4 x5) ≡ None
unfolding left_of
left_nested x0 x1 x2 x3 x4 x5 = ap left_of (sym (v_FunLhs.rolls-Nested x0 x1 x2 x3 x4 x5)) ∙ ap left_by (out-roll-FunLhs (FunLhs-F.Nested x0 x1 x2 x3 x4 x5))

pub decl_signature : (x0 : Span) (x1 : Var) (x2 : List NextVar) (x3 : Span) (x4 : TypeExpr) → decl_form (v_Decl.Signature x0 x1 x2 x3 x4) ≡ form.Other
unfolding decl_form
decl_signature x0 x1 x2 x3 x4 = ap decl_form (sym (v_Decl.rolls-Signature x0 x1 x2 x3 x4)) ∙ ap decl_by (out-roll-Decl (Decl-F.Signature x0 x1 x2 x3 x4))

pub decl_fixity : (x0 : Span) (x1 : FixityWord) (x2 : Option (Span × ℕ)) (x3 : Op) (x4 : List NextOp) → decl_form (v_Decl.Fixity x0 x1 x2 x3 x4) ≡ form.Other
unfolding decl_form
decl_fixity x0 x1 x2 x3 x4 = ap decl_form (sym (v_Decl.rolls-Fixity x0 x1 x2 x3 x4)) ∙ ap decl_by (out-roll-Decl (Decl-F.Fixity x0 x1 x2 x3 x4))

pub decl_function : (x0 : Span) (x1 : FunLhs) (x2 : Rhs) → decl_form (v_Decl.Function x0 x1 x2) ≡ bind_form x0 (left_of x1) (right_of x2)
unfolding decl_form
decl_function x0 x1 x2 = ap decl_form (sym (v_Decl.rolls-Function x0 x1 x2)) ∙ ap decl_by (out-roll-Decl (Decl-F.Function x0 x1 x2))

pub decl_pattern : (x0 : Span) (x1 : Pattern) (x2 : Rhs) → decl_form (v_Decl.Pattern x0 x1 x2) ≡ form.Other
unfolding decl_form
decl_pattern x0 x1 x2 = ap decl_form (sym (v_Decl.rolls-Pattern x0 x1 x2)) ∙ ap decl_by (out-roll-Decl (Decl-F.Pattern x0 x1 x2))

pub span_signature : (x0 : Span) (x1 : Var) (x2 : List NextVar) (x3 : Span) (x4 : TypeExpr) → decl_span (v_Decl.Signature x0 x1 x2 x3 x4) ≡ x0
unfolding decl_span
span_signature x0 x1 x2 x3 x4 = ap decl_span (sym (v_Decl.rolls-Signature x0 x1 x2 x3 x4)) ∙ ap decl_span_by (out-roll-Decl (Decl-F.Signature x0 x1 x2 x3 x4))

pub span_fixity : (x0 : Span) (x1 : FixityWord) (x2 : Option (Span × ℕ)) (x3 : Op) (x4 : List NextOp) → decl_span (v_Decl.Fixity x0 x1 x2 x3 x4) ≡ x0
unfolding decl_span
span_fixity x0 x1 x2 x3 x4 = ap decl_span (sym (v_Decl.rolls-Fixity x0 x1 x2 x3 x4)) ∙ ap decl_span_by (out-roll-Decl (Decl-F.Fixity x0 x1 x2 x3 x4))

pub span_function : (x0 : Span) (x1 : FunLhs) (x2 : Rhs) → decl_span (v_Decl.Function x0 x1 x2) ≡ x0
unfolding decl_span
span_function x0 x1 x2 = ap decl_span (sym (v_Decl.rolls-Function x0 x1 x2)) ∙ ap decl_span_by (out-roll-Decl (Decl-F.Function x0 x1 x2))

pub span_pattern : (x0 : Span) (x1 : Pattern) (x2 : Rhs) → decl_span (v_Decl.Pattern x0 x1 x2) ≡ x0
unfolding decl_span
span_pattern x0 x1 x2 = ap decl_span (sym (v_Decl.rolls-Pattern x0 x1 x2)) ∙ ap decl_span_by (out-roll-Decl (Decl-F.Pattern x0 x1 x2))

-- ---- the parts of a record

pub next_rolled : (op : Op) (m : Option Span) (x : part.Operand) → next_of (roll-NextOperand (record { op = op; minus = m; operand = x })) ≡ cond (is_append op && is_absent m) (operand_of x) None
unfolding next_of
next_rolled op m x = ap next_by (out-roll-NextOperand (record { op = op; minus = m; operand = x }))

pub operands_rolled : (s : Span) (m : Option Span) (x : part.Operand) (xs : List NextOperand)
    → operands_of (roll-OperandList (record { span = s; minus = m; first = x; others = xs })) ≡ cond (is_absent m) (on_some (operand_of x) (λ o. operands_from (o ∷ []) xs)) None
unfolding operands_of
operands_rolled s m x xs = ap operands_by (out-roll-OperandList (record { span = s; minus = m; first = x; others = xs }))

-- all of these, for small cases
pub ruleset shapes = (argument_var, argument_generic, argument_con, argument_int, argument_char, argument_str, argument_paren, argument_tuple, argument_list, argument_left, argument_right, operand_apply, operand_case, operand_open, exp_plain, exp_typed, no_locals_absent, no_locals_block, right_plain, right_guarded, left_prefix, left_infix, left_nested, decl_signature, decl_fixity, decl_function, decl_pattern, span_signature, span_fixity, span_function, span_pattern, next_rolled, operands_rolled)
