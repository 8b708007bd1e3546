-- The bytes of each node, variant by variant.
use Rattle.std.proofs.Common.{◌≡◌, ℕ, List, Option, sym, ap, ◌∙◌}
use Rattle.gh_base.specs.declared.place.Span.{Span}
use Rattle.gh_program.specs.declared.names.Occurrence.{Occurrence}
use Rattle.gh_program.specs.declared.names.GenCon.{GenCon}
use Rattle.gh_program.specs.declared.expressions.Aexp.{Aexp}
use Rattle.gh_program.specs.declared.expressions.Alt.{Alt}
use Rattle.gh_program.specs.declared.expressions.Exp.{Exp}
use Rattle.gh_program.specs.declared.expressions.Locals.{Locals}
use Rattle.gh_program.specs.declared.expressions.Open.{Open, out-roll-Open}
use Rattle.gh_program.specs.declared.expressions.Operand.{Operand, out-roll-Operand}
use Rattle.gh_program.specs.declared.expressions.Operands.{Operands, out-roll-Operands}
use Rattle.gh_program.specs.declared.expressions.NextOperand.{NextOperand}
use Rattle.gh_program.specs.declared.expressions.Operand.TheVariants as v_Operand
use Rattle.gh_program.specs.declared.expressions.Operands.TheVariants as v_Operands
use Rattle.gh_program.specs.declared.expressions.Open.TheVariants as v_Open
use Rattle.gh_program.specs.declared.expressions.Aexp.TheOpen.{Operand-F, Operands-F, Open-F}
use Rattle.gh_program.specs.declared.patterns.ArgPattern.{ArgPattern, out-roll-ArgPattern}
use Rattle.gh_program.specs.declared.patterns.PatOperand.{PatOperand, out-roll-PatOperand}
use Rattle.gh_program.specs.declared.patterns.Pattern.{Pattern, out-roll-Pattern}
use Rattle.gh_program.specs.declared.patterns.NextPattern.{NextPattern}
use Rattle.gh_program.specs.declared.patterns.ArgPattern.TheVariants as v_ArgPattern
use Rattle.gh_program.specs.declared.patterns.PatOperand.TheVariants as v_PatOperand
use Rattle.gh_program.specs.declared.patterns.Pattern.TheVariants as v_Pattern
use Rattle.gh_program.specs.declared.patterns.ArgPattern.TheOpen.{ArgPattern-F, PatOperand-F, Pattern-F}
use Rattle.gh_fixity.specs.Spans.{gen_con_span, open_span, open_span_by, operand_span, operand_span_by, operands_span, operands_span_by, arg_pattern_span, arg_pattern_span_by, pat_operand_span, pat_operand_span_by, pattern_span, pattern_span_by}

pub open_lambda : (s : Span) (ps : List ArgPattern) (x : Exp) → open_span (v_Open.Lambda s ps x) ≡ s
unfolding open_span
open_lambda s ps x = ap open_span (sym (v_Open.rolls-Lambda s ps x)) ∙ ap open_span_by (out-roll-Open (Open-F.Lambda s ps x))

pub open_let : (s : Span) (d : Locals) (x : Exp) → open_span (v_Open.Let s d x) ≡ s
unfolding open_span
open_let s d x = ap open_span (sym (v_Open.rolls-Let s d x)) ∙ ap open_span_by (out-roll-Open (Open-F.Let s d x))

pub open_if : (s : Span) (x : Exp) (y : Exp) (z : Exp) → open_span (v_Open.If s x y z) ≡ s
unfolding open_span
open_if s x y z = ap open_span (sym (v_Open.rolls-If s x y z)) ∙ ap open_span_by (out-roll-Open (Open-F.If s x y z))

pub operand_apply : (s : Span) (x : Aexp) (xs : List Aexp) → operand_span (v_Operand.Apply s x xs) ≡ s
unfolding operand_span
operand_apply s x xs = ap operand_span (sym (v_Operand.rolls-Apply s x xs)) ∙ ap operand_span_by (out-roll-Operand (Operand-F.Apply s x xs))

pub operand_case : (s : Span) (x : Exp) (qs : List Alt) → operand_span (v_Operand.Case s x qs) ≡ s
unfolding operand_span
operand_case s x qs = ap operand_span (sym (v_Operand.rolls-Case s x qs)) ∙ ap operand_span_by (out-roll-Operand (Operand-F.Case s x qs))

pub operand_open : (x : Open) → operand_span (v_Operand.Open x) ≡ open_span x
unfolding operand_span
operand_open x = ap operand_span (sym (v_Operand.rolls-Open x)) ∙ ap operand_span_by (out-roll-Operand (Operand-F.Open x))

pub operands_listed : (s : Span) (m : Option Span) (x : Operand) (ns : List NextOperand) → operands_span (v_Operands.Listed s m x ns) ≡ s
unfolding operands_span
operands_listed s m x ns = ap operands_span (sym (v_Operands.rolls-Listed s m x ns)) ∙ ap operands_span_by (out-roll-Operands (Operands-F.Listed s m x ns))

pub operands_infix : (s : Span) (a : Operands) (o : Occurrence) (b : Operands) → operands_span (v_Operands.Infix s a o b) ≡ s
unfolding operands_span
operands_infix s a o b = ap operands_span (sym (v_Operands.rolls-Infix s a o b)) ∙ ap operands_span_by (out-roll-Operands (Operands-F.Infix s a o b))

pub operands_negate : (s : Span) (m : Span) (a : Operands) → operands_span (v_Operands.Negate s m a) ≡ s
unfolding operands_span
operands_negate s m a = ap operands_span (sym (v_Operands.rolls-Negate s m a)) ∙ ap operands_span_by (out-roll-Operands (Operands-F.Negate s m a))

pub arg_pattern_var : (o : Occurrence) → arg_pattern_span (v_ArgPattern.Var o) ≡ o.span
unfolding arg_pattern_span
arg_pattern_var o = ap arg_pattern_span (sym (v_ArgPattern.rolls-Var o)) ∙ ap arg_pattern_span_by (out-roll-ArgPattern (ArgPattern-F.Var o))

pub arg_pattern_as : (s : Span) (o : Occurrence) (p : ArgPattern) → arg_pattern_span (v_ArgPattern.As s o p) ≡ s
unfolding arg_pattern_span
arg_pattern_as s o p = ap arg_pattern_span (sym (v_ArgPattern.rolls-As s o p)) ∙ ap arg_pattern_span_by (out-roll-ArgPattern (ArgPattern-F.As s o p))

pub arg_pattern_wild : (s : Span) → arg_pattern_span (v_ArgPattern.Wild s) ≡ s
unfolding arg_pattern_span
arg_pattern_wild s = ap arg_pattern_span (sym (v_ArgPattern.rolls-Wild s)) ∙ ap arg_pattern_span_by (out-roll-ArgPattern (ArgPattern-F.Wild s))

pub arg_pattern_con : (g : GenCon) → arg_pattern_span (v_ArgPattern.Con g) ≡ gen_con_span g
unfolding arg_pattern_span
arg_pattern_con g = ap arg_pattern_span (sym (v_ArgPattern.rolls-Con g)) ∙ ap arg_pattern_span_by (out-roll-ArgPattern (ArgPattern-F.ArgPattern::Con g))

pub arg_pattern_int : (s : Span) (n : ℕ) → arg_pattern_span (v_ArgPattern.Int s n) ≡ s
unfolding arg_pattern_span
arg_pattern_int s n = ap arg_pattern_span (sym (v_ArgPattern.rolls-Int s n)) ∙ ap arg_pattern_span_by (out-roll-ArgPattern (ArgPattern-F.Int s n))

pub arg_pattern_char : (s : Span) (n : ℕ) → arg_pattern_span (v_ArgPattern.Char s n) ≡ s
unfolding arg_pattern_span
arg_pattern_char s n = ap arg_pattern_span (sym (v_ArgPattern.rolls-Char s n)) ∙ ap arg_pattern_span_by (out-roll-ArgPattern (ArgPattern-F.Char s n))

pub arg_pattern_str : (s : Span) (cs : List ℕ) → arg_pattern_span (v_ArgPattern.Str s cs) ≡ s
unfolding arg_pattern_span
arg_pattern_str s cs = ap arg_pattern_span (sym (v_ArgPattern.rolls-Str s cs)) ∙ ap arg_pattern_span_by (out-roll-ArgPattern (ArgPattern-F.Str s cs))

pub arg_pattern_paren : (s : Span) (p : Pattern) → arg_pattern_span (v_ArgPattern.Paren s p) ≡ s
unfolding arg_pattern_span
arg_pattern_paren s p = ap arg_pattern_span (sym (v_ArgPattern.rolls-Paren s p)) ∙ ap arg_pattern_span_by (out-roll-ArgPattern (ArgPattern-F.Paren s p))

pub arg_pattern_tuple : (s : Span) (ps : List Pattern) → arg_pattern_span (v_ArgPattern.Tuple s ps) ≡ s
unfolding arg_pattern_span
arg_pattern_tuple s ps = ap arg_pattern_span (sym (v_ArgPattern.rolls-Tuple s ps)) ∙ ap arg_pattern_span_by (out-roll-ArgPattern (ArgPattern-F.Tuple s ps))

pub arg_pattern_list : (s : Span) (ps : List Pattern) → arg_pattern_span (v_ArgPattern.List s ps) ≡ s
unfolding arg_pattern_span
arg_pattern_list s ps = ap arg_pattern_span (sym (v_ArgPattern.rolls-List s ps)) ∙ ap arg_pattern_span_by (out-roll-ArgPattern (ArgPattern-F.List s ps))

pub pat_operand_negative : (s : Span) (n : ℕ) → pat_operand_span (v_PatOperand.Negative s n) ≡ s
unfolding pat_operand_span
pat_operand_negative s n = ap pat_operand_span (sym (v_PatOperand.rolls-Negative s n)) ∙ ap pat_operand_span_by (out-roll-PatOperand (PatOperand-F.Negative s n))

pub pat_operand_arg : (p : ArgPattern) → pat_operand_span (v_PatOperand.Arg p) ≡ arg_pattern_span p
unfolding pat_operand_span
pat_operand_arg p = ap pat_operand_span (sym (v_PatOperand.rolls-Arg p)) ∙ ap pat_operand_span_by (out-roll-PatOperand (PatOperand-F.Arg p))

pub pat_operand_con : (s : Span) (g : GenCon) (ps : List ArgPattern) → pat_operand_span (v_PatOperand.Con s g ps) ≡ s
unfolding pat_operand_span
pat_operand_con s g ps = ap pat_operand_span (sym (v_PatOperand.rolls-Con s g ps)) ∙ ap pat_operand_span_by (out-roll-PatOperand (PatOperand-F.PatOperand::Con s g ps))

pub pattern_listed : (s : Span) (x : PatOperand) (ns : List NextPattern) → pattern_span (v_Pattern.Listed s x ns) ≡ s
unfolding pattern_span
pattern_listed s x ns = ap pattern_span (sym (v_Pattern.rolls-Listed s x ns)) ∙ ap pattern_span_by (out-roll-Pattern (Pattern-F.Listed s x ns))

pub pattern_infix : (s : Span) (a : Pattern) (o : Occurrence) (b : Pattern) → pattern_span (v_Pattern.Infix s a o b) ≡ s
unfolding pattern_span
pattern_infix s a o b = ap pattern_span (sym (v_Pattern.rolls-Infix s a o b)) ∙ ap pattern_span_by (out-roll-Pattern (Pattern-F.Infix s a o b))
