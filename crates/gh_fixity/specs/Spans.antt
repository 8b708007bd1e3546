-- The bytes of nodes: from the first to the last of their own.
use Rattle.gh_base.specs.declared.place.Span.{Span}
use Rattle.gh_program.specs.declared.names.GenCon.{GenCon}
use Rattle.gh_program.specs.declared.names.GenCon.TheVariants as v_GenCon
use Rattle.gh_program.specs.declared.expressions.Aexp.{Aexp}
use Rattle.gh_program.specs.declared.expressions.Alt.{Alt}
use Rattle.gh_program.specs.declared.expressions.Decl.{Decl}
use Rattle.gh_program.specs.declared.expressions.Exp.{Exp}
use Rattle.gh_program.specs.declared.expressions.Locals.{Locals}
use Rattle.gh_program.specs.declared.expressions.Open.{Open, out-Open}
use Rattle.gh_program.specs.declared.expressions.Operand.{Operand, out-Operand}
use Rattle.gh_program.specs.declared.expressions.Operands.{Operands, out-Operands}
use Rattle.gh_program.specs.declared.expressions.Rhs.{Rhs}
use Rattle.gh_program.specs.declared.expressions.Guard.{Guard}
use Rattle.gh_program.specs.declared.expressions.NextOperand.{NextOperand}
use Rattle.gh_program.specs.declared.expressions.Redef.{Redef}
use Rattle.gh_program.specs.declared.expressions.Aexp.TheOpen.{Operand-F, Operands-F, Open-F}
use Rattle.gh_program.specs.declared.patterns.ArgPattern.{ArgPattern, out-ArgPattern}
use Rattle.gh_program.specs.declared.patterns.PatOperand.{PatOperand, out-PatOperand}
use Rattle.gh_program.specs.declared.patterns.Pattern.{Pattern, out-Pattern}
use Rattle.gh_program.specs.declared.patterns.NextPattern.{NextPattern}
use Rattle.gh_program.specs.declared.patterns.ArgPattern.TheOpen.{ArgPattern-F, PatOperand-F, Pattern-F}

abbrev pub gen_con_span : GenCon → Span
gen_con_span (v_GenCon.Con o) = o.span
gen_con_span (v_GenCon.Unit s) = s
gen_con_span (v_GenCon.Nil s) = s
gen_con_span (v_GenCon.Tuple s n) = s

abbrev pub open_span_by : Open-F Aexp Alt Decl Exp Locals Open Operand Operands Rhs Guard NextOperand Redef → Span
open_span_by (Open-F.Lambda s ps x) = s
open_span_by (Open-F.Let s d x) = s
open_span_by (Open-F.If s x y z) = s

unfoldable pub open_span : Open → Span
open_span x = open_span_by (out-Open x)

abbrev pub operand_span_by : Operand-F Aexp Alt Decl Exp Locals Open Operand Operands Rhs Guard NextOperand Redef → Span
operand_span_by (Operand-F.Apply s x xs) = s
operand_span_by (Operand-F.Case s x qs) = s
operand_span_by (Operand-F.Open x) = open_span x

unfoldable pub operand_span : Operand → Span
operand_span x = operand_span_by (out-Operand x)

abbrev pub operands_span_by : Operands-F Aexp Alt Decl Exp Locals Open Operand Operands Rhs Guard NextOperand Redef → Span
operands_span_by (Operands-F.Listed s m x ns) = s
operands_span_by (Operands-F.Infix s a o b) = s
operands_span_by (Operands-F.Negate s m a) = s

unfoldable pub operands_span : Operands → Span
operands_span x = operands_span_by (out-Operands x)

abbrev pub arg_pattern_span_by : ArgPattern-F ArgPattern PatOperand Pattern NextPattern → Span
arg_pattern_span_by (ArgPattern-F.Var o) = o.span
arg_pattern_span_by (ArgPattern-F.As s o p) = s
arg_pattern_span_by (ArgPattern-F.Wild s) = s
arg_pattern_span_by (ArgPattern-F.ArgPattern::Con g) = gen_con_span g
arg_pattern_span_by (ArgPattern-F.Int s n) = s
arg_pattern_span_by (ArgPattern-F.Char s n) = s
arg_pattern_span_by (ArgPattern-F.Str s cs) = s
arg_pattern_span_by (ArgPattern-F.Paren s p) = s
arg_pattern_span_by (ArgPattern-F.Tuple s ps) = s
arg_pattern_span_by (ArgPattern-F.List s ps) = s

unfoldable pub arg_pattern_span : ArgPattern → Span
arg_pattern_span x = arg_pattern_span_by (out-ArgPattern x)

abbrev pub pat_operand_span_by : PatOperand-F ArgPattern PatOperand Pattern NextPattern → Span
pat_operand_span_by (PatOperand-F.Negative s n) = s
pat_operand_span_by (PatOperand-F.Arg p) = arg_pattern_span p
pat_operand_span_by (PatOperand-F.PatOperand::Con s g ps) = s

unfoldable pub pat_operand_span : PatOperand → Span
pat_operand_span x = pat_operand_span_by (out-PatOperand x)

abbrev pub pattern_span_by : Pattern-F ArgPattern PatOperand Pattern NextPattern → Span
pattern_span_by (Pattern-F.Listed s x ns) = s
pattern_span_by (Pattern-F.Infix s a o b) = s

unfoldable pub pattern_span : Pattern → Span
pattern_span x = pattern_span_by (out-Pattern x)
