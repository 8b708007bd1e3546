-- The bytes of patterns, and of patterns with operators between them.
use Rattle.std.specs.Prelude.{List, [], ◌∷◌}
use Rattle.gh_base.specs.declared.place.Span.{Span}
use Rattle.gh_tree.specs.declared.names.GenCon.{GenCon}
use Rattle.gh_tree.specs.declared.names.GenCon.TheVariants as gen_con
use Rattle.gh_tree.specs.declared.patterns.ArgPattern.{ArgPattern, out-ArgPattern}
use Rattle.gh_tree.specs.declared.patterns.PatOperand.{PatOperand, out-PatOperand}
use Rattle.gh_tree.specs.declared.patterns.NextPattern.{NextPattern, out-NextPattern}
use Rattle.gh_tree.specs.declared.patterns.PatPart.{PatPart}
use Rattle.gh_tree.specs.declared.patterns.Pattern.{Pattern}
use Rattle.gh_tree.specs.declared.patterns.ArgPattern.TheOpen.{ArgPattern-F, PatOperand-F}
use Rattle.gh_resolve_names.specs.Written.{used_con, used_var}

abbrev pub con_span : GenCon → Span
con_span (gen_con.Con n) = (used_con n).span
con_span (gen_con.Unit s a b) = s
con_span (gen_con.Nil s a b) = s
con_span (gen_con.Tuple s a ms b) = s

abbrev pub arg_span_by : ArgPattern-F ArgPattern PatOperand NextPattern PatPart Pattern → Span
arg_span_by (ArgPattern-F.Var v) = (used_var v).span
arg_span_by (ArgPattern-F.As s v a p) = s
arg_span_by (ArgPattern-F.Wild s) = s
arg_span_by (ArgPattern-F.ArgPattern::Con g) = con_span g
arg_span_by (ArgPattern-F.Int s n) = s
arg_span_by (ArgPattern-F.Char s n) = s
arg_span_by (ArgPattern-F.Str s cs) = s
arg_span_by (ArgPattern-F.Paren s a p b) = s
arg_span_by (ArgPattern-F.Tuple s a p ps b) = s
arg_span_by (ArgPattern-F.List s a p ps b) = s

unfoldable pub arg_span : ArgPattern → Span
arg_span x = arg_span_by (out-ArgPattern x)

abbrev pub operand_span_by : PatOperand-F ArgPattern PatOperand NextPattern PatPart Pattern → Span
operand_span_by (PatOperand-F.Negative s a b n) = s
operand_span_by (PatOperand-F.Arg p) = arg_span p
operand_span_by (PatOperand-F.PatOperand::Con s g p ps) = s

unfoldable pub operand_span : PatOperand → Span
operand_span x = operand_span_by (out-PatOperand x)

-- the bytes of the last operand
abbrev pub last_span : Span → List NextPattern → Span
last_span s [] = s
last_span s (n ∷ ns) = last_span (operand_span (out-NextPattern n).operand) ns

abbrev pub from_to : Span → Span → Span
from_to a b = record { file = a.file; from = a.from; to = b.to }

-- from the first operand to the last
abbrev pub list_span : PatOperand → List NextPattern → Span
list_span p ns = from_to (operand_span p) (last_span (operand_span p) ns)
