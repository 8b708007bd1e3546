-- The bytes of patterns, variant by variant.
use Rattle.std.proofs.Common.{◌≡◌, ℕ, List, sym, ap, ◌∙◌}
use Rattle.gh_base.specs.declared.place.Span.{Span}
use Rattle.gh_tree.specs.declared.names.Var.{Var}
use Rattle.gh_tree.specs.declared.names.GenCon.{GenCon}
use Rattle.gh_tree.specs.declared.patterns.ArgPattern.{ArgPattern, out-roll-ArgPattern}
use Rattle.gh_tree.specs.declared.patterns.ArgPattern.TheVariants as v_ArgPattern
use Rattle.gh_tree.specs.declared.patterns.PatOperand.{PatOperand, out-roll-PatOperand}
use Rattle.gh_tree.specs.declared.patterns.PatOperand.TheVariants as v_PatOperand
use Rattle.gh_tree.specs.declared.patterns.PatPart.{PatPart}
use Rattle.gh_tree.specs.declared.patterns.Pattern.{Pattern}
use Rattle.gh_tree.specs.declared.patterns.ArgPattern.TheOpen.{ArgPattern-F, PatOperand-F}
use Rattle.gh_resolve_names.specs.Written.{used_var}
use Rattle.gh_resolve_patterns.specs.Spans.{con_span, arg_span, arg_span_by, operand_span, operand_span_by}

pub arg_span_var : (v : Var) → arg_span (v_ArgPattern.Var v) ≡ (used_var v).span
unfolding arg_span
arg_span_var v = ap arg_span (sym (v_ArgPattern.rolls-Var v)) ∙ ap arg_span_by (out-roll-ArgPattern (ArgPattern-F.Var v))

pub arg_span_as : (s : Span) (v : Var) (a : Span) (p : ArgPattern) → arg_span (v_ArgPattern.As s v a p) ≡ s
unfolding arg_span
arg_span_as s v a p = ap arg_span (sym (v_ArgPattern.rolls-As s v a p)) ∙ ap arg_span_by (out-roll-ArgPattern (ArgPattern-F.As s v a p))

pub arg_span_wild : (s : Span) → arg_span (v_ArgPattern.Wild s) ≡ s
unfolding arg_span
arg_span_wild s = ap arg_span (sym (v_ArgPattern.rolls-Wild s)) ∙ ap arg_span_by (out-roll-ArgPattern (ArgPattern-F.Wild s))

pub arg_span_con : (g : GenCon) → arg_span (v_ArgPattern.Con g) ≡ con_span g
unfolding arg_span
arg_span_con g = ap arg_span (sym (v_ArgPattern.rolls-Con g)) ∙ ap arg_span_by (out-roll-ArgPattern (ArgPattern-F.ArgPattern::Con g))

pub arg_span_int : (s : Span) (n : ℕ) → arg_span (v_ArgPattern.Int s n) ≡ s
unfolding arg_span
arg_span_int s n = ap arg_span (sym (v_ArgPattern.rolls-Int s n)) ∙ ap arg_span_by (out-roll-ArgPattern (ArgPattern-F.Int s n))

pub arg_span_char : (s : Span) (n : ℕ) → arg_span (v_ArgPattern.Char s n) ≡ s
unfolding arg_span
arg_span_char s n = ap arg_span (sym (v_ArgPattern.rolls-Char s n)) ∙ ap arg_span_by (out-roll-ArgPattern (ArgPattern-F.Char s n))

pub arg_span_str : (s : Span) (cs : List ℕ) → arg_span (v_ArgPattern.Str s cs) ≡ s
unfolding arg_span
arg_span_str s cs = ap arg_span (sym (v_ArgPattern.rolls-Str s cs)) ∙ ap arg_span_by (out-roll-ArgPattern (ArgPattern-F.Str s cs))

pub arg_span_paren : (s : Span) (a : Span) (p : Pattern) (b : Span) → arg_span (v_ArgPattern.Paren s a p b) ≡ s
unfolding arg_span
arg_span_paren s a p b = ap arg_span (sym (v_ArgPattern.rolls-Paren s a p b)) ∙ ap arg_span_by (out-roll-ArgPattern (ArgPattern-F.Paren s a p b))

pub arg_span_tuple : (s : Span) (a : Span) (p : Pattern) (ps : List PatPart) (b : Span) → arg_span (v_ArgPattern.Tuple s a p ps b) ≡ s
unfolding arg_span
arg_span_tuple s a p ps b = ap arg_span (sym (v_ArgPattern.rolls-Tuple s a p ps b)) ∙ ap arg_span_by (out-roll-ArgPattern (ArgPattern-F.Tuple s a p ps b))

pub arg_span_list : (s : Span) (a : Span) (p : Pattern) (ps : List PatPart) (b : Span) → arg_span (v_ArgPattern.List s a p ps b) ≡ s
unfolding arg_span
arg_span_list s a p ps b = ap arg_span (sym (v_ArgPattern.rolls-List s a p ps b)) ∙ ap arg_span_by (out-roll-ArgPattern (ArgPattern-F.List s a p ps b))

pub operand_span_negative : (s : Span) (a : Span) (b : Span) (n : ℕ) → operand_span (v_PatOperand.Negative s a b n) ≡ s
unfolding operand_span
operand_span_negative s a b n = ap operand_span (sym (v_PatOperand.rolls-Negative s a b n)) ∙ ap operand_span_by (out-roll-PatOperand (PatOperand-F.Negative s a b n))

pub operand_span_arg : (p : ArgPattern) → operand_span (v_PatOperand.Arg p) ≡ arg_span p
unfolding operand_span
operand_span_arg p = ap operand_span (sym (v_PatOperand.rolls-Arg p)) ∙ ap operand_span_by (out-roll-PatOperand (PatOperand-F.Arg p))

pub operand_span_con : (s : Span) (g : GenCon) (p : ArgPattern) (ps : List ArgPattern) → operand_span (v_PatOperand.Con s g p ps) ≡ s
unfolding operand_span
operand_span_con s g p ps = ap operand_span (sym (v_PatOperand.rolls-Con s g p ps)) ∙ ap operand_span_by (out-roll-PatOperand (PatOperand-F.PatOperand::Con s g p ps))
