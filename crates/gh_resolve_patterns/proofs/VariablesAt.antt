-- The variables of patterns, variant by variant.
use Rattle.std.proofs.Common.{◌≡◌, ℕ, List, [], ◌∷◌, ◌++◌, map, sym, ap, ◌∙◌}
use Rattle.gh_base.specs.declared.place.Span.{Span}
use Rattle.gh_tree.specs.declared.names.Var.{Var}
use Rattle.gh_tree.specs.declared.names.GenCon.{GenCon}
use Rattle.gh_tree.specs.declared.patterns.ArgPattern.{ArgPattern, fold-roll-ArgPattern}
use Rattle.gh_tree.specs.declared.patterns.ArgPattern.TheVariants as v_ArgPattern
use Rattle.gh_tree.specs.declared.patterns.PatOperand.{PatOperand, fold-roll-PatOperand}
use Rattle.gh_tree.specs.declared.patterns.PatOperand.TheVariants as v_PatOperand
use Rattle.gh_tree.specs.declared.patterns.NextPattern.{NextPattern, out-NextPattern, fold_out-NextPattern}
use Rattle.gh_tree.specs.declared.patterns.PatPart.{PatPart, out-PatPart, fold_out-PatPart}
use Rattle.gh_tree.specs.declared.patterns.Pattern.{Pattern, out-Pattern, fold_out-Pattern}
use Rattle.gh_tree.specs.declared.patterns.ArgPattern.TheOpen.{ArgPattern-F, PatOperand-F}
use Rattle.gh_resolve_names.specs.Misuses.{joined}
use Rattle.gh_resolve_names.specs.Standing.{Bound, binder}
use Rattle.gh_resolve_names.specs.Written.{used_var}
use Rattle.gh_resolve_patterns.specs.Variables.{arg_vars_of, operand_vars_of, next_vars_of, part_vars_of, pattern_vars_of, arg_vars_step, operand_vars_step, next_vars_step, part_vars_step, pattern_vars_step}

pub arg_vars_var : (v : Var) → arg_vars_of (v_ArgPattern.Var v) ≡ binder (used_var v) ∷ []
unfolding arg_vars_of operand_vars_of next_vars_of part_vars_of pattern_vars_of
arg_vars_var v = ap (arg_vars_of) (sym (v_ArgPattern.rolls-Var v)) ∙ fold-roll-ArgPattern Bound Bound Bound Bound Bound arg_vars_step operand_vars_step next_vars_step part_vars_step pattern_vars_step (ArgPattern-F.Var v)

pub arg_vars_as : (s : Span) (v : Var) (a : Span) (p : ArgPattern) → arg_vars_of (v_ArgPattern.As s v a p) ≡ binder (used_var v) ∷ (arg_vars_of p)
unfolding arg_vars_of operand_vars_of next_vars_of part_vars_of pattern_vars_of
arg_vars_as s v a p = ap (arg_vars_of) (sym (v_ArgPattern.rolls-As s v a p)) ∙ fold-roll-ArgPattern Bound Bound Bound Bound Bound arg_vars_step operand_vars_step next_vars_step part_vars_step pattern_vars_step (ArgPattern-F.As s v a p)

pub arg_vars_wild : (s : Span) → arg_vars_of (v_ArgPattern.Wild s) ≡ []
unfolding arg_vars_of operand_vars_of next_vars_of part_vars_of pattern_vars_of
arg_vars_wild s = ap (arg_vars_of) (sym (v_ArgPattern.rolls-Wild s)) ∙ fold-roll-ArgPattern Bound Bound Bound Bound Bound arg_vars_step operand_vars_step next_vars_step part_vars_step pattern_vars_step (ArgPattern-F.Wild s)

pub arg_vars_con : (g : GenCon) → arg_vars_of (v_ArgPattern.Con g) ≡ []
unfolding arg_vars_of operand_vars_of next_vars_of part_vars_of pattern_vars_of
arg_vars_con g = ap (arg_vars_of) (sym (v_ArgPattern.rolls-Con g)) ∙ fold-roll-ArgPattern Bound Bound Bound Bound Bound arg_vars_step operand_vars_step next_vars_step part_vars_step pattern_vars_step (ArgPattern-F.ArgPattern::Con g)

pub arg_vars_int : (s : Span) (n : ℕ) → arg_vars_of (v_ArgPattern.Int s n) ≡ []
unfolding arg_vars_of operand_vars_of next_vars_of part_vars_of pattern_vars_of
arg_vars_int s n = ap (arg_vars_of) (sym (v_ArgPattern.rolls-Int s n)) ∙ fold-roll-ArgPattern Bound Bound Bound Bound Bound arg_vars_step operand_vars_step next_vars_step part_vars_step pattern_vars_step (ArgPattern-F.Int s n)

pub arg_vars_char : (s : Span) (n : ℕ) → arg_vars_of (v_ArgPattern.Char s n) ≡ []
unfolding arg_vars_of operand_vars_of next_vars_of part_vars_of pattern_vars_of
arg_vars_char s n = ap (arg_vars_of) (sym (v_ArgPattern.rolls-Char s n)) ∙ fold-roll-ArgPattern Bound Bound Bound Bound Bound arg_vars_step operand_vars_step next_vars_step part_vars_step pattern_vars_step (ArgPattern-F.Char s n)

pub arg_vars_str : (s : Span) (cs : List ℕ) → arg_vars_of (v_ArgPattern.Str s cs) ≡ []
unfolding arg_vars_of operand_vars_of next_vars_of part_vars_of pattern_vars_of
arg_vars_str s cs = ap (arg_vars_of) (sym (v_ArgPattern.rolls-Str s cs)) ∙ fold-roll-ArgPattern Bound Bound Bound Bound Bound arg_vars_step operand_vars_step next_vars_step part_vars_step pattern_vars_step (ArgPattern-F.Str s cs)

pub arg_vars_paren : (s : Span) (a : Span) (p : Pattern) (b : Span) → arg_vars_of (v_ArgPattern.Paren s a p b) ≡ (pattern_vars_of p)
unfolding arg_vars_of operand_vars_of next_vars_of part_vars_of pattern_vars_of
arg_vars_paren s a p b = ap (arg_vars_of) (sym (v_ArgPattern.rolls-Paren s a p b)) ∙ fold-roll-ArgPattern Bound Bound Bound Bound Bound arg_vars_step operand_vars_step next_vars_step part_vars_step pattern_vars_step (ArgPattern-F.Paren s a p b)

pub arg_vars_tuple : (s : Span) (a : Span) (p : Pattern) (ps : List PatPart) (b : Span) → arg_vars_of (v_ArgPattern.Tuple s a p ps b) ≡ (pattern_vars_of p) ++ joined (map (part_vars_of) ps)
unfolding arg_vars_of operand_vars_of next_vars_of part_vars_of pattern_vars_of
arg_vars_tuple s a p ps b = ap (arg_vars_of) (sym (v_ArgPattern.rolls-Tuple s a p ps b)) ∙ fold-roll-ArgPattern Bound Bound Bound Bound Bound arg_vars_step operand_vars_step next_vars_step part_vars_step pattern_vars_step (ArgPattern-F.Tuple s a p ps b)

pub arg_vars_list : (s : Span) (a : Span) (p : Pattern) (ps : List PatPart) (b : Span) → arg_vars_of (v_ArgPattern.List s a p ps b) ≡ (pattern_vars_of p) ++ joined (map (part_vars_of) ps)
unfolding arg_vars_of operand_vars_of next_vars_of part_vars_of pattern_vars_of
arg_vars_list s a p ps b = ap (arg_vars_of) (sym (v_ArgPattern.rolls-List s a p ps b)) ∙ fold-roll-ArgPattern Bound Bound Bound Bound Bound arg_vars_step operand_vars_step next_vars_step part_vars_step pattern_vars_step (ArgPattern-F.List s a p ps b)

pub operand_vars_negative : (s : Span) (a : Span) (b : Span) (n : ℕ) → operand_vars_of (v_PatOperand.Negative s a b n) ≡ []
unfolding arg_vars_of operand_vars_of next_vars_of part_vars_of pattern_vars_of
operand_vars_negative s a b n = ap (operand_vars_of) (sym (v_PatOperand.rolls-Negative s a b n)) ∙ fold-roll-PatOperand Bound Bound Bound Bound Bound arg_vars_step operand_vars_step next_vars_step part_vars_step pattern_vars_step (PatOperand-F.Negative s a b n)

pub operand_vars_arg : (p : ArgPattern) → operand_vars_of (v_PatOperand.Arg p) ≡ (arg_vars_of p)
unfolding arg_vars_of operand_vars_of next_vars_of part_vars_of pattern_vars_of
operand_vars_arg p = ap (operand_vars_of) (sym (v_PatOperand.rolls-Arg p)) ∙ fold-roll-PatOperand Bound Bound Bound Bound Bound arg_vars_step operand_vars_step next_vars_step part_vars_step pattern_vars_step (PatOperand-F.Arg p)

pub operand_vars_con : (s : Span) (g : GenCon) (p : ArgPattern) (ps : List ArgPattern) → operand_vars_of (v_PatOperand.Con s g p ps) ≡ (arg_vars_of p) ++ joined (map (arg_vars_of) ps)
unfolding arg_vars_of operand_vars_of next_vars_of part_vars_of pattern_vars_of
operand_vars_con s g p ps = ap (operand_vars_of) (sym (v_PatOperand.rolls-Con s g p ps)) ∙ fold-roll-PatOperand Bound Bound Bound Bound Bound arg_vars_step operand_vars_step next_vars_step part_vars_step pattern_vars_step (PatOperand-F.PatOperand::Con s g p ps)

pub next_vars_at : (x : NextPattern) → next_vars_of x ≡ (operand_vars_of (out-NextPattern x).operand)
unfolding arg_vars_of operand_vars_of next_vars_of part_vars_of pattern_vars_of
next_vars_at x = fold_out-NextPattern Bound Bound Bound Bound Bound arg_vars_step operand_vars_step next_vars_step part_vars_step pattern_vars_step x

pub part_vars_at : (x : PatPart) → part_vars_of x ≡ (pattern_vars_of (out-PatPart x).part)
unfolding arg_vars_of operand_vars_of next_vars_of part_vars_of pattern_vars_of
part_vars_at x = fold_out-PatPart Bound Bound Bound Bound Bound arg_vars_step operand_vars_step next_vars_step part_vars_step pattern_vars_step x

pub pattern_vars_at : (x : Pattern) → pattern_vars_of x ≡ (operand_vars_of (out-Pattern x).first) ++ joined (map (next_vars_of) (out-Pattern x).others)
unfolding arg_vars_of operand_vars_of next_vars_of part_vars_of pattern_vars_of
pattern_vars_at x = fold_out-Pattern Bound Bound Bound Bound Bound arg_vars_step operand_vars_step next_vars_step part_vars_step pattern_vars_step x
