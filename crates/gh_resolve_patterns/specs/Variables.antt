-- The variables of a pattern, as binders, in their order and each as often as it stands there (Haskell 98 Report, 3.17).
use Rattle.std.specs.Prelude.{List, [], ◌∷◌, ◌++◌}
use Rattle.gh_tree.specs.declared.patterns.ArgPattern.{ArgPattern, fold-ArgPattern}
use Rattle.gh_tree.specs.declared.patterns.PatOperand.{PatOperand, fold-PatOperand}
use Rattle.gh_tree.specs.declared.patterns.NextPattern.{NextPattern, fold-NextPattern}
use Rattle.gh_tree.specs.declared.patterns.PatPart.{PatPart, fold-PatPart}
use Rattle.gh_tree.specs.declared.patterns.Pattern.{Pattern, fold-Pattern}
use Rattle.gh_tree.specs.declared.patterns.ArgPattern.TheOpen.{ArgPattern-F, PatOperand-F, NextPattern-F, PatPart-F, Pattern-F}
use Rattle.gh_resolve_names.specs.Misuses.{joined}
use Rattle.gh_resolve_names.specs.Standing.{Bound, binder}
use Rattle.gh_resolve_names.specs.Written.{used_var}

abbrev pub arg_vars_step : ArgPattern-F Bound Bound Bound Bound Bound → Bound
arg_vars_step (ArgPattern-F.Var v) = binder (used_var v) ∷ []
arg_vars_step (ArgPattern-F.As s v a p) = binder (used_var v) ∷ p
arg_vars_step (ArgPattern-F.Wild s) = []
arg_vars_step (ArgPattern-F.ArgPattern::Con g) = []
arg_vars_step (ArgPattern-F.Int s n) = []
arg_vars_step (ArgPattern-F.Char s n) = []
arg_vars_step (ArgPattern-F.Str s cs) = []
arg_vars_step (ArgPattern-F.Paren s a p b) = p
arg_vars_step (ArgPattern-F.Tuple s a p ps b) = p ++ joined ps
arg_vars_step (ArgPattern-F.List s a p ps b) = p ++ joined ps

abbrev pub operand_vars_step : PatOperand-F Bound Bound Bound Bound Bound → Bound
operand_vars_step (PatOperand-F.Negative s a b n) = []
operand_vars_step (PatOperand-F.Arg p) = p
operand_vars_step (PatOperand-F.PatOperand::Con s g p ps) = p ++ joined ps

abbrev pub next_vars_step : NextPattern-F Bound Bound Bound Bound Bound → Bound
next_vars_step x = x.operand

abbrev pub part_vars_step : PatPart-F Bound Bound Bound Bound Bound → Bound
part_vars_step x = x.part

abbrev pub pattern_vars_step : Pattern-F Bound Bound Bound Bound Bound → Bound
pattern_vars_step x = x.first ++ joined x.others

unfoldable pub arg_vars_of : ArgPattern → Bound
arg_vars_of = fold-ArgPattern Bound Bound Bound Bound Bound arg_vars_step operand_vars_step next_vars_step part_vars_step pattern_vars_step

unfoldable pub operand_vars_of : PatOperand → Bound
operand_vars_of = fold-PatOperand Bound Bound Bound Bound Bound arg_vars_step operand_vars_step next_vars_step part_vars_step pattern_vars_step

unfoldable pub next_vars_of : NextPattern → Bound
next_vars_of = fold-NextPattern Bound Bound Bound Bound Bound arg_vars_step operand_vars_step next_vars_step part_vars_step pattern_vars_step

unfoldable pub part_vars_of : PatPart → Bound
part_vars_of = fold-PatPart Bound Bound Bound Bound Bound arg_vars_step operand_vars_step next_vars_step part_vars_step pattern_vars_step

unfoldable pub pattern_vars_of : Pattern → Bound
pattern_vars_of = fold-Pattern Bound Bound Bound Bound Bound arg_vars_step operand_vars_step next_vars_step part_vars_step pattern_vars_step
