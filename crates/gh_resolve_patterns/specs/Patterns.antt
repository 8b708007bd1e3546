-- Patterns with their names resolved, production by production: the same pattern without its marks, where a variable stands for
-- its binder, and a constructor for the one origin in scope, with as many fields as its declaration (Haskell 98 Report, 3.17.1).
use Rattle.std.specs.Prelude.{suc, length, List, [], ◌∷◌, ◌++◌, Some}
use Rattle.gh_tree.specs.declared.patterns.ArgPattern.{ArgPattern, fold-ArgPattern}
use Rattle.gh_tree.specs.declared.patterns.PatOperand.{PatOperand, fold-PatOperand}
use Rattle.gh_tree.specs.declared.patterns.NextPattern.{NextPattern, fold-NextPattern}
use Rattle.gh_tree.specs.declared.patterns.PatPart.{PatPart, fold-PatPart}
use Rattle.gh_tree.specs.declared.patterns.Pattern.{Pattern, fold-Pattern}
use Rattle.gh_tree.specs.declared.patterns.ArgPattern.TheOpen.{ArgPattern-F, PatOperand-F, NextPattern-F, PatPart-F, Pattern-F}
use Rattle.gh_program.specs.declared.patterns.ArgPattern as made_arg
use Rattle.gh_program.specs.declared.patterns.ArgPattern.TheVariants as arg
use Rattle.gh_program.specs.declared.patterns.PatOperand as made_operand
use Rattle.gh_program.specs.declared.patterns.PatOperand.TheVariants as operand
use Rattle.gh_program.specs.declared.patterns.NextPattern as made_next
use Rattle.gh_program.specs.declared.patterns.NextPattern.{roll-NextPattern}
use Rattle.gh_program.specs.declared.patterns.Pattern as made_pattern
use Rattle.gh_program.specs.declared.patterns.Pattern.TheVariants as pat
use Rattle.gh_resolve_names.specs.declared.context.Context.{Context}
use Rattle.gh_resolve_names.specs.Misuses.{Walk, trees, all_misuses}
use Rattle.gh_resolve_names.specs.Standing.{Bound, bound_name, constructor_operator_use, general_use}
use Rattle.gh_resolve_names.specs.Written.{used_var}

abbrev pub arg_pattern_step : Context → ArgPattern-F (Walk Bound (made_arg.ArgPattern)) (Walk Bound (made_operand.PatOperand)) (Walk Bound (made_next.NextPattern)) (Walk Bound (made_pattern.Pattern)) (Walk Bound (made_pattern.Pattern)) → Walk Bound (made_arg.ArgPattern)
arg_pattern_step c (ArgPattern-F.Var v) = λ l. record { tree = arg.Var (bound_name c l (used_var v)); misuses = [] }
arg_pattern_step c (ArgPattern-F.As s v a p) = λ l. record { tree = arg.As s (bound_name c l (used_var v)) (p l).tree; misuses = (p l).misuses }
arg_pattern_step c (ArgPattern-F.Wild s) = λ l. record { tree = arg.Wild s; misuses = [] }
arg_pattern_step c (ArgPattern-F.ArgPattern::Con g) = λ l. record { tree = arg.Con (general_use c (Some 0) g).tree; misuses = (general_use c (Some 0) g).misuses }
arg_pattern_step c (ArgPattern-F.Int s n) = λ l. record { tree = arg.Int s n; misuses = [] }
arg_pattern_step c (ArgPattern-F.Char s n) = λ l. record { tree = arg.Char s n; misuses = [] }
arg_pattern_step c (ArgPattern-F.Str s cs) = λ l. record { tree = arg.Str s cs; misuses = [] }
arg_pattern_step c (ArgPattern-F.Paren s a p b) = λ l. record { tree = arg.Paren s (p l).tree; misuses = (p l).misuses }
arg_pattern_step c (ArgPattern-F.Tuple s a p ps b) = λ l. record { tree = arg.Tuple s ((p l).tree ∷ trees l ps); misuses = (p l).misuses ++ all_misuses l ps }
arg_pattern_step c (ArgPattern-F.List s a p ps b) = λ l. record { tree = arg.List s ((p l).tree ∷ trees l ps); misuses = (p l).misuses ++ all_misuses l ps }

abbrev pub pat_operand_step : Context → PatOperand-F (Walk Bound (made_arg.ArgPattern)) (Walk Bound (made_operand.PatOperand)) (Walk Bound (made_next.NextPattern)) (Walk Bound (made_pattern.Pattern)) (Walk Bound (made_pattern.Pattern)) → Walk Bound (made_operand.PatOperand)
pat_operand_step c (PatOperand-F.Negative s a b n) = λ l. record { tree = operand.Negative s n; misuses = [] }
pat_operand_step c (PatOperand-F.Arg p) = λ l. record { tree = operand.Arg (p l).tree; misuses = (p l).misuses }
pat_operand_step c (PatOperand-F.PatOperand::Con s g p ps) = λ l. record { tree = operand.Con s (general_use c (Some (suc (length ps))) g).tree ((p l).tree ∷ trees l ps); misuses = (general_use c (Some (suc (length ps))) g).misuses ++ ((p l).misuses ++ all_misuses l ps) }

abbrev pub next_pattern_step : Context → NextPattern-F (Walk Bound (made_arg.ArgPattern)) (Walk Bound (made_operand.PatOperand)) (Walk Bound (made_next.NextPattern)) (Walk Bound (made_pattern.Pattern)) (Walk Bound (made_pattern.Pattern)) → Walk Bound (made_next.NextPattern)
next_pattern_step c x = λ l. record { tree = roll-NextPattern (record { op = (constructor_operator_use c (Some 2) x.op).tree; operand = (x.operand l).tree }); misuses = (constructor_operator_use c (Some 2) x.op).misuses ++ (x.operand l).misuses }

abbrev pub pat_part_step : Context → PatPart-F (Walk Bound (made_arg.ArgPattern)) (Walk Bound (made_operand.PatOperand)) (Walk Bound (made_next.NextPattern)) (Walk Bound (made_pattern.Pattern)) (Walk Bound (made_pattern.Pattern)) → Walk Bound (made_pattern.Pattern)
pat_part_step c x = λ l. record { tree = (x.part l).tree; misuses = (x.part l).misuses }

abbrev pub pattern_step : Context → Pattern-F (Walk Bound (made_arg.ArgPattern)) (Walk Bound (made_operand.PatOperand)) (Walk Bound (made_next.NextPattern)) (Walk Bound (made_pattern.Pattern)) (Walk Bound (made_pattern.Pattern)) → Walk Bound (made_pattern.Pattern)
pattern_step c x = λ l. record { tree = pat.Listed x.span (x.first l).tree (trees l x.others); misuses = (x.first l).misuses ++ all_misuses l x.others }

unfoldable pub arg_pattern_out : Context → ArgPattern → Walk Bound (made_arg.ArgPattern)
arg_pattern_out c = fold-ArgPattern (Walk Bound (made_arg.ArgPattern)) (Walk Bound (made_operand.PatOperand)) (Walk Bound (made_next.NextPattern)) (Walk Bound (made_pattern.Pattern)) (Walk Bound (made_pattern.Pattern)) (arg_pattern_step c) (pat_operand_step c) (next_pattern_step c) (pat_part_step c) (pattern_step c)

unfoldable pub pat_operand_out : Context → PatOperand → Walk Bound (made_operand.PatOperand)
pat_operand_out c = fold-PatOperand (Walk Bound (made_arg.ArgPattern)) (Walk Bound (made_operand.PatOperand)) (Walk Bound (made_next.NextPattern)) (Walk Bound (made_pattern.Pattern)) (Walk Bound (made_pattern.Pattern)) (arg_pattern_step c) (pat_operand_step c) (next_pattern_step c) (pat_part_step c) (pattern_step c)

unfoldable pub next_pattern_out : Context → NextPattern → Walk Bound (made_next.NextPattern)
next_pattern_out c = fold-NextPattern (Walk Bound (made_arg.ArgPattern)) (Walk Bound (made_operand.PatOperand)) (Walk Bound (made_next.NextPattern)) (Walk Bound (made_pattern.Pattern)) (Walk Bound (made_pattern.Pattern)) (arg_pattern_step c) (pat_operand_step c) (next_pattern_step c) (pat_part_step c) (pattern_step c)

unfoldable pub pat_part_out : Context → PatPart → Walk Bound (made_pattern.Pattern)
pat_part_out c = fold-PatPart (Walk Bound (made_arg.ArgPattern)) (Walk Bound (made_operand.PatOperand)) (Walk Bound (made_next.NextPattern)) (Walk Bound (made_pattern.Pattern)) (Walk Bound (made_pattern.Pattern)) (arg_pattern_step c) (pat_operand_step c) (next_pattern_step c) (pat_part_step c) (pattern_step c)

unfoldable pub pattern_out : Context → Pattern → Walk Bound (made_pattern.Pattern)
pattern_out c = fold-Pattern (Walk Bound (made_arg.ArgPattern)) (Walk Bound (made_operand.PatOperand)) (Walk Bound (made_next.NextPattern)) (Walk Bound (made_pattern.Pattern)) (Walk Bound (made_pattern.Pattern)) (arg_pattern_step c) (pat_operand_step c) (next_pattern_step c) (pat_part_step c) (pattern_step c)
