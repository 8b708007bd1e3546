-- Left sides of functions with their names resolved (Haskell 98 Report, 4.4.3.1): the function is bound outside, and the variables of
-- the patterns inside.
use Rattle.std.specs.Prelude.{List, ◌∷◌, ◌++◌, map}
use Rattle.gh_program.specs.declared.names.Occurrence.{Occurrence}
use Rattle.gh_scopes.specs.declared.types.Used.{Used}
use Rattle.gh_tree.specs.declared.patterns.FunLhs.{FunLhs, fold-FunLhs}
use Rattle.gh_tree.specs.declared.patterns.FunLhs.TheOpen.{FunLhs-F}
use Rattle.gh_tree.specs.declared.patterns.NextPattern.{NextPattern}
use Rattle.gh_tree.specs.declared.patterns.PatOperand.{PatOperand}
use Rattle.gh_program.specs.declared.patterns.FunLhs as made_lhs
use Rattle.gh_program.specs.declared.patterns.FunLhs.TheVariants as left
use Rattle.gh_program.specs.declared.patterns.Pattern as made_pattern
use Rattle.gh_program.specs.declared.patterns.Pattern.TheVariants as pat
use Rattle.gh_resolve_names.specs.declared.context.Context.{Context}
use Rattle.gh_resolve_names.specs.Misuses.{Out, Walk, trees, all_misuses, joined}
use Rattle.gh_resolve_names.specs.Standing.{Bound}
use Rattle.gh_resolve_names.specs.Written.{used_var, used_var_op}
use Rattle.gh_resolve_patterns.specs.Patterns.{arg_pattern_out, pat_operand_out, next_pattern_out}
use Rattle.gh_resolve_patterns.specs.Spans.{list_span}
use Rattle.gh_resolve_patterns.specs.Variables.{arg_vars_of, operand_vars_of, next_vars_of}

-- the function, which is bound outside

abbrev pub lhs_used_step : FunLhs-F Used → Used
lhs_used_step (FunLhs-F.Prefix s v ps) = used_var v
lhs_used_step (FunLhs-F.Infix s a ns op b ms) = used_var_op op
lhs_used_step (FunLhs-F.Nested s m f n p ps) = f

unfoldable pub lhs_used_of : FunLhs → Used
lhs_used_of = fold-FunLhs Used lhs_used_step

-- the variables of its patterns

abbrev pub lhs_vars_step : FunLhs-F Bound → Bound
lhs_vars_step (FunLhs-F.Prefix s v ps) = joined (map arg_vars_of ps)
lhs_vars_step (FunLhs-F.Infix s a ns op b ms) = (operand_vars_of a ++ joined (map next_vars_of ns)) ++ (operand_vars_of b ++ joined (map next_vars_of ms))
lhs_vars_step (FunLhs-F.Nested s m f n p ps) = f ++ (arg_vars_of p ++ joined (map arg_vars_of ps))

unfoldable pub lhs_vars_of : FunLhs → Bound
lhs_vars_of = fold-FunLhs Bound lhs_vars_step

-- one side of an operator
abbrev pub side : Context → Bound → PatOperand → List NextPattern → Out (made_pattern.Pattern)
side c bs p ns = record { tree = pat.Listed (list_span p ns) (pat_operand_out c p bs).tree (trees bs (map (next_pattern_out c) ns)); misuses = (pat_operand_out c p bs).misuses ++ all_misuses bs (map (next_pattern_out c) ns) }

-- the left side, by what its function stands for and by the variables inside

abbrev pub lhs_step : Context → FunLhs-F (Walk (Occurrence × Bound) (made_lhs.FunLhs)) → Walk (Occurrence × Bound) (made_lhs.FunLhs)
lhs_step c (FunLhs-F.Prefix s v ps) = λ l. record { tree = left.Prefix s l.0 (trees l.1 (map (arg_pattern_out c) ps)); misuses = all_misuses l.1 (map (arg_pattern_out c) ps) }
lhs_step c (FunLhs-F.Infix s a ns op b ms) = λ l. record { tree = left.Infix s (side c l.1 a ns).tree l.0 (side c l.1 b ms).tree; misuses = (side c l.1 a ns).misuses ++ (side c l.1 b ms).misuses }
lhs_step c (FunLhs-F.Nested s m f n p ps) = λ l. record { tree = left.Nested s (f l).tree ((arg_pattern_out c p l.1).tree ∷ trees l.1 (map (arg_pattern_out c) ps)); misuses = (f l).misuses ++ ((arg_pattern_out c p l.1).misuses ++ all_misuses l.1 (map (arg_pattern_out c) ps)) }

unfoldable pub lhs_out : Context → FunLhs → Walk (Occurrence × Bound) (made_lhs.FunLhs)
lhs_out c = fold-FunLhs (Walk (Occurrence × Bound) (made_lhs.FunLhs)) (lhs_step c)
