-- Patterns and left sides of functions, arranged: the same tree, but where a list of patterns stood, its tree.
use Rattle.std.specs.Prelude.{List, [], ◌∷◌, ◌++◌, map}
use Rattle.gh_program.specs.declared.patterns.ArgPattern.{ArgPattern, fold-ArgPattern}
use Rattle.gh_program.specs.declared.patterns.ArgPattern.TheVariants as v_ArgPattern
use Rattle.gh_program.specs.declared.patterns.PatOperand.{PatOperand, fold-PatOperand}
use Rattle.gh_program.specs.declared.patterns.PatOperand.TheVariants as v_PatOperand
use Rattle.gh_program.specs.declared.patterns.Pattern.{Pattern, fold-Pattern}
use Rattle.gh_program.specs.declared.patterns.Pattern.TheVariants as v_Pattern
use Rattle.gh_program.specs.declared.patterns.NextPattern.{NextPattern, fold-NextPattern}
use Rattle.gh_program.specs.declared.patterns.ArgPattern.TheOpen.{ArgPattern-F, PatOperand-F, Pattern-F, NextPattern-F}
use Rattle.gh_program.specs.declared.patterns.FunLhs.{FunLhs, fold-FunLhs}
use Rattle.gh_program.specs.declared.patterns.FunLhs.TheVariants as v_FunLhs
use Rattle.gh_program.specs.declared.patterns.FunLhs.TheOpen.{FunLhs-F}
use Rattle.gh_fixity.specs.declared.part.Part.{Part}
use Rattle.gh_fixity.specs.declared.part.Part.TheVariants as part
use Rattle.gh_fixity.specs.declared.walked.WalkedPattern.{WalkedPattern}
use Rattle.gh_fixity.specs.declared.walked.WalkedPattern.TheVariants as pat
use Rattle.gh_fixity.specs.Finish.{finished_pattern, lhs_left, lhs_right, lhs_clashes}
use Rattle.gh_fixity.specs.Fixities.{TopFixities}
use Rattle.gh_fixity.specs.Walks.{Walk, trees, all_clashes, all_trees}

abbrev pub arg_pattern_step : TopFixities → ArgPattern-F (Walk ArgPattern) (Walk PatOperand) (Walk WalkedPattern) (Walk (List Part)) → Walk ArgPattern
arg_pattern_step ts (ArgPattern-F.Var o) = λ l. record { tree = v_ArgPattern.Var o; clashes = [] }
arg_pattern_step ts (ArgPattern-F.As s o p) = λ l. record { tree = v_ArgPattern.As s o (p l).tree; clashes = (p l).clashes }
arg_pattern_step ts (ArgPattern-F.Wild s) = λ l. record { tree = v_ArgPattern.Wild s; clashes = [] }
arg_pattern_step ts (ArgPattern-F.ArgPattern::Con g) = λ l. record { tree = v_ArgPattern.Con g; clashes = [] }
arg_pattern_step ts (ArgPattern-F.Int s n) = λ l. record { tree = v_ArgPattern.Int s n; clashes = [] }
arg_pattern_step ts (ArgPattern-F.Char s n) = λ l. record { tree = v_ArgPattern.Char s n; clashes = [] }
arg_pattern_step ts (ArgPattern-F.Str s cs) = λ l. record { tree = v_ArgPattern.Str s cs; clashes = [] }
arg_pattern_step ts (ArgPattern-F.Paren s p) = λ l. record { tree = v_ArgPattern.Paren s (finished_pattern ts p l).tree; clashes = (finished_pattern ts p l).clashes }
arg_pattern_step ts (ArgPattern-F.Tuple s ps) = λ l. record { tree = v_ArgPattern.Tuple s (trees l (map (finished_pattern ts) ps)); clashes = all_clashes l (map (finished_pattern ts) ps) }
arg_pattern_step ts (ArgPattern-F.List s ps) = λ l. record { tree = v_ArgPattern.List s (trees l (map (finished_pattern ts) ps)); clashes = all_clashes l (map (finished_pattern ts) ps) }

abbrev pub pat_operand_step : TopFixities → PatOperand-F (Walk ArgPattern) (Walk PatOperand) (Walk WalkedPattern) (Walk (List Part)) → Walk PatOperand
pat_operand_step ts (PatOperand-F.Negative s n) = λ l. record { tree = v_PatOperand.Negative s n; clashes = [] }
pat_operand_step ts (PatOperand-F.Arg p) = λ l. record { tree = v_PatOperand.Arg (p l).tree; clashes = (p l).clashes }
pat_operand_step ts (PatOperand-F.PatOperand::Con s g ps) = λ l. record { tree = v_PatOperand.Con s g (trees l ps); clashes = all_clashes l ps }

abbrev pub pattern_step : TopFixities → Pattern-F (Walk ArgPattern) (Walk PatOperand) (Walk WalkedPattern) (Walk (List Part)) → Walk WalkedPattern
pattern_step ts (Pattern-F.Listed s x ns) = λ l. record { tree = pat.List (part.Pattern (x l).tree ∷ all_trees l ns); clashes = (x l).clashes ++ all_clashes l ns }
pattern_step ts (Pattern-F.Infix s a o b) = λ l. record { tree = pat.Tree (v_Pattern.Infix s (finished_pattern ts a l).tree o (finished_pattern ts b l).tree); clashes = (finished_pattern ts a l).clashes ++ (finished_pattern ts b l).clashes }

abbrev pub next_pattern_step : TopFixities → NextPattern-F (Walk ArgPattern) (Walk PatOperand) (Walk WalkedPattern) (Walk (List Part)) → Walk (List Part)
next_pattern_step ts x = λ l. record { tree = part.Op x.op ∷ part.Pattern (x.operand l).tree ∷ []; clashes = (x.operand l).clashes }

unfoldable pub arg_pattern_out : TopFixities → ArgPattern → Walk ArgPattern
arg_pattern_out ts = fold-ArgPattern (Walk ArgPattern) (Walk PatOperand) (Walk WalkedPattern) (Walk (List Part)) (arg_pattern_step ts) (pat_operand_step ts) (pattern_step ts) (next_pattern_step ts)

unfoldable pub pat_operand_out : TopFixities → PatOperand → Walk PatOperand
pat_operand_out ts = fold-PatOperand (Walk ArgPattern) (Walk PatOperand) (Walk WalkedPattern) (Walk (List Part)) (arg_pattern_step ts) (pat_operand_step ts) (pattern_step ts) (next_pattern_step ts)

unfoldable pub pattern_out : TopFixities → Pattern → Walk WalkedPattern
pattern_out ts = fold-Pattern (Walk ArgPattern) (Walk PatOperand) (Walk WalkedPattern) (Walk (List Part)) (arg_pattern_step ts) (pat_operand_step ts) (pattern_step ts) (next_pattern_step ts)

unfoldable pub next_pattern_out : TopFixities → NextPattern → Walk (List Part)
next_pattern_out ts = fold-NextPattern (Walk ArgPattern) (Walk PatOperand) (Walk WalkedPattern) (Walk (List Part)) (arg_pattern_step ts) (pat_operand_step ts) (pattern_step ts) (next_pattern_step ts)

abbrev pub fun_lhs_step : TopFixities → FunLhs-F (Walk FunLhs) → Walk FunLhs
fun_lhs_step ts (FunLhs-F.Prefix s o ps) = λ l. record { tree = v_FunLhs.Prefix s o (trees l (map (arg_pattern_out ts) ps)); clashes = all_clashes l (map (arg_pattern_out ts) ps) }
fun_lhs_step ts (FunLhs-F.Infix s p o q) = λ l. record { tree = v_FunLhs.Infix s (lhs_left ts l (pattern_out ts p l).tree o (pattern_out ts q l).tree) o (lhs_right ts l (pattern_out ts p l).tree o (pattern_out ts q l).tree); clashes = (pattern_out ts p l).clashes ++ ((pattern_out ts q l).clashes ++ lhs_clashes ts l (pattern_out ts p l).tree o (pattern_out ts q l).tree) }
fun_lhs_step ts (FunLhs-F.Nested s f ps) = λ l. record { tree = v_FunLhs.Nested s (f l).tree (trees l (map (arg_pattern_out ts) ps)); clashes = (f l).clashes ++ all_clashes l (map (arg_pattern_out ts) ps) }

unfoldable pub fun_lhs_out : TopFixities → FunLhs → Walk FunLhs
fun_lhs_out ts = fold-FunLhs (Walk FunLhs) (fun_lhs_step ts)
