-- The variables of patterns and of left sides, and what left sides define (Haskell 98 Report, 3.17 and 4.4.3).
use Rattle.std.specs.Prelude.{ℕ, ◌+◌, List, [], ◌∷◌, ◌++◌, length}
use Rattle.std.specs.List.{flat_map}
use Rattle.gh_tree.specs.declared.patterns.ArgPattern.{ArgPattern, fold-ArgPattern}
use Rattle.gh_tree.specs.declared.patterns.PatOperand.{PatOperand, fold-PatOperand}
use Rattle.gh_tree.specs.declared.patterns.NextPattern.{NextPattern, fold-NextPattern}
use Rattle.gh_tree.specs.declared.patterns.PatPart.{PatPart, fold-PatPart}
use Rattle.gh_tree.specs.declared.patterns.Pattern.{Pattern, fold-Pattern}
use Rattle.gh_tree.specs.declared.patterns.ArgPattern.TheOpen.{ArgPattern-F, PatOperand-F, NextPattern-F, PatPart-F, Pattern-F}
use Rattle.gh_tree.specs.declared.patterns.FunLhs.{FunLhs, fold-FunLhs}
use Rattle.gh_tree.specs.declared.patterns.FunLhs.TheOpen.{FunLhs-F}
use Rattle.gh_declarations.specs.declared.named.Named.{Named}
use Rattle.gh_declarations.specs.Names.{var_named, var_op_named}

-- the variables of patterns, each as often as it stands there

abbrev pub joined : List (List Named) → List Named
joined ns = flat_map (λ n. n) ns

abbrev pub arg_pattern_step : ArgPattern-F (List Named) (List Named) (List Named) (List Named) (List Named) → List Named
arg_pattern_step (ArgPattern-F.Var x0) = var_named x0 ∷ []
arg_pattern_step (ArgPattern-F.As x0 x1 x2 x3) = var_named x1 ∷ x3
arg_pattern_step (ArgPattern-F.Wild x0) = []
arg_pattern_step (ArgPattern-F.ArgPattern::Con x0) = []
arg_pattern_step (ArgPattern-F.Int x0 x1) = []
arg_pattern_step (ArgPattern-F.Char x0 x1) = []
arg_pattern_step (ArgPattern-F.Str x0 x1) = []
arg_pattern_step (ArgPattern-F.Paren x0 x1 x2 x3) = x2
arg_pattern_step (ArgPattern-F.Tuple x0 x1 x2 x3 x4) = x2 ++ joined x3
arg_pattern_step (ArgPattern-F.List x0 x1 x2 x3 x4) = x2 ++ joined x3

abbrev pub pat_operand_step : PatOperand-F (List Named) (List Named) (List Named) (List Named) (List Named) → List Named
pat_operand_step (PatOperand-F.Negative x0 x1 x2 x3) = []
pat_operand_step (PatOperand-F.Arg x0) = x0
pat_operand_step (PatOperand-F.PatOperand::Con x0 x1 x2 x3) = x2 ++ joined x3

abbrev pub next_pattern_step : NextPattern-F (List Named) (List Named) (List Named) (List Named) (List Named) → List Named
next_pattern_step x = x.operand

abbrev pub pat_part_step : PatPart-F (List Named) (List Named) (List Named) (List Named) (List Named) → List Named
pat_part_step x = x.part

abbrev pub pattern_step : Pattern-F (List Named) (List Named) (List Named) (List Named) (List Named) → List Named
pattern_step x = x.first ++ joined x.others

unfoldable pub arg_pattern_variables : ArgPattern → List Named
arg_pattern_variables = fold-ArgPattern (List Named) (List Named) (List Named) (List Named) (List Named) arg_pattern_step pat_operand_step next_pattern_step pat_part_step pattern_step

unfoldable pub pat_operand_variables : PatOperand → List Named
pat_operand_variables = fold-PatOperand (List Named) (List Named) (List Named) (List Named) (List Named) arg_pattern_step pat_operand_step next_pattern_step pat_part_step pattern_step

unfoldable pub next_pattern_variables : NextPattern → List Named
next_pattern_variables = fold-NextPattern (List Named) (List Named) (List Named) (List Named) (List Named) arg_pattern_step pat_operand_step next_pattern_step pat_part_step pattern_step

unfoldable pub pat_part_variables : PatPart → List Named
pat_part_variables = fold-PatPart (List Named) (List Named) (List Named) (List Named) (List Named) arg_pattern_step pat_operand_step next_pattern_step pat_part_step pattern_step

unfoldable pub pattern_variables : Pattern → List Named
pattern_variables = fold-Pattern (List Named) (List Named) (List Named) (List Named) (List Named) arg_pattern_step pat_operand_step next_pattern_step pat_part_step pattern_step

-- the name that a left side defines, and how many arguments it has
pub record Head : Type 0 where
  pub named : Named
  pub arguments : ℕ

abbrev pub head_step : FunLhs-F Head → Head
head_step (FunLhs-F.Prefix x0 x1 x2) = record { named = var_named x1; arguments = length x2 }
head_step (FunLhs-F.Infix x0 x1 x2 x3 x4 x5) = record { named = var_op_named x3; arguments = 2 }
head_step (FunLhs-F.Nested x0 x1 x2 x3 x4 x5) = record { named = x2.named; arguments = x2.arguments + (1 + length x5) }

unfoldable pub head_of : FunLhs → Head
head_of = fold-FunLhs Head head_step

-- the variables of the arguments of a left side, which are one list of patterns
abbrev pub left_step : FunLhs-F (List Named) → List Named
left_step (FunLhs-F.Prefix x0 x1 x2) = flat_map arg_pattern_variables x2
left_step (FunLhs-F.Infix x0 x1 x2 x3 x4 x5) = pat_operand_variables x1 ++ (flat_map next_pattern_variables x2 ++ (pat_operand_variables x4 ++ flat_map next_pattern_variables x5))
left_step (FunLhs-F.Nested x0 x1 x2 x3 x4 x5) = x2 ++ (arg_pattern_variables x4 ++ flat_map arg_pattern_variables x5)

unfoldable pub left_variables : FunLhs → List Named
left_variables = fold-FunLhs (List Named) left_step
