-- The names that a declaration binds, and the clause that it is.
use Rattle.std.specs.Prelude.{ℕ, ◌+◌, if◌then◌else◌, nat_eq, List, [], ◌∷◌, ◌++◌, length}
use Rattle.std.specs.List.{list_any}
use Rattle.gh_tree.specs.declared.names.Var.{Var}
use Rattle.gh_tree.specs.declared.names.Var.TheVariants as var
use Rattle.gh_tree.specs.declared.names.VarOp.{VarOp}
use Rattle.gh_tree.specs.declared.names.VarOp.TheVariants as var_op
use Rattle.gh_tree.specs.declared.patterns.ArgPattern.{ArgPattern, fold-ArgPattern}
use Rattle.gh_tree.specs.declared.patterns.PatOperand.{PatOperand, fold-PatOperand}
use Rattle.gh_tree.specs.declared.patterns.NextPattern.{NextPattern, fold-NextPattern}
use Rattle.gh_tree.specs.declared.patterns.PatPart.{PatPart, fold-PatPart}
use Rattle.gh_tree.specs.declared.patterns.Pattern.{Pattern, fold-Pattern}
use Rattle.gh_tree.specs.declared.patterns.ArgPattern.TheOpen.{ArgPattern-F, PatOperand-F, NextPattern-F, PatPart-F, Pattern-F}
use Rattle.gh_tree.specs.declared.patterns.FunLhs.{FunLhs, fold-FunLhs}
use Rattle.gh_tree.specs.declared.patterns.FunLhs.TheOpen.{FunLhs-F}

-- the number of a variable's name
abbrev pub var_name : Var → ℕ
var_name (var.Word n) = n.id.0
var_name (var.Symbol a n b) = n.id.0

abbrev pub var_op_name : VarOp → ℕ
var_op_name (var_op.Symbol n) = n.id.0
var_op_name (var_op.Quoted a n b) = n.id.0

-- how many different names there are beside these
unfoldable pub different : List ℕ → List ℕ → ℕ
different seen [] = 0
different seen (n ∷ ns) = if list_any (λ m. nat_eq m n) seen then different seen ns else 1 + different (seen ++ n ∷ []) ns

-- the variables of patterns, each as often as it stands there

abbrev pub joined : List (List ℕ) → List ℕ
joined [] = []
joined (n ∷ ns) = n ++ joined ns

abbrev pub arg_pattern_step : ArgPattern-F (List ℕ) (List ℕ) (List ℕ) (List ℕ) (List ℕ) → List ℕ
arg_pattern_step (ArgPattern-F.Var x0) = var_name x0 ∷ []
arg_pattern_step (ArgPattern-F.As x0 x1 x2 x3) = var_name x1 ∷ x3
arg_pattern_step (ArgPattern-F.Wild x0) = []
arg_pattern_step (ArgPattern-F.ArgPattern::Con x0) = []
arg_pattern_step (ArgPattern-F.Int x0 x1) = []
arg_pattern_step (ArgPattern-F.Char x0 x1) = []
arg_pattern_step (ArgPattern-F.Str x0 x1) = []
arg_pattern_step (ArgPattern-F.Paren x0 x1 x2 x3) = x2
arg_pattern_step (ArgPattern-F.Tuple x0 x1 x2 x3 x4) = x2 ++ joined x3
arg_pattern_step (ArgPattern-F.List x0 x1 x2 x3 x4) = x2 ++ joined x3

abbrev pub pat_operand_step : PatOperand-F (List ℕ) (List ℕ) (List ℕ) (List ℕ) (List ℕ) → List ℕ
pat_operand_step (PatOperand-F.Negative x0 x1 x2 x3) = []
pat_operand_step (PatOperand-F.Arg x0) = x0
pat_operand_step (PatOperand-F.PatOperand::Con x0 x1 x2 x3) = x2 ++ joined x3

abbrev pub next_pattern_step : NextPattern-F (List ℕ) (List ℕ) (List ℕ) (List ℕ) (List ℕ) → List ℕ
next_pattern_step x = x.operand

abbrev pub pat_part_step : PatPart-F (List ℕ) (List ℕ) (List ℕ) (List ℕ) (List ℕ) → List ℕ
pat_part_step x = x.part

abbrev pub pattern_step : Pattern-F (List ℕ) (List ℕ) (List ℕ) (List ℕ) (List ℕ) → List ℕ
pattern_step x = x.first ++ joined x.others

unfoldable pub arg_pattern_names : ArgPattern → List ℕ
arg_pattern_names = fold-ArgPattern (List ℕ) (List ℕ) (List ℕ) (List ℕ) (List ℕ) arg_pattern_step pat_operand_step next_pattern_step pat_part_step pattern_step

unfoldable pub pat_operand_names : PatOperand → List ℕ
pat_operand_names = fold-PatOperand (List ℕ) (List ℕ) (List ℕ) (List ℕ) (List ℕ) arg_pattern_step pat_operand_step next_pattern_step pat_part_step pattern_step

unfoldable pub next_pattern_names : NextPattern → List ℕ
next_pattern_names = fold-NextPattern (List ℕ) (List ℕ) (List ℕ) (List ℕ) (List ℕ) arg_pattern_step pat_operand_step next_pattern_step pat_part_step pattern_step

unfoldable pub pat_part_names : PatPart → List ℕ
pat_part_names = fold-PatPart (List ℕ) (List ℕ) (List ℕ) (List ℕ) (List ℕ) arg_pattern_step pat_operand_step next_pattern_step pat_part_step pattern_step

unfoldable pub pattern_names : Pattern → List ℕ
pattern_names = fold-Pattern (List ℕ) (List ℕ) (List ℕ) (List ℕ) (List ℕ) arg_pattern_step pat_operand_step next_pattern_step pat_part_step pattern_step

-- the left sides of functions

-- the name that a left side defines, and how many arguments it has
pub record Head : Type 0 where
  pub name : ℕ
  pub arguments : ℕ

abbrev pub head_step : FunLhs-F Head → Head
head_step (FunLhs-F.Prefix x0 x1 x2) = record { name = var_name x1; arguments = length x2 }
head_step (FunLhs-F.Infix x0 x1 x2 x3 x4 x5) = record { name = var_op_name x3; arguments = 2 }
head_step (FunLhs-F.Nested x0 x1 x2 x3 x4 x5) = record { name = x2.name; arguments = x2.arguments + (1 + length x5) }

unfoldable pub head_of : FunLhs → Head
head_of = fold-FunLhs Head head_step
