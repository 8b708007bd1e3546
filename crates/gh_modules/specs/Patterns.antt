-- The variables of patterns, and the names that left sides define (Haskell 98 Report, 3.17 and 4.4.3).
use Rattle.std.specs.Prelude.{List, [], ◌∷◌, ◌++◌}
use Rattle.std.specs.List.{flat_map}
use Rattle.gh_base.specs.declared.names.NameId.{NameId}
use Rattle.gh_tree.specs.declared.names.Var.{Var}
use Rattle.gh_tree.specs.declared.names.Var.TheVariants as var
use Rattle.gh_tree.specs.declared.names.VarOp.{VarOp}
use Rattle.gh_tree.specs.declared.names.VarOp.TheVariants as var_op
use Rattle.gh_tree.specs.declared.patterns.ArgPattern.{ArgPattern, fold-ArgPattern}
use Rattle.gh_tree.specs.declared.patterns.PatOperand.{PatOperand, fold-PatOperand}
use Rattle.gh_tree.specs.declared.patterns.NextPattern.{NextPattern, fold-NextPattern}
use Rattle.gh_tree.specs.declared.patterns.PatPart.{PatPart, fold-PatPart}
use Rattle.gh_tree.specs.declared.patterns.Pattern.{Pattern, fold-Pattern}
use Rattle.gh_tree.specs.declared.patterns.ArgPattern.TheOpen.{ArgPattern-F, PatOperand-F, NextPattern-F, PatPart-F, Pattern-F}
use Rattle.gh_tree.specs.declared.patterns.FunLhs.{FunLhs, fold-FunLhs}
use Rattle.gh_tree.specs.declared.patterns.FunLhs.TheOpen.{FunLhs-F}

abbrev pub var_name : Var → NameId
var_name (var.Word n) = n.id
var_name (var.Symbol a n b) = n.id

abbrev pub var_op_name : VarOp → NameId
var_op_name (var_op.Symbol n) = n.id
var_op_name (var_op.Quoted a n b) = n.id

-- the variables of patterns, each as often as it stands there

abbrev pub joined : List (List NameId) → List NameId
joined ns = flat_map (λ n. n) ns

abbrev pub arg_pattern_step : ArgPattern-F (List NameId) (List NameId) (List NameId) (List NameId) (List NameId) → List NameId
arg_pattern_step (ArgPattern-F.Var x0) = var_name x0 ∷ []
arg_pattern_step (ArgPattern-F.As x0 x1 x2 x3) = var_name x1 ∷ x3
arg_pattern_step (ArgPattern-F.Wild x0) = []
arg_pattern_step (ArgPattern-F.ArgPattern::Con x0) = []
arg_pattern_step (ArgPattern-F.Int x0 x1) = []
arg_pattern_step (ArgPattern-F.Char x0 x1) = []
arg_pattern_step (ArgPattern-F.Str x0 x1) = []
arg_pattern_step (ArgPattern-F.Paren x0 x1 x2 x3) = x2
arg_pattern_step (ArgPattern-F.Tuple x0 x1 x2 x3 x4) = x2 ++ joined x3
arg_pattern_step (ArgPattern-F.List x0 x1 x2 x3 x4) = x2 ++ joined x3

abbrev pub pat_operand_step : PatOperand-F (List NameId) (List NameId) (List NameId) (List NameId) (List NameId) → List NameId
pat_operand_step (PatOperand-F.Negative x0 x1 x2 x3) = []
pat_operand_step (PatOperand-F.Arg x0) = x0
pat_operand_step (PatOperand-F.PatOperand::Con x0 x1 x2 x3) = x2 ++ joined x3

abbrev pub next_pattern_step : NextPattern-F (List NameId) (List NameId) (List NameId) (List NameId) (List NameId) → List NameId
next_pattern_step x = x.operand

abbrev pub pat_part_step : PatPart-F (List NameId) (List NameId) (List NameId) (List NameId) (List NameId) → List NameId
pat_part_step x = x.part

abbrev pub pattern_step : Pattern-F (List NameId) (List NameId) (List NameId) (List NameId) (List NameId) → List NameId
pattern_step x = x.first ++ joined x.others

unfoldable pub arg_pattern_names : ArgPattern → List NameId
arg_pattern_names = fold-ArgPattern (List NameId) (List NameId) (List NameId) (List NameId) (List NameId) arg_pattern_step pat_operand_step next_pattern_step pat_part_step pattern_step

unfoldable pub pat_operand_names : PatOperand → List NameId
pat_operand_names = fold-PatOperand (List NameId) (List NameId) (List NameId) (List NameId) (List NameId) arg_pattern_step pat_operand_step next_pattern_step pat_part_step pattern_step

unfoldable pub next_pattern_names : NextPattern → List NameId
next_pattern_names = fold-NextPattern (List NameId) (List NameId) (List NameId) (List NameId) (List NameId) arg_pattern_step pat_operand_step next_pattern_step pat_part_step pattern_step

unfoldable pub pat_part_names : PatPart → List NameId
pat_part_names = fold-PatPart (List NameId) (List NameId) (List NameId) (List NameId) (List NameId) arg_pattern_step pat_operand_step next_pattern_step pat_part_step pattern_step

unfoldable pub pattern_names : Pattern → List NameId
pattern_names = fold-Pattern (List NameId) (List NameId) (List NameId) (List NameId) (List NameId) arg_pattern_step pat_operand_step next_pattern_step pat_part_step pattern_step

-- the name that a left side defines

abbrev pub head_step : FunLhs-F NameId → NameId
head_step (FunLhs-F.Prefix x0 x1 x2) = var_name x1
head_step (FunLhs-F.Infix x0 x1 x2 x3 x4 x5) = var_op_name x3
head_step (FunLhs-F.Nested x0 x1 x2 x3 x4 x5) = x2

unfoldable pub head_name : FunLhs → NameId
head_name = fold-FunLhs NameId head_step
