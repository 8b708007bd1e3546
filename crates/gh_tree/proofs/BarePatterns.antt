-- Patterns and left sides have no brace and no `;`.
use Rattle.std.proofs.Common.{◌≡◌, subst, refl}
use Rattle.gh_tree.specs.declared.patterns.ArgPattern.{ArgPattern, map-ArgPattern, roll-ArgPattern, fold-roll-ArgPattern, ind-ArgPattern}
use Rattle.gh_tree.specs.declared.patterns.PatOperand.{PatOperand, map-PatOperand, roll-PatOperand, fold-roll-PatOperand, ind-PatOperand}
use Rattle.gh_tree.specs.declared.patterns.NextPattern.{NextPattern, map-NextPattern, roll-NextPattern, fold-roll-NextPattern, ind-NextPattern}
use Rattle.gh_tree.specs.declared.patterns.PatPart.{PatPart, map-PatPart, roll-PatPart, fold-roll-PatPart}
use Rattle.gh_tree.specs.declared.patterns.Pattern.{Pattern, map-Pattern, roll-Pattern, fold-roll-Pattern, ind-Pattern}
use Rattle.gh_tree.specs.declared.patterns.ArgPattern.TheOpen.{ArgPattern-F, PatOperand-F, NextPattern-F, PatPart-F, Pattern-F}
use Rattle.gh_tree.specs.declared.patterns.FunLhs.{FunLhs, map-FunLhs, roll-FunLhs, fold-roll-FunLhs, ind-FunLhs}
use Rattle.gh_tree.specs.declared.patterns.FunLhs.TheOpen.{FunLhs-F}
use Rattle.gh_tree.specs.Print.{Print, arg_pattern, arg_pattern_step, pat_operand, pat_operand_step, next_pattern, next_pattern_step, pat_part, pat_part_step, pattern, pattern_step, fun_lhs, fun_lhs_step}
use Rattle.gh_tree.proofs.Braces.{Bare, BareNode, bare_by, tree, bare_none, bare_token, bare_append, bare_all, bare_nodes}
use Rattle.gh_tree.proofs.BareNames.{bare_var, bare_con_op, bare_var_op, bare_gen_con}

-- a layer of trees, and one of trees with their facts
abbrev patterns_trees : (Type 0 → Type 0 → Type 0 → Type 0 → Type 0 → Type 0) → Type 0
patterns_trees F = F ArgPattern PatOperand NextPattern PatPart Pattern

abbrev patterns_nodes : (Type 0 → Type 0 → Type 0 → Type 0 → Type 0 → Type 0) → Type 0
patterns_nodes F = F (BareNode arg_pattern) (BareNode pat_operand) (BareNode next_pattern) (BareNode pat_part) (BareNode pattern)

abbrev arg_pattern_trees : patterns_nodes ArgPattern-F → patterns_trees ArgPattern-F
arg_pattern_trees y = map-ArgPattern (BareNode arg_pattern) (BareNode pat_operand) (BareNode next_pattern) (BareNode pat_part) (BareNode pattern) ArgPattern PatOperand NextPattern PatPart Pattern tree tree tree tree tree y

abbrev arg_pattern_prints : patterns_trees ArgPattern-F → Print
arg_pattern_prints x = arg_pattern_step (map-ArgPattern ArgPattern PatOperand NextPattern PatPart Pattern Print Print Print Print Print arg_pattern pat_operand next_pattern pat_part pattern x)

arg_pattern_rolled : (x : patterns_trees ArgPattern-F) → arg_pattern (roll-ArgPattern x) ≡ arg_pattern_prints x
unfolding arg_pattern pat_operand next_pattern pat_part pattern
arg_pattern_rolled x = fold-roll-ArgPattern Print Print Print Print Print arg_pattern_step pat_operand_step next_pattern_step pat_part_step pattern_step x

arg_pattern_step_bare : (y : patterns_nodes ArgPattern-F) → Bare (arg_pattern_prints (arg_pattern_trees y)).flat
arg_pattern_step_bare (ArgPattern-F.Var x0) = bare_var x0
arg_pattern_step_bare (ArgPattern-F.As x0 x1 x2 x3) = bare_append (bare_var x1) (bare_token refl x3.1)
arg_pattern_step_bare (ArgPattern-F.Wild x0) = bare_token refl bare_none
arg_pattern_step_bare (ArgPattern-F.ArgPattern::Con x0) = bare_gen_con x0
arg_pattern_step_bare (ArgPattern-F.Int x0 x1) = bare_token refl bare_none
arg_pattern_step_bare (ArgPattern-F.Char x0 x1) = bare_token refl bare_none
arg_pattern_step_bare (ArgPattern-F.Str x0 x1) = bare_token refl bare_none
arg_pattern_step_bare (ArgPattern-F.Paren x0 x1 x2 x3) = bare_token refl (bare_append x2.1 (bare_token refl bare_none))
arg_pattern_step_bare (ArgPattern-F.Tuple x0 x1 x2 x3 x4) = bare_token refl (bare_append x2.1 (bare_append (bare_nodes pat_part x3) (bare_token refl bare_none)))
arg_pattern_step_bare (ArgPattern-F.List x0 x1 x2 x3 x4) = bare_token refl (bare_append x2.1 (bare_append (bare_nodes pat_part x3) (bare_token refl bare_none)))

arg_pattern_layer : (x : patterns_trees ArgPattern-F) (y : patterns_nodes ArgPattern-F) → arg_pattern_trees y ≡ x → Bare (arg_pattern (roll-ArgPattern x)).flat
arg_pattern_layer x y is = subst (λ z. Bare (arg_pattern (roll-ArgPattern z)).flat) is (bare_by (arg_pattern_rolled (arg_pattern_trees y)) (arg_pattern_step_bare y))

abbrev pat_operand_trees : patterns_nodes PatOperand-F → patterns_trees PatOperand-F
pat_operand_trees y = map-PatOperand (BareNode arg_pattern) (BareNode pat_operand) (BareNode next_pattern) (BareNode pat_part) (BareNode pattern) ArgPattern PatOperand NextPattern PatPart Pattern tree tree tree tree tree y

abbrev pat_operand_prints : patterns_trees PatOperand-F → Print
pat_operand_prints x = pat_operand_step (map-PatOperand ArgPattern PatOperand NextPattern PatPart Pattern Print Print Print Print Print arg_pattern pat_operand next_pattern pat_part pattern x)

pat_operand_rolled : (x : patterns_trees PatOperand-F) → pat_operand (roll-PatOperand x) ≡ pat_operand_prints x
unfolding arg_pattern pat_operand next_pattern pat_part pattern
pat_operand_rolled x = fold-roll-PatOperand Print Print Print Print Print arg_pattern_step pat_operand_step next_pattern_step pat_part_step pattern_step x

pat_operand_step_bare : (y : patterns_nodes PatOperand-F) → Bare (pat_operand_prints (pat_operand_trees y)).flat
pat_operand_step_bare (PatOperand-F.Negative x0 x1 x2 x3) = bare_token refl (bare_token refl bare_none)
pat_operand_step_bare (PatOperand-F.Arg x0) = x0.1
pat_operand_step_bare (PatOperand-F.PatOperand::Con x0 x1 x2 x3) = bare_append (bare_gen_con x1) (bare_append x2.1 (bare_nodes arg_pattern x3))

pat_operand_layer : (x : patterns_trees PatOperand-F) (y : patterns_nodes PatOperand-F) → pat_operand_trees y ≡ x → Bare (pat_operand (roll-PatOperand x)).flat
pat_operand_layer x y is = subst (λ z. Bare (pat_operand (roll-PatOperand z)).flat) is (bare_by (pat_operand_rolled (pat_operand_trees y)) (pat_operand_step_bare y))

abbrev next_pattern_trees : patterns_nodes NextPattern-F → patterns_trees NextPattern-F
next_pattern_trees y = map-NextPattern (BareNode arg_pattern) (BareNode pat_operand) (BareNode next_pattern) (BareNode pat_part) (BareNode pattern) ArgPattern PatOperand NextPattern PatPart Pattern tree tree tree tree tree y

abbrev next_pattern_prints : patterns_trees NextPattern-F → Print
next_pattern_prints x = next_pattern_step (map-NextPattern ArgPattern PatOperand NextPattern PatPart Pattern Print Print Print Print Print arg_pattern pat_operand next_pattern pat_part pattern x)

next_pattern_rolled : (x : patterns_trees NextPattern-F) → next_pattern (roll-NextPattern x) ≡ next_pattern_prints x
unfolding arg_pattern pat_operand next_pattern pat_part pattern
next_pattern_rolled x = fold-roll-NextPattern Print Print Print Print Print arg_pattern_step pat_operand_step next_pattern_step pat_part_step pattern_step x

next_pattern_step_bare : (y : patterns_nodes NextPattern-F) → Bare (next_pattern_prints (next_pattern_trees y)).flat
next_pattern_step_bare y = bare_append (bare_con_op y.op) y.operand.1

next_pattern_layer : (x : patterns_trees NextPattern-F) (y : patterns_nodes NextPattern-F) → next_pattern_trees y ≡ x → Bare (next_pattern (roll-NextPattern x)).flat
next_pattern_layer x y is = subst (λ z. Bare (next_pattern (roll-NextPattern z)).flat) is (bare_by (next_pattern_rolled (next_pattern_trees y)) (next_pattern_step_bare y))

abbrev pat_part_trees : patterns_nodes PatPart-F → patterns_trees PatPart-F
pat_part_trees y = map-PatPart (BareNode arg_pattern) (BareNode pat_operand) (BareNode next_pattern) (BareNode pat_part) (BareNode pattern) ArgPattern PatOperand NextPattern PatPart Pattern tree tree tree tree tree y

abbrev pat_part_prints : patterns_trees PatPart-F → Print
pat_part_prints x = pat_part_step (map-PatPart ArgPattern PatOperand NextPattern PatPart Pattern Print Print Print Print Print arg_pattern pat_operand next_pattern pat_part pattern x)

pat_part_rolled : (x : patterns_trees PatPart-F) → pat_part (roll-PatPart x) ≡ pat_part_prints x
unfolding arg_pattern pat_operand next_pattern pat_part pattern
pat_part_rolled x = fold-roll-PatPart Print Print Print Print Print arg_pattern_step pat_operand_step next_pattern_step pat_part_step pattern_step x

pat_part_step_bare : (y : patterns_nodes PatPart-F) → Bare (pat_part_prints (pat_part_trees y)).flat
pat_part_step_bare y = bare_token refl y.part.1

pat_part_layer : (x : patterns_trees PatPart-F) (y : patterns_nodes PatPart-F) → pat_part_trees y ≡ x → Bare (pat_part (roll-PatPart x)).flat
pat_part_layer x y is = subst (λ z. Bare (pat_part (roll-PatPart z)).flat) is (bare_by (pat_part_rolled (pat_part_trees y)) (pat_part_step_bare y))

abbrev pattern_trees : patterns_nodes Pattern-F → patterns_trees Pattern-F
pattern_trees y = map-Pattern (BareNode arg_pattern) (BareNode pat_operand) (BareNode next_pattern) (BareNode pat_part) (BareNode pattern) ArgPattern PatOperand NextPattern PatPart Pattern tree tree tree tree tree y

abbrev pattern_prints : patterns_trees Pattern-F → Print
pattern_prints x = pattern_step (map-Pattern ArgPattern PatOperand NextPattern PatPart Pattern Print Print Print Print Print arg_pattern pat_operand next_pattern pat_part pattern x)

pattern_rolled : (x : patterns_trees Pattern-F) → pattern (roll-Pattern x) ≡ pattern_prints x
unfolding arg_pattern pat_operand next_pattern pat_part pattern
pattern_rolled x = fold-roll-Pattern Print Print Print Print Print arg_pattern_step pat_operand_step next_pattern_step pat_part_step pattern_step x

pattern_step_bare : (y : patterns_nodes Pattern-F) → Bare (pattern_prints (pattern_trees y)).flat
pattern_step_bare y = bare_append y.first.1 (bare_nodes next_pattern y.others)

pattern_layer : (x : patterns_trees Pattern-F) (y : patterns_nodes Pattern-F) → pattern_trees y ≡ x → Bare (pattern (roll-Pattern x)).flat
pattern_layer x y is = subst (λ z. Bare (pattern (roll-Pattern z)).flat) is (bare_by (pattern_rolled (pattern_trees y)) (pattern_step_bare y))

pub bare_arg_pattern : (x : ArgPattern) → Bare (arg_pattern x).flat
bare_arg_pattern = ind-ArgPattern (λ x. Bare (arg_pattern x).flat) (λ x. Bare (pat_operand x).flat) (λ x. Bare (next_pattern x).flat) (λ x. Bare (pat_part x).flat) (λ x. Bare (pattern x).flat) arg_pattern_layer pat_operand_layer next_pattern_layer pat_part_layer pattern_layer

pub bare_pat_operand : (x : PatOperand) → Bare (pat_operand x).flat
bare_pat_operand = ind-PatOperand (λ x. Bare (arg_pattern x).flat) (λ x. Bare (pat_operand x).flat) (λ x. Bare (next_pattern x).flat) (λ x. Bare (pat_part x).flat) (λ x. Bare (pattern x).flat) arg_pattern_layer pat_operand_layer next_pattern_layer pat_part_layer pattern_layer

pub bare_next_pattern : (x : NextPattern) → Bare (next_pattern x).flat
bare_next_pattern = ind-NextPattern (λ x. Bare (arg_pattern x).flat) (λ x. Bare (pat_operand x).flat) (λ x. Bare (next_pattern x).flat) (λ x. Bare (pat_part x).flat) (λ x. Bare (pattern x).flat) arg_pattern_layer pat_operand_layer next_pattern_layer pat_part_layer pattern_layer

pub bare_pattern : (x : Pattern) → Bare (pattern x).flat
bare_pattern = ind-Pattern (λ x. Bare (arg_pattern x).flat) (λ x. Bare (pat_operand x).flat) (λ x. Bare (next_pattern x).flat) (λ x. Bare (pat_part x).flat) (λ x. Bare (pattern x).flat) arg_pattern_layer pat_operand_layer next_pattern_layer pat_part_layer pattern_layer

-- left sides

-- a layer of trees, and one of trees with their facts
abbrev fl_trees : (Type 0 → Type 0) → Type 0
fl_trees F = F FunLhs

abbrev fl_nodes : (Type 0 → Type 0) → Type 0
fl_nodes F = F (BareNode fun_lhs)

abbrev fun_lhs_trees : fl_nodes FunLhs-F → fl_trees FunLhs-F
fun_lhs_trees y = map-FunLhs (BareNode fun_lhs) FunLhs tree y

abbrev fun_lhs_prints : fl_trees FunLhs-F → Print
fun_lhs_prints x = fun_lhs_step (map-FunLhs FunLhs Print fun_lhs x)

fun_lhs_rolled : (x : fl_trees FunLhs-F) → fun_lhs (roll-FunLhs x) ≡ fun_lhs_prints x
unfolding fun_lhs
fun_lhs_rolled x = fold-roll-FunLhs Print fun_lhs_step x

fun_lhs_step_bare : (y : fl_nodes FunLhs-F) → Bare (fun_lhs_prints (fun_lhs_trees y)).flat
fun_lhs_step_bare (FunLhs-F.Prefix x0 x1 x2) = bare_append (bare_var x1) (bare_all arg_pattern bare_arg_pattern x2)
fun_lhs_step_bare (FunLhs-F.Infix x0 x1 x2 x3 x4 x5) = bare_append (bare_pat_operand x1) (bare_append (bare_all next_pattern bare_next_pattern x2) (bare_append (bare_var_op x3) (bare_append (bare_pat_operand x4) (bare_all next_pattern bare_next_pattern x5))))
fun_lhs_step_bare (FunLhs-F.Nested x0 x1 x2 x3 x4 x5) = bare_token refl (bare_append x2.1 (bare_token refl (bare_append (bare_arg_pattern x4) (bare_all arg_pattern bare_arg_pattern x5))))

fun_lhs_layer : (x : fl_trees FunLhs-F) (y : fl_nodes FunLhs-F) → fun_lhs_trees y ≡ x → Bare (fun_lhs (roll-FunLhs x)).flat
fun_lhs_layer x y is = subst (λ z. Bare (fun_lhs (roll-FunLhs z)).flat) is (bare_by (fun_lhs_rolled (fun_lhs_trees y)) (fun_lhs_step_bare y))

pub bare_fun_lhs : (x : FunLhs) → Bare (fun_lhs x).flat
bare_fun_lhs = ind-FunLhs (λ x. Bare (fun_lhs x).flat) fun_lhs_layer
