-- The variables of patterns, node by node, and the heads of left sides.
use Rattle.std.proofs.Common.{◌≡◌, ℕ, ◌+◌, length, List, [], ◌∷◌, ◌++◌, map, sym, ap, refl, ◌∙◌}
use Rattle.std.specs.List.{flat_map}
use Rattle.gh_base.specs.declared.place.Span.{Span}
use Rattle.gh_tree.specs.declared.names.Var.{Var}
use Rattle.gh_tree.specs.declared.names.VarOp.{VarOp}
use Rattle.gh_tree.specs.declared.names.GenCon.{GenCon}
use Rattle.gh_tree.specs.declared.patterns.ArgPattern.{ArgPattern, fold-roll-ArgPattern}
use Rattle.gh_tree.specs.declared.patterns.ArgPattern.TheVariants as v_ArgPattern
use Rattle.gh_tree.specs.declared.patterns.PatOperand.{PatOperand, fold-roll-PatOperand}
use Rattle.gh_tree.specs.declared.patterns.PatOperand.TheVariants as v_PatOperand
use Rattle.gh_tree.specs.declared.patterns.NextPattern.{NextPattern, out-NextPattern, fold_out-NextPattern}
use Rattle.gh_tree.specs.declared.patterns.PatPart.{PatPart, out-PatPart, fold_out-PatPart}
use Rattle.gh_tree.specs.declared.patterns.Pattern.{Pattern, out-Pattern, fold_out-Pattern}
use Rattle.gh_tree.specs.declared.patterns.ArgPattern.TheOpen.{ArgPattern-F, PatOperand-F}
use Rattle.gh_tree.specs.declared.patterns.FunLhs.{FunLhs, fold-roll-FunLhs}
use Rattle.gh_tree.specs.declared.patterns.FunLhs.TheVariants as v_FunLhs
use Rattle.gh_tree.specs.declared.patterns.FunLhs.TheOpen.{FunLhs-F}
use Rattle.gh_declarations.specs.declared.named.Named.{Named}
use Rattle.gh_declarations.specs.Names.{var_named, var_op_named}
use Rattle.gh_declarations.specs.Patterns.{Head, head_of, left_variables, left_step, joined, arg_pattern_variables, pat_operand_variables, next_pattern_variables, pat_part_variables, pattern_variables, arg_pattern_step, pat_operand_step, next_pattern_step, pat_part_step, pattern_step, head_step}

-- joining what a function gives
joined_map : {X : Type 0} (f : X → List Named) (xs : List X) → joined (map f xs) ≡ flat_map f xs
joined_map f [] = refl
joined_map f (x ∷ xs) = ap (λ l. f x ++ l) (joined_map f xs)

pub arg_pattern_var : (x0 : Var) → arg_pattern_variables (v_ArgPattern.Var x0) ≡ var_named x0 ∷ []
unfolding arg_pattern_variables pat_operand_variables next_pattern_variables pat_part_variables pattern_variables
arg_pattern_var x0 = ap arg_pattern_variables (sym (v_ArgPattern.rolls-Var x0)) ∙ fold-roll-ArgPattern (List Named) (List Named) (List Named) (List Named) (List Named) arg_pattern_step pat_operand_step next_pattern_step pat_part_step pattern_step (ArgPattern-F.Var x0)

pub arg_pattern_as : (x0 : Span) (x1 : Var) (x2 : Span) (x3 : ArgPattern) → arg_pattern_variables (v_ArgPattern.As x0 x1 x2 x3) ≡ var_named x1 ∷ arg_pattern_variables x3
unfolding arg_pattern_variables pat_operand_variables next_pattern_variables pat_part_variables pattern_variables
arg_pattern_as x0 x1 x2 x3 = ap arg_pattern_variables (sym (v_ArgPattern.rolls-As x0 x1 x2 x3)) ∙ fold-roll-ArgPattern (List Named) (List Named) (List Named) (List Named) (List Named) arg_pattern_step pat_operand_step next_pattern_step pat_part_step pattern_step (ArgPattern-F.As x0 x1 x2 x3)

pub arg_pattern_wild : (x0 : Span) → arg_pattern_variables (v_ArgPattern.Wild x0) ≡ []
unfolding arg_pattern_variables pat_operand_variables next_pattern_variables pat_part_variables pattern_variables
arg_pattern_wild x0 = ap arg_pattern_variables (sym (v_ArgPattern.rolls-Wild x0)) ∙ fold-roll-ArgPattern (List Named) (List Named) (List Named) (List Named) (List Named) arg_pattern_step pat_operand_step next_pattern_step pat_part_step pattern_step (ArgPattern-F.Wild x0)

pub arg_pattern_con : (x0 : GenCon) → arg_pattern_variables (v_ArgPattern.Con x0) ≡ []
unfolding arg_pattern_variables pat_operand_variables next_pattern_variables pat_part_variables pattern_variables
arg_pattern_con x0 = ap arg_pattern_variables (sym (v_ArgPattern.rolls-Con x0)) ∙ fold-roll-ArgPattern (List Named) (List Named) (List Named) (List Named) (List Named) arg_pattern_step pat_operand_step next_pattern_step pat_part_step pattern_step (ArgPattern-F.ArgPattern::Con x0)

pub arg_pattern_int : (x0 : Span) (x1 : ℕ) → arg_pattern_variables (v_ArgPattern.Int x0 x1) ≡ []
unfolding arg_pattern_variables pat_operand_variables next_pattern_variables pat_part_variables pattern_variables
arg_pattern_int x0 x1 = ap arg_pattern_variables (sym (v_ArgPattern.rolls-Int x0 x1)) ∙ fold-roll-ArgPattern (List Named) (List Named) (List Named) (List Named) (List Named) arg_pattern_step pat_operand_step next_pattern_step pat_part_step pattern_step (ArgPattern-F.Int x0 x1)

pub arg_pattern_char : (x0 : Span) (x1 : ℕ) → arg_pattern_variables (v_ArgPattern.Char x0 x1) ≡ []
unfolding arg_pattern_variables pat_operand_variables next_pattern_variables pat_part_variables pattern_variables
arg_pattern_char x0 x1 = ap arg_pattern_variables (sym (v_ArgPattern.rolls-Char x0 x1)) ∙ fold-roll-ArgPattern (List Named) (List Named) (List Named) (List Named) (List Named) arg_pattern_step pat_operand_step next_pattern_step pat_part_step pattern_step (ArgPattern-F.Char x0 x1)

pub arg_pattern_str : (x0 : Span) (x1 : List ℕ) → arg_pattern_variables (v_ArgPattern.Str x0 x1) ≡ []
unfolding arg_pattern_variables pat_operand_variables next_pattern_variables pat_part_variables pattern_variables
arg_pattern_str x0 x1 = ap arg_pattern_variables (sym (v_ArgPattern.rolls-Str x0 x1)) ∙ fold-roll-ArgPattern (List Named) (List Named) (List Named) (List Named) (List Named) arg_pattern_step pat_operand_step next_pattern_step pat_part_step pattern_step (ArgPattern-F.Str x0 x1)

pub arg_pattern_paren : (x0 : Span) (x1 : Span) (x2 : Pattern) (x3 : Span) → arg_pattern_variables (v_ArgPattern.Paren x0 x1 x2 x3) ≡ pattern_variables x2
unfolding arg_pattern_variables pat_operand_variables next_pattern_variables pat_part_variables pattern_variables
arg_pattern_paren x0 x1 x2 x3 = ap arg_pattern_variables (sym (v_ArgPattern.rolls-Paren x0 x1 x2 x3)) ∙ fold-roll-ArgPattern (List Named) (List Named) (List Named) (List Named) (List Named) arg_pattern_step pat_operand_step next_pattern_step pat_part_step pattern_step (ArgPattern-F.Paren x0 x1 x2 x3)

pub arg_pattern_tuple : (x0 : Span) (x1 : Span) (x2 : Pattern) (x3 : List PatPart) (x4 : Span) → arg_pattern_variables (v_ArgPattern.Tuple x0 x1 x2 x3 x4) ≡ pattern_variables x2 ++ flat_map pat_part_variables x3
unfolding arg_pattern_variables pat_operand_variables next_pattern_variables pat_part_variables pattern_variables
arg_pattern_tuple x0 x1 x2 x3 x4 = ap arg_pattern_variables (sym (v_ArgPattern.rolls-Tuple x0 x1 x2 x3 x4)) ∙ fold-roll-ArgPattern (List Named) (List Named) (List Named) (List Named) (List Named) arg_pattern_step pat_operand_step next_pattern_step pat_part_step pattern_step (ArgPattern-F.Tuple x0 x1 x2 x3 x4) ∙ ap (λ l. pattern_variables x2 ++ l) (joined_map pat_part_variables x3)

pub arg_pattern_list : (x0 : Span) (x1 : Span) (x2 : Pattern) (x3 : List PatPart) (x4 : Span) → arg_pattern_variables (v_ArgPattern.List x0 x1 x2 x3 x4) ≡ pattern_variables x2 ++ flat_map pat_part_variables x3
unfolding arg_pattern_variables pat_operand_variables next_pattern_variables pat_part_variables pattern_variables
arg_pattern_list x0 x1 x2 x3 x4 = ap arg_pattern_variables (sym (v_ArgPattern.rolls-List x0 x1 x2 x3 x4)) ∙ fold-roll-ArgPattern (List Named) (List Named) (List Named) (List Named) (List Named) arg_pattern_step pat_operand_step next_pattern_step pat_part_step pattern_step (ArgPattern-F.List x0 x1 x2 x3 x4) ∙ ap (λ l. pattern_variables x2 ++ l) (joined_map pat_part_variables x3)

pub pat_operand_negative : (x0 : Span) (x1 : Span) (x2 : Span) (x3 : ℕ) → pat_operand_variables (v_PatOperand.Negative x0 x1 x2 x3) ≡ []
unfolding arg_pattern_variables pat_operand_variables next_pattern_variables pat_part_variables pattern_variables
pat_operand_negative x0 x1 x2 x3 = ap pat_operand_variables (sym (v_PatOperand.rolls-Negative x0 x1 x2 x3)) ∙ fold-roll-PatOperand (List Named) (List Named) (List Named) (List Named) (List Named) arg_pattern_step pat_operand_step next_pattern_step pat_part_step pattern_step (PatOperand-F.Negative x0 x1 x2 x3)

pub pat_operand_arg : (x0 : ArgPattern) → pat_operand_variables (v_PatOperand.Arg x0) ≡ arg_pattern_variables x0
unfolding arg_pattern_variables pat_operand_variables next_pattern_variables pat_part_variables pattern_variables
pat_operand_arg x0 = ap pat_operand_variables (sym (v_PatOperand.rolls-Arg x0)) ∙ fold-roll-PatOperand (List Named) (List Named) (List Named) (List Named) (List Named) arg_pattern_step pat_operand_step next_pattern_step pat_part_step pattern_step (PatOperand-F.Arg x0)

pub pat_operand_con : (x0 : Span) (x1 : GenCon) (x2 : ArgPattern) (x3 : List ArgPattern) → pat_operand_variables (v_PatOperand.Con x0 x1 x2 x3) ≡ arg_pattern_variables x2 ++ flat_map arg_pattern_variables x3
unfolding arg_pattern_variables pat_operand_variables next_pattern_variables pat_part_variables pattern_variables
pat_operand_con x0 x1 x2 x3 = ap pat_operand_variables (sym (v_PatOperand.rolls-Con x0 x1 x2 x3)) ∙ fold-roll-PatOperand (List Named) (List Named) (List Named) (List Named) (List Named) arg_pattern_step pat_operand_step next_pattern_step pat_part_step pattern_step (PatOperand-F.PatOperand::Con x0 x1 x2 x3) ∙ ap (λ l. arg_pattern_variables x2 ++ l) (joined_map arg_pattern_variables x3)

pub next_pattern_at : (x : NextPattern) → next_pattern_variables x ≡ pat_operand_variables (out-NextPattern x).operand
unfolding arg_pattern_variables pat_operand_variables next_pattern_variables pat_part_variables pattern_variables
next_pattern_at x = fold_out-NextPattern (List Named) (List Named) (List Named) (List Named) (List Named) arg_pattern_step pat_operand_step next_pattern_step pat_part_step pattern_step x

pub pat_part_at : (x : PatPart) → pat_part_variables x ≡ pattern_variables (out-PatPart x).part
unfolding arg_pattern_variables pat_operand_variables next_pattern_variables pat_part_variables pattern_variables
pat_part_at x = fold_out-PatPart (List Named) (List Named) (List Named) (List Named) (List Named) arg_pattern_step pat_operand_step next_pattern_step pat_part_step pattern_step x

pub pattern_at : (x : Pattern) → pattern_variables x ≡ pat_operand_variables (out-Pattern x).first ++ flat_map next_pattern_variables (out-Pattern x).others
unfolding arg_pattern_variables pat_operand_variables next_pattern_variables pat_part_variables pattern_variables
pattern_at x = fold_out-Pattern (List Named) (List Named) (List Named) (List Named) (List Named) arg_pattern_step pat_operand_step next_pattern_step pat_part_step pattern_step x ∙ ap (λ l. pat_operand_variables (out-Pattern x).first ++ l) (joined_map next_pattern_variables (out-Pattern x).others)

pub head_prefix : (x0 : Span) (x1 : Var) (x2 : List ArgPattern) → (head_of (v_FunLhs.Prefix x0 x1 x2)).named ≡ var_named x1
unfolding head_of
head_prefix x0 x1 x2 = ap (λ (h : Head). h.named) (ap head_of (sym (v_FunLhs.rolls-Prefix x0 x1 x2)) ∙ fold-roll-FunLhs Head head_step (FunLhs-F.Prefix x0 x1 x2))

pub arguments_prefix : (x0 : Span) (x1 : Var) (x2 : List ArgPattern) → (head_of (v_FunLhs.Prefix x0 x1 x2)).arguments ≡ length x2
unfolding head_of
arguments_prefix x0 x1 x2 = ap (λ (h : Head). h.arguments) (ap head_of (sym (v_FunLhs.rolls-Prefix x0 x1 x2)) ∙ fold-roll-FunLhs Head head_step (FunLhs-F.Prefix x0 x1 x2))

pub left_prefix : (x0 : Span) (x1 : Var) (x2 : List ArgPattern) → left_variables (v_FunLhs.Prefix x0 x1 x2) ≡ flat_map arg_pattern_variables x2
unfolding left_variables
left_prefix x0 x1 x2 = ap left_variables (sym (v_FunLhs.rolls-Prefix x0 x1 x2)) ∙ fold-roll-FunLhs (List Named) left_step (FunLhs-F.Prefix x0 x1 x2)

pub head_infix : (x0 : Span) (x1 : PatOperand) (x2 : List NextPattern) (x3 : VarOp) (x4 : PatOperand) (x5 : List NextPattern) → (head_of (v_FunLhs.Infix x0 x1 x2 x3 x4 x5)).named ≡ var_op_named x3
unfolding head_of
head_infix x0 x1 x2 x3 x4 x5 = ap (λ (h : Head). h.named) (ap head_of (sym (v_FunLhs.rolls-Infix x0 x1 x2 x3 x4 x5)) ∙ fold-roll-FunLhs Head head_step (FunLhs-F.Infix x0 x1 x2 x3 x4 x5))

pub arguments_infix : (x0 : Span) (x1 : PatOperand) (x2 : List NextPattern) (x3 : VarOp) (x4 : PatOperand) (x5 : List NextPattern) → (head_of (v_FunLhs.Infix x0 x1 x2 x3 x4 x5)).arguments ≡ 2
unfolding head_of
arguments_infix x0 x1 x2 x3 x4 x5 = ap (λ (h : Head). h.arguments) (ap head_of (sym (v_FunLhs.rolls-Infix x0 x1 x2 x3 x4 x5)) ∙ fold-roll-FunLhs Head head_step (FunLhs-F.Infix x0 x1 x2 x3 x4 x5))

pub left_infix : (x0 : Span) (x1 : PatOperand) (x2 : List NextPattern) (x3 : VarOp) (x4 : PatOperand) (x5 : List NextPattern) → left_variables (v_FunLhs.Infix x0 x1 x2 x3 x4 x5) ≡ pat_operand_variables x1 ++ (flat_map next_pattern_variables x2 ++ (pat_operand_variables x4 ++ flat_map next_pattern_variables x5))
unfolding left_variables
left_infix x0 x1 x2 x3 x4 x5 = ap left_variables (sym (v_FunLhs.rolls-Infix x0 x1 x2 x3 x4 x5)) ∙ fold-roll-FunLhs (List Named) left_step (FunLhs-F.Infix x0 x1 x2 x3 x4 x5)

pub head_nested : (x0 : Span) (x1 : Span) (x2 : FunLhs) (x3 : Span) (x4 : ArgPattern) (x5 : List ArgPattern) → (head_of (v_FunLhs.Nested x0 x1 x2 x3 x4 x5)).named ≡ (head_of x2).named
unfolding head_of
head_nested x0 x1 x2 x3 x4 x5 = ap (λ (h : Head). h.named) (ap head_of (sym (v_FunLhs.rolls-Nested x0 x1 x2 x3 x4 x5)) ∙ fold-roll-FunLhs Head head_step (FunLhs-F.Nested x0 x1 x2 x3 x4 x5))

pub arguments_nested : (x0 : Span) (x1 : Span) (x2 : FunLhs) (x3 : Span) (x4 : ArgPattern) (x5 : List ArgPattern) → (head_of (v_FunLhs.Nested x0 x1 x2 x3 x4 x5)).arguments ≡ (head_of x2).arguments + (1 + length x5)
unfolding head_of
arguments_nested x0 x1 x2 x3 x4 x5 = ap (λ (h : Head). h.arguments) (ap head_of (sym (v_FunLhs.rolls-Nested x0 x1 x2 x3 x4 x5)) ∙ fold-roll-FunLhs Head head_step (FunLhs-F.Nested x0 x1 x2 x3 x4 x5))

pub left_nested : (x0 : Span) (x1 : Span) (x2 : FunLhs) (x3 : Span) (x4 : ArgPattern) (x5 : List ArgPattern) → left_variables (v_FunLhs.Nested x0 x1 x2 x3 x4 x5) ≡ left_variables x2 ++ (arg_pattern_variables x4 ++ flat_map arg_pattern_variables x5)
unfolding left_variables
left_nested x0 x1 x2 x3 x4 x5 = ap left_variables (sym (v_FunLhs.rolls-Nested x0 x1 x2 x3 x4 x5)) ∙ fold-roll-FunLhs (List Named) left_step (FunLhs-F.Nested x0 x1 x2 x3 x4 x5)
