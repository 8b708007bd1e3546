-- The variables of patterns, node by node, and the heads of left sides.
use Rattle.std.proofs.Common.{◌≡◌, ℕ, List, [], ◌∷◌, ◌++◌, map, sym, ap, refl, ◌∙◌}
use Rattle.std.specs.List.{flat_map}
use Rattle.gh_base.specs.declared.names.NameId.{NameId}
use Rattle.gh_base.specs.declared.place.Span.{Span}
use Rattle.gh_tree.specs.declared.names.Var.{Var}
use Rattle.gh_tree.specs.declared.names.VarOp.{VarOp}
use Rattle.gh_tree.specs.declared.names.GenCon.{GenCon}
use Rattle.gh_tree.specs.declared.patterns.ArgPattern.{ArgPattern, fold-roll-ArgPattern}
use Rattle.gh_tree.specs.declared.patterns.ArgPattern.TheVariants as v_ArgPattern
use Rattle.gh_tree.specs.declared.patterns.PatOperand.{PatOperand, fold-roll-PatOperand}
use Rattle.gh_tree.specs.declared.patterns.PatOperand.TheVariants as v_PatOperand
use Rattle.gh_tree.specs.declared.patterns.NextPattern.{NextPattern, out-NextPattern, fold_out-NextPattern}
use Rattle.gh_tree.specs.declared.patterns.PatPart.{PatPart, out-PatPart, fold_out-PatPart}
use Rattle.gh_tree.specs.declared.patterns.Pattern.{Pattern, out-Pattern, fold_out-Pattern}
use Rattle.gh_tree.specs.declared.patterns.ArgPattern.TheOpen.{ArgPattern-F, PatOperand-F}
use Rattle.gh_tree.specs.declared.patterns.FunLhs.{FunLhs, fold-roll-FunLhs}
use Rattle.gh_tree.specs.declared.patterns.FunLhs.TheVariants as v_FunLhs
use Rattle.gh_tree.specs.declared.patterns.FunLhs.TheOpen.{FunLhs-F}
use Rattle.gh_modules.specs.Patterns.{var_name, var_op_name, joined, arg_pattern_names, pat_operand_names, next_pattern_names, pat_part_names, pattern_names, arg_pattern_step, pat_operand_step, next_pattern_step, pat_part_step, pattern_step, head_name, head_step}

-- joining what a function gives
joined_map : {X : Type 0} (f : X → List NameId) (xs : List X) → joined (map f xs) ≡ flat_map f xs
joined_map f [] = refl
joined_map f (x ∷ xs) = ap (λ l. f x ++ l) (joined_map f xs)

pub arg_pattern_var : (x0 : Var) → arg_pattern_names (v_ArgPattern.Var x0) ≡ var_name x0 ∷ []
unfolding arg_pattern_names pat_operand_names next_pattern_names pat_part_names pattern_names
arg_pattern_var x0 = ap arg_pattern_names (sym (v_ArgPattern.rolls-Var x0)) ∙ fold-roll-ArgPattern (List NameId) (List NameId) (List NameId) (List NameId) (List NameId) arg_pattern_step pat_operand_step next_pattern_step pat_part_step pattern_step (ArgPattern-F.Var x0)

pub arg_pattern_as : (x0 : Span) (x1 : Var) (x2 : Span) (x3 : ArgPattern) → arg_pattern_names (v_ArgPattern.As x0 x1 x2 x3) ≡ var_name x1 ∷ arg_pattern_names x3
unfolding arg_pattern_names pat_operand_names next_pattern_names pat_part_names pattern_names
arg_pattern_as x0 x1 x2 x3 = ap arg_pattern_names (sym (v_ArgPattern.rolls-As x0 x1 x2 x3)) ∙ fold-roll-ArgPattern (List NameId) (List NameId) (List NameId) (List NameId) (List NameId) arg_pattern_step pat_operand_step next_pattern_step pat_part_step pattern_step (ArgPattern-F.As x0 x1 x2 x3)

pub arg_pattern_wild : (x0 : Span) → arg_pattern_names (v_ArgPattern.Wild x0) ≡ []
unfolding arg_pattern_names pat_operand_names next_pattern_names pat_part_names pattern_names
arg_pattern_wild x0 = ap arg_pattern_names (sym (v_ArgPattern.rolls-Wild x0)) ∙ fold-roll-ArgPattern (List NameId) (List NameId) (List NameId) (List NameId) (List NameId) arg_pattern_step pat_operand_step next_pattern_step pat_part_step pattern_step (ArgPattern-F.Wild x0)

pub arg_pattern_con : (x0 : GenCon) → arg_pattern_names (v_ArgPattern.Con x0) ≡ []
unfolding arg_pattern_names pat_operand_names next_pattern_names pat_part_names pattern_names
arg_pattern_con x0 = ap arg_pattern_names (sym (v_ArgPattern.rolls-Con x0)) ∙ fold-roll-ArgPattern (List NameId) (List NameId) (List NameId) (List NameId) (List NameId) arg_pattern_step pat_operand_step next_pattern_step pat_part_step pattern_step (ArgPattern-F.ArgPattern::Con x0)

pub arg_pattern_int : (x0 : Span) (x1 : ℕ) → arg_pattern_names (v_ArgPattern.Int x0 x1) ≡ []
unfolding arg_pattern_names pat_operand_names next_pattern_names pat_part_names pattern_names
arg_pattern_int x0 x1 = ap arg_pattern_names (sym (v_ArgPattern.rolls-Int x0 x1)) ∙ fold-roll-ArgPattern (List NameId) (List NameId) (List NameId) (List NameId) (List NameId) arg_pattern_step pat_operand_step next_pattern_step pat_part_step pattern_step (ArgPattern-F.Int x0 x1)

pub arg_pattern_char : (x0 : Span) (x1 : ℕ) → arg_pattern_names (v_ArgPattern.Char x0 x1) ≡ []
unfolding arg_pattern_names pat_operand_names next_pattern_names pat_part_names pattern_names
arg_pattern_char x0 x1 = ap arg_pattern_names (sym (v_ArgPattern.rolls-Char x0 x1)) ∙ fold-roll-ArgPattern (List NameId) (List NameId) (List NameId) (List NameId) (List NameId) arg_pattern_step pat_operand_step next_pattern_step pat_part_step pattern_step (ArgPattern-F.Char x0 x1)

pub arg_pattern_str : (x0 : Span) (x1 : List ℕ) → arg_pattern_names (v_ArgPattern.Str x0 x1) ≡ []
unfolding arg_pattern_names pat_operand_names next_pattern_names pat_part_names pattern_names
arg_pattern_str x0 x1 = ap arg_pattern_names (sym (v_ArgPattern.rolls-Str x0 x1)) ∙ fold-roll-ArgPattern (List NameId) (List NameId) (List NameId) (List NameId) (List NameId) arg_pattern_step pat_operand_step next_pattern_step pat_part_step pattern_step (ArgPattern-F.Str x0 x1)

pub arg_pattern_paren : (x0 : Span) (x1 : Span) (x2 : Pattern) (x3 : Span) → arg_pattern_names (v_ArgPattern.Paren x0 x1 x2 x3) ≡ pattern_names x2
unfolding arg_pattern_names pat_operand_names next_pattern_names pat_part_names pattern_names
arg_pattern_paren x0 x1 x2 x3 = ap arg_pattern_names (sym (v_ArgPattern.rolls-Paren x0 x1 x2 x3)) ∙ fold-roll-ArgPattern (List NameId) (List NameId) (List NameId) (List NameId) (List NameId) arg_pattern_step pat_operand_step next_pattern_step pat_part_step pattern_step (ArgPattern-F.Paren x0 x1 x2 x3)

pub arg_pattern_tuple : (x0 : Span) (x1 : Span) (x2 : Pattern) (x3 : List PatPart) (x4 : Span) → arg_pattern_names (v_ArgPattern.Tuple x0 x1 x2 x3 x4) ≡ pattern_names x2 ++ flat_map pat_part_names x3
unfolding arg_pattern_names pat_operand_names next_pattern_names pat_part_names pattern_names
arg_pattern_tuple x0 x1 x2 x3 x4 = ap arg_pattern_names (sym (v_ArgPattern.rolls-Tuple x0 x1 x2 x3 x4)) ∙ fold-roll-ArgPattern (List NameId) (List NameId) (List NameId) (List NameId) (List NameId) arg_pattern_step pat_operand_step next_pattern_step pat_part_step pattern_step (ArgPattern-F.Tuple x0 x1 x2 x3 x4) ∙ ap (λ l. pattern_names x2 ++ l) (joined_map pat_part_names x3)

pub arg_pattern_list : (x0 : Span) (x1 : Span) (x2 : Pattern) (x3 : List PatPart) (x4 : Span) → arg_pattern_names (v_ArgPattern.List x0 x1 x2 x3 x4) ≡ pattern_names x2 ++ flat_map pat_part_names x3
unfolding arg_pattern_names pat_operand_names next_pattern_names pat_part_names pattern_names
arg_pattern_list x0 x1 x2 x3 x4 = ap arg_pattern_names (sym (v_ArgPattern.rolls-List x0 x1 x2 x3 x4)) ∙ fold-roll-ArgPattern (List NameId) (List NameId) (List NameId) (List NameId) (List NameId) arg_pattern_step pat_operand_step next_pattern_step pat_part_step pattern_step (ArgPattern-F.List x0 x1 x2 x3 x4) ∙ ap (λ l. pattern_names x2 ++ l) (joined_map pat_part_names x3)

pub pat_operand_negative : (x0 : Span) (x1 : Span) (x2 : Span) (x3 : ℕ) → pat_operand_names (v_PatOperand.Negative x0 x1 x2 x3) ≡ []
unfolding arg_pattern_names pat_operand_names next_pattern_names pat_part_names pattern_names
pat_operand_negative x0 x1 x2 x3 = ap pat_operand_names (sym (v_PatOperand.rolls-Negative x0 x1 x2 x3)) ∙ fold-roll-PatOperand (List NameId) (List NameId) (List NameId) (List NameId) (List NameId) arg_pattern_step pat_operand_step next_pattern_step pat_part_step pattern_step (PatOperand-F.Negative x0 x1 x2 x3)

pub pat_operand_arg : (x0 : ArgPattern) → pat_operand_names (v_PatOperand.Arg x0) ≡ arg_pattern_names x0
unfolding arg_pattern_names pat_operand_names next_pattern_names pat_part_names pattern_names
pat_operand_arg x0 = ap pat_operand_names (sym (v_PatOperand.rolls-Arg x0)) ∙ fold-roll-PatOperand (List NameId) (List NameId) (List NameId) (List NameId) (List NameId) arg_pattern_step pat_operand_step next_pattern_step pat_part_step pattern_step (PatOperand-F.Arg x0)

pub pat_operand_con : (x0 : Span) (x1 : GenCon) (x2 : ArgPattern) (x3 : List ArgPattern) → pat_operand_names (v_PatOperand.Con x0 x1 x2 x3) ≡ arg_pattern_names x2 ++ flat_map arg_pattern_names x3
unfolding arg_pattern_names pat_operand_names next_pattern_names pat_part_names pattern_names
pat_operand_con x0 x1 x2 x3 = ap pat_operand_names (sym (v_PatOperand.rolls-Con x0 x1 x2 x3)) ∙ fold-roll-PatOperand (List NameId) (List NameId) (List NameId) (List NameId) (List NameId) arg_pattern_step pat_operand_step next_pattern_step pat_part_step pattern_step (PatOperand-F.PatOperand::Con x0 x1 x2 x3) ∙ ap (λ l. arg_pattern_names x2 ++ l) (joined_map arg_pattern_names x3)

pub next_pattern_at : (x : NextPattern) → next_pattern_names x ≡ pat_operand_names (out-NextPattern x).operand
unfolding arg_pattern_names pat_operand_names next_pattern_names pat_part_names pattern_names
next_pattern_at x = fold_out-NextPattern (List NameId) (List NameId) (List NameId) (List NameId) (List NameId) arg_pattern_step pat_operand_step next_pattern_step pat_part_step pattern_step x

pub pat_part_at : (x : PatPart) → pat_part_names x ≡ pattern_names (out-PatPart x).part
unfolding arg_pattern_names pat_operand_names next_pattern_names pat_part_names pattern_names
pat_part_at x = fold_out-PatPart (List NameId) (List NameId) (List NameId) (List NameId) (List NameId) arg_pattern_step pat_operand_step next_pattern_step pat_part_step pattern_step x

pub pattern_at : (x : Pattern) → pattern_names x ≡ pat_operand_names (out-Pattern x).first ++ flat_map next_pattern_names (out-Pattern x).others
unfolding arg_pattern_names pat_operand_names next_pattern_names pat_part_names pattern_names
pattern_at x = fold_out-Pattern (List NameId) (List NameId) (List NameId) (List NameId) (List NameId) arg_pattern_step pat_operand_step next_pattern_step pat_part_step pattern_step x ∙ ap (λ l. pat_operand_names (out-Pattern x).first ++ l) (joined_map next_pattern_names (out-Pattern x).others)

pub head_prefix : (x0 : Span) (x1 : Var) (x2 : List ArgPattern) → head_name (v_FunLhs.Prefix x0 x1 x2) ≡ var_name x1
unfolding head_name
head_prefix x0 x1 x2 = ap head_name (sym (v_FunLhs.rolls-Prefix x0 x1 x2)) ∙ fold-roll-FunLhs NameId head_step (FunLhs-F.Prefix x0 x1 x2)

pub head_infix : (x0 : Span) (x1 : PatOperand) (x2 : List NextPattern) (x3 : VarOp) (x4 : PatOperand) (x5 : List NextPattern) → head_name (v_FunLhs.Infix x0 x1 x2 x3 x4 x5) ≡ var_op_name x3
unfolding head_name
head_infix x0 x1 x2 x3 x4 x5 = ap head_name (sym (v_FunLhs.rolls-Infix x0 x1 x2 x3 x4 x5)) ∙ fold-roll-FunLhs NameId head_step (FunLhs-F.Infix x0 x1 x2 x3 x4 x5)

pub head_nested : (x0 : Span) (x1 : Span) (x2 : FunLhs) (x3 : Span) (x4 : ArgPattern) (x5 : List ArgPattern) → head_name (v_FunLhs.Nested x0 x1 x2 x3 x4 x5) ≡ head_name x2
unfolding head_name
head_nested x0 x1 x2 x3 x4 x5 = ap head_name (sym (v_FunLhs.rolls-Nested x0 x1 x2 x3 x4 x5)) ∙ fold-roll-FunLhs NameId head_step (FunLhs-F.Nested x0 x1 x2 x3 x4 x5)
