-- Expressions and declarations, variant by variant.
use Rattle.std.proofs.Common.{◌≡◌, ℕ, List, [], ◌∷◌, ◌++◌, map, Option, sym, ap, ◌∙◌}
use Rattle.gh_base.specs.declared.place.Span.{Span}
use Rattle.gh_program.specs.declared.names.Occurrence.{Occurrence}
use Rattle.gh_program.specs.declared.names.GenCon.{GenCon}
use Rattle.gh_program.specs.declared.names.FixityWord.{FixityWord}
use Rattle.gh_program.specs.declared.types.TypeExpr.{TypeExpr}
use Rattle.gh_program.specs.declared.expressions.Aexp.{Aexp, fold-roll-Aexp}
use Rattle.gh_program.specs.declared.expressions.Aexp.TheVariants as v_Aexp
use Rattle.gh_program.specs.declared.expressions.Alt.{Alt, fold-roll-Alt}
use Rattle.gh_program.specs.declared.expressions.Alt.TheVariants as v_Alt
use Rattle.gh_program.specs.declared.expressions.Decl.{Decl, fold-roll-Decl}
use Rattle.gh_program.specs.declared.expressions.Decl.TheVariants as v_Decl
use Rattle.gh_program.specs.declared.expressions.Exp.{Exp, fold-roll-Exp}
use Rattle.gh_program.specs.declared.expressions.Exp.TheVariants as v_Exp
use Rattle.gh_program.specs.declared.expressions.Locals.{Locals, fold-roll-Locals}
use Rattle.gh_program.specs.declared.expressions.Locals.TheVariants as v_Locals
use Rattle.gh_program.specs.declared.expressions.Open.{Open, fold-roll-Open}
use Rattle.gh_program.specs.declared.expressions.Open.TheVariants as v_Open
use Rattle.gh_program.specs.declared.expressions.Operand.{Operand, fold-roll-Operand}
use Rattle.gh_program.specs.declared.expressions.Operand.TheVariants as v_Operand
use Rattle.gh_program.specs.declared.expressions.Operands.{Operands, fold-roll-Operands}
use Rattle.gh_program.specs.declared.expressions.Operands.TheVariants as v_Operands
use Rattle.gh_program.specs.declared.expressions.Rhs.{Rhs, fold-roll-Rhs}
use Rattle.gh_program.specs.declared.expressions.Rhs.TheVariants as v_Rhs
use Rattle.gh_program.specs.declared.expressions.Guard.{Guard, out-Guard, fold_out-Guard, roll-Guard}
use Rattle.gh_program.specs.declared.expressions.NextOperand.{NextOperand, out-NextOperand, fold_out-NextOperand}
use Rattle.gh_program.specs.declared.expressions.Redef.{Redef, out-Redef, fold_out-Redef, roll-Redef}
use Rattle.gh_program.specs.declared.expressions.Aexp.TheOpen.{Aexp-F, Alt-F, Decl-F, Exp-F, Locals-F, Open-F, Operand-F, Operands-F, Rhs-F}
use Rattle.gh_program.specs.declared.patterns.Pattern.{Pattern}
use Rattle.gh_program.specs.declared.patterns.ArgPattern.{ArgPattern}
use Rattle.gh_program.specs.declared.patterns.FunLhs.{FunLhs}
use Rattle.gh_fixity.specs.declared.part.Part.{Part}
use Rattle.gh_fixity.specs.declared.part.Part.TheVariants as part
use Rattle.gh_fixity.specs.declared.walked.Walked.{Walked}
use Rattle.gh_fixity.specs.declared.walked.Walked.TheVariants as walked
use Rattle.gh_fixity.specs.Finish.{finished, finished_pattern, left_tree, left_clashes, right_tree, right_clashes}
use Rattle.gh_fixity.specs.Fixities.{TopFixities, LocalFixities, with_locals, written_fixity}
use Rattle.gh_fixity.specs.Patterns.{arg_pattern_out, pattern_out, fun_lhs_out}
use Rattle.gh_fixity.specs.Walks.{Walk, Scoped, trees, all_clashes, all_trees, walks, entered}
use Rattle.gh_fixity.specs.Exps.{signed, aexp_out, aexp_step, alt_out, alt_step, decl_out, decl_step, exp_out, exp_step, locals_out, locals_step, open_out, open_step, operand_out, operand_step, operands_out, operands_step, rhs_out, rhs_step, guard_out, guard_step, next_operand_out, next_operand_step, redef_out, redef_step}

pub aexp_var_tree : (ts : TopFixities) (l : LocalFixities) (o : Occurrence) → (aexp_out ts (v_Aexp.Var o) l).tree ≡ v_Aexp.Var o
unfolding aexp_out alt_out decl_out exp_out locals_out open_out operand_out operands_out rhs_out guard_out next_operand_out redef_out
aexp_var_tree ts l o = ap (λ (g : Walk Aexp). (g l).tree) (ap (aexp_out ts) (sym (v_Aexp.rolls-Var o)) ∙ fold-roll-Aexp (Walk Aexp) (Walk Alt) (Scoped Decl) (Walk Exp) (Scoped Locals) (Walk Open) (Walk Operand) (Walk Walked) (Walk Rhs) (Walk Guard) (Walk (List Part)) (Walk Redef) (aexp_step ts) (alt_step ts) (decl_step ts) (exp_step ts) (locals_step ts) (open_step ts) (operand_step ts) (operands_step ts) (rhs_step ts) (guard_step ts) (next_operand_step ts) (redef_step ts) (Aexp-F.Var o))

pub aexp_var_clashes : (ts : TopFixities) (l : LocalFixities) (o : Occurrence) → (aexp_out ts (v_Aexp.Var o) l).clashes ≡ []
unfolding aexp_out alt_out decl_out exp_out locals_out open_out operand_out operands_out rhs_out guard_out next_operand_out redef_out
aexp_var_clashes ts l o = ap (λ (g : Walk Aexp). (g l).clashes) (ap (aexp_out ts) (sym (v_Aexp.rolls-Var o)) ∙ fold-roll-Aexp (Walk Aexp) (Walk Alt) (Scoped Decl) (Walk Exp) (Scoped Locals) (Walk Open) (Walk Operand) (Walk Walked) (Walk Rhs) (Walk Guard) (Walk (List Part)) (Walk Redef) (aexp_step ts) (alt_step ts) (decl_step ts) (exp_step ts) (locals_step ts) (open_step ts) (operand_step ts) (operands_step ts) (rhs_step ts) (guard_step ts) (next_operand_step ts) (redef_step ts) (Aexp-F.Var o))

pub aexp_generic_tree : (ts : TopFixities) (l : LocalFixities) (s : Span) (o : Occurrence) (y : TypeExpr) → (aexp_out ts (v_Aexp.Generic s o y) l).tree ≡ v_Aexp.Generic s o y
unfolding aexp_out alt_out decl_out exp_out locals_out open_out operand_out operands_out rhs_out guard_out next_operand_out redef_out
aexp_generic_tree ts l s o y = ap (λ (g : Walk Aexp). (g l).tree) (ap (aexp_out ts) (sym (v_Aexp.rolls-Generic s o y)) ∙ fold-roll-Aexp (Walk Aexp) (Walk Alt) (Scoped Decl) (Walk Exp) (Scoped Locals) (Walk Open) (Walk Operand) (Walk Walked) (Walk Rhs) (Walk Guard) (Walk (List Part)) (Walk Redef) (aexp_step ts) (alt_step ts) (decl_step ts) (exp_step ts) (locals_step ts) (open_step ts) (operand_step ts) (operands_step ts) (rhs_step ts) (guard_step ts) (next_operand_step ts) (redef_step ts) (Aexp-F.Generic s o y))

pub aexp_generic_clashes : (ts : TopFixities) (l : LocalFixities) (s : Span) (o : Occurrence) (y : TypeExpr) → (aexp_out ts (v_Aexp.Generic s o y) l).clashes ≡ []
unfolding aexp_out alt_out decl_out exp_out locals_out open_out operand_out operands_out rhs_out guard_out next_operand_out redef_out
aexp_generic_clashes ts l s o y = ap (λ (g : Walk Aexp). (g l).clashes) (ap (aexp_out ts) (sym (v_Aexp.rolls-Generic s o y)) ∙ fold-roll-Aexp (Walk Aexp) (Walk Alt) (Scoped Decl) (Walk Exp) (Scoped Locals) (Walk Open) (Walk Operand) (Walk Walked) (Walk Rhs) (Walk Guard) (Walk (List Part)) (Walk Redef) (aexp_step ts) (alt_step ts) (decl_step ts) (exp_step ts) (locals_step ts) (open_step ts) (operand_step ts) (operands_step ts) (rhs_step ts) (guard_step ts) (next_operand_step ts) (redef_step ts) (Aexp-F.Generic s o y))

pub aexp_con_tree : (ts : TopFixities) (l : LocalFixities) (g : GenCon) → (aexp_out ts (v_Aexp.Con g) l).tree ≡ v_Aexp.Con g
unfolding aexp_out alt_out decl_out exp_out locals_out open_out operand_out operands_out rhs_out guard_out next_operand_out redef_out
aexp_con_tree ts l g = ap (λ (g : Walk Aexp). (g l).tree) (ap (aexp_out ts) (sym (v_Aexp.rolls-Con g)) ∙ fold-roll-Aexp (Walk Aexp) (Walk Alt) (Scoped Decl) (Walk Exp) (Scoped Locals) (Walk Open) (Walk Operand) (Walk Walked) (Walk Rhs) (Walk Guard) (Walk (List Part)) (Walk Redef) (aexp_step ts) (alt_step ts) (decl_step ts) (exp_step ts) (locals_step ts) (open_step ts) (operand_step ts) (operands_step ts) (rhs_step ts) (guard_step ts) (next_operand_step ts) (redef_step ts) (Aexp-F.Con g))

pub aexp_con_clashes : (ts : TopFixities) (l : LocalFixities) (g : GenCon) → (aexp_out ts (v_Aexp.Con g) l).clashes ≡ []
unfolding aexp_out alt_out decl_out exp_out locals_out open_out operand_out operands_out rhs_out guard_out next_operand_out redef_out
aexp_con_clashes ts l g = ap (λ (g : Walk Aexp). (g l).clashes) (ap (aexp_out ts) (sym (v_Aexp.rolls-Con g)) ∙ fold-roll-Aexp (Walk Aexp) (Walk Alt) (Scoped Decl) (Walk Exp) (Scoped Locals) (Walk Open) (Walk Operand) (Walk Walked) (Walk Rhs) (Walk Guard) (Walk (List Part)) (Walk Redef) (aexp_step ts) (alt_step ts) (decl_step ts) (exp_step ts) (locals_step ts) (open_step ts) (operand_step ts) (operands_step ts) (rhs_step ts) (guard_step ts) (next_operand_step ts) (redef_step ts) (Aexp-F.Con g))

pub aexp_int_tree : (ts : TopFixities) (l : LocalFixities) (s : Span) (n : ℕ) → (aexp_out ts (v_Aexp.Int s n) l).tree ≡ v_Aexp.Int s n
unfolding aexp_out alt_out decl_out exp_out locals_out open_out operand_out operands_out rhs_out guard_out next_operand_out redef_out
aexp_int_tree ts l s n = ap (λ (g : Walk Aexp). (g l).tree) (ap (aexp_out ts) (sym (v_Aexp.rolls-Int s n)) ∙ fold-roll-Aexp (Walk Aexp) (Walk Alt) (Scoped Decl) (Walk Exp) (Scoped Locals) (Walk Open) (Walk Operand) (Walk Walked) (Walk Rhs) (Walk Guard) (Walk (List Part)) (Walk Redef) (aexp_step ts) (alt_step ts) (decl_step ts) (exp_step ts) (locals_step ts) (open_step ts) (operand_step ts) (operands_step ts) (rhs_step ts) (guard_step ts) (next_operand_step ts) (redef_step ts) (Aexp-F.Int s n))

pub aexp_int_clashes : (ts : TopFixities) (l : LocalFixities) (s : Span) (n : ℕ) → (aexp_out ts (v_Aexp.Int s n) l).clashes ≡ []
unfolding aexp_out alt_out decl_out exp_out locals_out open_out operand_out operands_out rhs_out guard_out next_operand_out redef_out
aexp_int_clashes ts l s n = ap (λ (g : Walk Aexp). (g l).clashes) (ap (aexp_out ts) (sym (v_Aexp.rolls-Int s n)) ∙ fold-roll-Aexp (Walk Aexp) (Walk Alt) (Scoped Decl) (Walk Exp) (Scoped Locals) (Walk Open) (Walk Operand) (Walk Walked) (Walk Rhs) (Walk Guard) (Walk (List Part)) (Walk Redef) (aexp_step ts) (alt_step ts) (decl_step ts) (exp_step ts) (locals_step ts) (open_step ts) (operand_step ts) (operands_step ts) (rhs_step ts) (guard_step ts) (next_operand_step ts) (redef_step ts) (Aexp-F.Int s n))

pub aexp_char_tree : (ts : TopFixities) (l : LocalFixities) (s : Span) (n : ℕ) → (aexp_out ts (v_Aexp.Char s n) l).tree ≡ v_Aexp.Char s n
unfolding aexp_out alt_out decl_out exp_out locals_out open_out operand_out operands_out rhs_out guard_out next_operand_out redef_out
aexp_char_tree ts l s n = ap (λ (g : Walk Aexp). (g l).tree) (ap (aexp_out ts) (sym (v_Aexp.rolls-Char s n)) ∙ fold-roll-Aexp (Walk Aexp) (Walk Alt) (Scoped Decl) (Walk Exp) (Scoped Locals) (Walk Open) (Walk Operand) (Walk Walked) (Walk Rhs) (Walk Guard) (Walk (List Part)) (Walk Redef) (aexp_step ts) (alt_step ts) (decl_step ts) (exp_step ts) (locals_step ts) (open_step ts) (operand_step ts) (operands_step ts) (rhs_step ts) (guard_step ts) (next_operand_step ts) (redef_step ts) (Aexp-F.Char s n))

pub aexp_char_clashes : (ts : TopFixities) (l : LocalFixities) (s : Span) (n : ℕ) → (aexp_out ts (v_Aexp.Char s n) l).clashes ≡ []
unfolding aexp_out alt_out decl_out exp_out locals_out open_out operand_out operands_out rhs_out guard_out next_operand_out redef_out
aexp_char_clashes ts l s n = ap (λ (g : Walk Aexp). (g l).clashes) (ap (aexp_out ts) (sym (v_Aexp.rolls-Char s n)) ∙ fold-roll-Aexp (Walk Aexp) (Walk Alt) (Scoped Decl) (Walk Exp) (Scoped Locals) (Walk Open) (Walk Operand) (Walk Walked) (Walk Rhs) (Walk Guard) (Walk (List Part)) (Walk Redef) (aexp_step ts) (alt_step ts) (decl_step ts) (exp_step ts) (locals_step ts) (open_step ts) (operand_step ts) (operands_step ts) (rhs_step ts) (guard_step ts) (next_operand_step ts) (redef_step ts) (Aexp-F.Char s n))

pub aexp_str_tree : (ts : TopFixities) (l : LocalFixities) (s : Span) (cs : List ℕ) → (aexp_out ts (v_Aexp.Str s cs) l).tree ≡ v_Aexp.Str s cs
unfolding aexp_out alt_out decl_out exp_out locals_out open_out operand_out operands_out rhs_out guard_out next_operand_out redef_out
aexp_str_tree ts l s cs = ap (λ (g : Walk Aexp). (g l).tree) (ap (aexp_out ts) (sym (v_Aexp.rolls-Str s cs)) ∙ fold-roll-Aexp (Walk Aexp) (Walk Alt) (Scoped Decl) (Walk Exp) (Scoped Locals) (Walk Open) (Walk Operand) (Walk Walked) (Walk Rhs) (Walk Guard) (Walk (List Part)) (Walk Redef) (aexp_step ts) (alt_step ts) (decl_step ts) (exp_step ts) (locals_step ts) (open_step ts) (operand_step ts) (operands_step ts) (rhs_step ts) (guard_step ts) (next_operand_step ts) (redef_step ts) (Aexp-F.Str s cs))

pub aexp_str_clashes : (ts : TopFixities) (l : LocalFixities) (s : Span) (cs : List ℕ) → (aexp_out ts (v_Aexp.Str s cs) l).clashes ≡ []
unfolding aexp_out alt_out decl_out exp_out locals_out open_out operand_out operands_out rhs_out guard_out next_operand_out redef_out
aexp_str_clashes ts l s cs = ap (λ (g : Walk Aexp). (g l).clashes) (ap (aexp_out ts) (sym (v_Aexp.rolls-Str s cs)) ∙ fold-roll-Aexp (Walk Aexp) (Walk Alt) (Scoped Decl) (Walk Exp) (Scoped Locals) (Walk Open) (Walk Operand) (Walk Walked) (Walk Rhs) (Walk Guard) (Walk (List Part)) (Walk Redef) (aexp_step ts) (alt_step ts) (decl_step ts) (exp_step ts) (locals_step ts) (open_step ts) (operand_step ts) (operands_step ts) (rhs_step ts) (guard_step ts) (next_operand_step ts) (redef_step ts) (Aexp-F.Str s cs))

pub aexp_paren_tree : (ts : TopFixities) (l : LocalFixities) (s : Span) (x : Exp) → (aexp_out ts (v_Aexp.Paren s x) l).tree ≡ v_Aexp.Paren s (exp_out ts x l).tree
unfolding aexp_out alt_out decl_out exp_out locals_out open_out operand_out operands_out rhs_out guard_out next_operand_out redef_out
aexp_paren_tree ts l s x = ap (λ (g : Walk Aexp). (g l).tree) (ap (aexp_out ts) (sym (v_Aexp.rolls-Paren s x)) ∙ fold-roll-Aexp (Walk Aexp) (Walk Alt) (Scoped Decl) (Walk Exp) (Scoped Locals) (Walk Open) (Walk Operand) (Walk Walked) (Walk Rhs) (Walk Guard) (Walk (List Part)) (Walk Redef) (aexp_step ts) (alt_step ts) (decl_step ts) (exp_step ts) (locals_step ts) (open_step ts) (operand_step ts) (operands_step ts) (rhs_step ts) (guard_step ts) (next_operand_step ts) (redef_step ts) (Aexp-F.Paren s x))

pub aexp_paren_clashes : (ts : TopFixities) (l : LocalFixities) (s : Span) (x : Exp) → (aexp_out ts (v_Aexp.Paren s x) l).clashes ≡ (exp_out ts x l).clashes
unfolding aexp_out alt_out decl_out exp_out locals_out open_out operand_out operands_out rhs_out guard_out next_operand_out redef_out
aexp_paren_clashes ts l s x = ap (λ (g : Walk Aexp). (g l).clashes) (ap (aexp_out ts) (sym (v_Aexp.rolls-Paren s x)) ∙ fold-roll-Aexp (Walk Aexp) (Walk Alt) (Scoped Decl) (Walk Exp) (Scoped Locals) (Walk Open) (Walk Operand) (Walk Walked) (Walk Rhs) (Walk Guard) (Walk (List Part)) (Walk Redef) (aexp_step ts) (alt_step ts) (decl_step ts) (exp_step ts) (locals_step ts) (open_step ts) (operand_step ts) (operands_step ts) (rhs_step ts) (guard_step ts) (next_operand_step ts) (redef_step ts) (Aexp-F.Paren s x))

pub aexp_tuple_tree : (ts : TopFixities) (l : LocalFixities) (s : Span) (xs : List Exp) → (aexp_out ts (v_Aexp.Tuple s xs) l).tree ≡ v_Aexp.Tuple s (trees l (map (exp_out ts) xs))
unfolding aexp_out alt_out decl_out exp_out locals_out open_out operand_out operands_out rhs_out guard_out next_operand_out redef_out
aexp_tuple_tree ts l s xs = ap (λ (g : Walk Aexp). (g l).tree) (ap (aexp_out ts) (sym (v_Aexp.rolls-Tuple s xs)) ∙ fold-roll-Aexp (Walk Aexp) (Walk Alt) (Scoped Decl) (Walk Exp) (Scoped Locals) (Walk Open) (Walk Operand) (Walk Walked) (Walk Rhs) (Walk Guard) (Walk (List Part)) (Walk Redef) (aexp_step ts) (alt_step ts) (decl_step ts) (exp_step ts) (locals_step ts) (open_step ts) (operand_step ts) (operands_step ts) (rhs_step ts) (guard_step ts) (next_operand_step ts) (redef_step ts) (Aexp-F.Tuple s xs))

pub aexp_tuple_clashes : (ts : TopFixities) (l : LocalFixities) (s : Span) (xs : List Exp) → (aexp_out ts (v_Aexp.Tuple s xs) l).clashes ≡ all_clashes l (map (exp_out ts) xs)
unfolding aexp_out alt_out decl_out exp_out locals_out open_out operand_out operands_out rhs_out guard_out next_operand_out redef_out
aexp_tuple_clashes ts l s xs = ap (λ (g : Walk Aexp). (g l).clashes) (ap (aexp_out ts) (sym (v_Aexp.rolls-Tuple s xs)) ∙ fold-roll-Aexp (Walk Aexp) (Walk Alt) (Scoped Decl) (Walk Exp) (Scoped Locals) (Walk Open) (Walk Operand) (Walk Walked) (Walk Rhs) (Walk Guard) (Walk (List Part)) (Walk Redef) (aexp_step ts) (alt_step ts) (decl_step ts) (exp_step ts) (locals_step ts) (open_step ts) (operand_step ts) (operands_step ts) (rhs_step ts) (guard_step ts) (next_operand_step ts) (redef_step ts) (Aexp-F.Tuple s xs))

pub aexp_list_tree : (ts : TopFixities) (l : LocalFixities) (s : Span) (xs : List Exp) → (aexp_out ts (v_Aexp.List s xs) l).tree ≡ v_Aexp.List s (trees l (map (exp_out ts) xs))
unfolding aexp_out alt_out decl_out exp_out locals_out open_out operand_out operands_out rhs_out guard_out next_operand_out redef_out
aexp_list_tree ts l s xs = ap (λ (g : Walk Aexp). (g l).tree) (ap (aexp_out ts) (sym (v_Aexp.rolls-List s xs)) ∙ fold-roll-Aexp (Walk Aexp) (Walk Alt) (Scoped Decl) (Walk Exp) (Scoped Locals) (Walk Open) (Walk Operand) (Walk Walked) (Walk Rhs) (Walk Guard) (Walk (List Part)) (Walk Redef) (aexp_step ts) (alt_step ts) (decl_step ts) (exp_step ts) (locals_step ts) (open_step ts) (operand_step ts) (operands_step ts) (rhs_step ts) (guard_step ts) (next_operand_step ts) (redef_step ts) (Aexp-F.List s xs))

pub aexp_list_clashes : (ts : TopFixities) (l : LocalFixities) (s : Span) (xs : List Exp) → (aexp_out ts (v_Aexp.List s xs) l).clashes ≡ all_clashes l (map (exp_out ts) xs)
unfolding aexp_out alt_out decl_out exp_out locals_out open_out operand_out operands_out rhs_out guard_out next_operand_out redef_out
aexp_list_clashes ts l s xs = ap (λ (g : Walk Aexp). (g l).clashes) (ap (aexp_out ts) (sym (v_Aexp.rolls-List s xs)) ∙ fold-roll-Aexp (Walk Aexp) (Walk Alt) (Scoped Decl) (Walk Exp) (Scoped Locals) (Walk Open) (Walk Operand) (Walk Walked) (Walk Rhs) (Walk Guard) (Walk (List Part)) (Walk Redef) (aexp_step ts) (alt_step ts) (decl_step ts) (exp_step ts) (locals_step ts) (open_step ts) (operand_step ts) (operands_step ts) (rhs_step ts) (guard_step ts) (next_operand_step ts) (redef_step ts) (Aexp-F.List s xs))

pub aexp_left_tree : (ts : TopFixities) (l : LocalFixities) (s : Span) (x : Operands) (o : Occurrence) → (aexp_out ts (v_Aexp.Left s x o) l).tree ≡ v_Aexp.Left s (left_tree ts l (operands_out ts x l).tree o) o
unfolding aexp_out alt_out decl_out exp_out locals_out open_out operand_out operands_out rhs_out guard_out next_operand_out redef_out
aexp_left_tree ts l s x o = ap (λ (g : Walk Aexp). (g l).tree) (ap (aexp_out ts) (sym (v_Aexp.rolls-Left s x o)) ∙ fold-roll-Aexp (Walk Aexp) (Walk Alt) (Scoped Decl) (Walk Exp) (Scoped Locals) (Walk Open) (Walk Operand) (Walk Walked) (Walk Rhs) (Walk Guard) (Walk (List Part)) (Walk Redef) (aexp_step ts) (alt_step ts) (decl_step ts) (exp_step ts) (locals_step ts) (open_step ts) (operand_step ts) (operands_step ts) (rhs_step ts) (guard_step ts) (next_operand_step ts) (redef_step ts) (Aexp-F.Left s x o))

pub aexp_left_clashes : (ts : TopFixities) (l : LocalFixities) (s : Span) (x : Operands) (o : Occurrence) → (aexp_out ts (v_Aexp.Left s x o) l).clashes ≡ (operands_out ts x l).clashes ++ left_clashes ts l (operands_out ts x l).tree o
unfolding aexp_out alt_out decl_out exp_out locals_out open_out operand_out operands_out rhs_out guard_out next_operand_out redef_out
aexp_left_clashes ts l s x o = ap (λ (g : Walk Aexp). (g l).clashes) (ap (aexp_out ts) (sym (v_Aexp.rolls-Left s x o)) ∙ fold-roll-Aexp (Walk Aexp) (Walk Alt) (Scoped Decl) (Walk Exp) (Scoped Locals) (Walk Open) (Walk Operand) (Walk Walked) (Walk Rhs) (Walk Guard) (Walk (List Part)) (Walk Redef) (aexp_step ts) (alt_step ts) (decl_step ts) (exp_step ts) (locals_step ts) (open_step ts) (operand_step ts) (operands_step ts) (rhs_step ts) (guard_step ts) (next_operand_step ts) (redef_step ts) (Aexp-F.Left s x o))

pub aexp_right_tree : (ts : TopFixities) (l : LocalFixities) (s : Span) (o : Occurrence) (x : Operands) → (aexp_out ts (v_Aexp.Right s o x) l).tree ≡ v_Aexp.Right s o (right_tree ts l o (operands_out ts x l).tree)
unfolding aexp_out alt_out decl_out exp_out locals_out open_out operand_out operands_out rhs_out guard_out next_operand_out redef_out
aexp_right_tree ts l s o x = ap (λ (g : Walk Aexp). (g l).tree) (ap (aexp_out ts) (sym (v_Aexp.rolls-Right s o x)) ∙ fold-roll-Aexp (Walk Aexp) (Walk Alt) (Scoped Decl) (Walk Exp) (Scoped Locals) (Walk Open) (Walk Operand) (Walk Walked) (Walk Rhs) (Walk Guard) (Walk (List Part)) (Walk Redef) (aexp_step ts) (alt_step ts) (decl_step ts) (exp_step ts) (locals_step ts) (open_step ts) (operand_step ts) (operands_step ts) (rhs_step ts) (guard_step ts) (next_operand_step ts) (redef_step ts) (Aexp-F.Right s o x))

pub aexp_right_clashes : (ts : TopFixities) (l : LocalFixities) (s : Span) (o : Occurrence) (x : Operands) → (aexp_out ts (v_Aexp.Right s o x) l).clashes ≡ (operands_out ts x l).clashes ++ right_clashes ts l o (operands_out ts x l).tree
unfolding aexp_out alt_out decl_out exp_out locals_out open_out operand_out operands_out rhs_out guard_out next_operand_out redef_out
aexp_right_clashes ts l s o x = ap (λ (g : Walk Aexp). (g l).clashes) (ap (aexp_out ts) (sym (v_Aexp.rolls-Right s o x)) ∙ fold-roll-Aexp (Walk Aexp) (Walk Alt) (Scoped Decl) (Walk Exp) (Scoped Locals) (Walk Open) (Walk Operand) (Walk Walked) (Walk Rhs) (Walk Guard) (Walk (List Part)) (Walk Redef) (aexp_step ts) (alt_step ts) (decl_step ts) (exp_step ts) (locals_step ts) (open_step ts) (operand_step ts) (operands_step ts) (rhs_step ts) (guard_step ts) (next_operand_step ts) (redef_step ts) (Aexp-F.Right s o x))

pub alt_plain_tree : (ts : TopFixities) (l : LocalFixities) (s : Span) (p : Pattern) (x : Exp) (ds : List Decl) → (alt_out ts (v_Alt.Plain s p x ds) l).tree ≡ v_Alt.Plain s (finished_pattern ts (pattern_out ts p) l).tree (exp_out ts x (entered (map (decl_out ts) ds) l)).tree (trees (entered (map (decl_out ts) ds) l) (walks (map (decl_out ts) ds)))
unfolding aexp_out alt_out decl_out exp_out locals_out open_out operand_out operands_out rhs_out guard_out next_operand_out redef_out
alt_plain_tree ts l s p x ds = ap (λ (g : Walk Alt). (g l).tree) (ap (alt_out ts) (sym (v_Alt.rolls-Plain s p x ds)) ∙ fold-roll-Alt (Walk Aexp) (Walk Alt) (Scoped Decl) (Walk Exp) (Scoped Locals) (Walk Open) (Walk Operand) (Walk Walked) (Walk Rhs) (Walk Guard) (Walk (List Part)) (Walk Redef) (aexp_step ts) (alt_step ts) (decl_step ts) (exp_step ts) (locals_step ts) (open_step ts) (operand_step ts) (operands_step ts) (rhs_step ts) (guard_step ts) (next_operand_step ts) (redef_step ts) (Alt-F.Alt::Plain s p x ds))

pub alt_plain_clashes : (ts : TopFixities) (l : LocalFixities) (s : Span) (p : Pattern) (x : Exp) (ds : List Decl) → (alt_out ts (v_Alt.Plain s p x ds) l).clashes ≡ (finished_pattern ts (pattern_out ts p) l).clashes ++ (all_clashes (entered (map (decl_out ts) ds) l) (walks (map (decl_out ts) ds)) ++ (exp_out ts x (entered (map (decl_out ts) ds) l)).clashes)
unfolding aexp_out alt_out decl_out exp_out locals_out open_out operand_out operands_out rhs_out guard_out next_operand_out redef_out
alt_plain_clashes ts l s p x ds = ap (λ (g : Walk Alt). (g l).clashes) (ap (alt_out ts) (sym (v_Alt.rolls-Plain s p x ds)) ∙ fold-roll-Alt (Walk Aexp) (Walk Alt) (Scoped Decl) (Walk Exp) (Scoped Locals) (Walk Open) (Walk Operand) (Walk Walked) (Walk Rhs) (Walk Guard) (Walk (List Part)) (Walk Redef) (aexp_step ts) (alt_step ts) (decl_step ts) (exp_step ts) (locals_step ts) (open_step ts) (operand_step ts) (operands_step ts) (rhs_step ts) (guard_step ts) (next_operand_step ts) (redef_step ts) (Alt-F.Alt::Plain s p x ds))

pub alt_guarded_tree : (ts : TopFixities) (l : LocalFixities) (s : Span) (p : Pattern) (gs : List Guard) (ds : List Decl) → (alt_out ts (v_Alt.Guarded s p gs ds) l).tree ≡ v_Alt.Guarded s (finished_pattern ts (pattern_out ts p) l).tree (trees (entered (map (decl_out ts) ds) l) (map (guard_out ts) gs)) (trees (entered (map (decl_out ts) ds) l) (walks (map (decl_out ts) ds)))
unfolding aexp_out alt_out decl_out exp_out locals_out open_out operand_out operands_out rhs_out guard_out next_operand_out redef_out
alt_guarded_tree ts l s p gs ds = ap (λ (g : Walk Alt). (g l).tree) (ap (alt_out ts) (sym (v_Alt.rolls-Guarded s p gs ds)) ∙ fold-roll-Alt (Walk Aexp) (Walk Alt) (Scoped Decl) (Walk Exp) (Scoped Locals) (Walk Open) (Walk Operand) (Walk Walked) (Walk Rhs) (Walk Guard) (Walk (List Part)) (Walk Redef) (aexp_step ts) (alt_step ts) (decl_step ts) (exp_step ts) (locals_step ts) (open_step ts) (operand_step ts) (operands_step ts) (rhs_step ts) (guard_step ts) (next_operand_step ts) (redef_step ts) (Alt-F.Alt::Guarded s p gs ds))

pub alt_guarded_clashes : (ts : TopFixities) (l : LocalFixities) (s : Span) (p : Pattern) (gs : List Guard) (ds : List Decl) → (alt_out ts (v_Alt.Guarded s p gs ds) l).clashes ≡ (finished_pattern ts (pattern_out ts p) l).clashes ++ (all_clashes (entered (map (decl_out ts) ds) l) (walks (map (decl_out ts) ds)) ++ all_clashes (entered (map (decl_out ts) ds) l) (map (guard_out ts) gs))
unfolding aexp_out alt_out decl_out exp_out locals_out open_out operand_out operands_out rhs_out guard_out next_operand_out redef_out
alt_guarded_clashes ts l s p gs ds = ap (λ (g : Walk Alt). (g l).clashes) (ap (alt_out ts) (sym (v_Alt.rolls-Guarded s p gs ds)) ∙ fold-roll-Alt (Walk Aexp) (Walk Alt) (Scoped Decl) (Walk Exp) (Scoped Locals) (Walk Open) (Walk Operand) (Walk Walked) (Walk Rhs) (Walk Guard) (Walk (List Part)) (Walk Redef) (aexp_step ts) (alt_step ts) (decl_step ts) (exp_step ts) (locals_step ts) (open_step ts) (operand_step ts) (operands_step ts) (rhs_step ts) (guard_step ts) (next_operand_step ts) (redef_step ts) (Alt-F.Alt::Guarded s p gs ds))

pub decl_signature_tree : (ts : TopFixities) (l : LocalFixities) (s : Span) (os : List Occurrence) (y : TypeExpr) → ((decl_out ts (v_Decl.Signature s os y)).walk l).tree ≡ v_Decl.Signature s os y
unfolding aexp_out alt_out decl_out exp_out locals_out open_out operand_out operands_out rhs_out guard_out next_operand_out redef_out
decl_signature_tree ts l s os y = ap (λ (g : Scoped Decl). (g.walk l).tree) (ap (decl_out ts) (sym (v_Decl.rolls-Signature s os y)) ∙ fold-roll-Decl (Walk Aexp) (Walk Alt) (Scoped Decl) (Walk Exp) (Scoped Locals) (Walk Open) (Walk Operand) (Walk Walked) (Walk Rhs) (Walk Guard) (Walk (List Part)) (Walk Redef) (aexp_step ts) (alt_step ts) (decl_step ts) (exp_step ts) (locals_step ts) (open_step ts) (operand_step ts) (operands_step ts) (rhs_step ts) (guard_step ts) (next_operand_step ts) (redef_step ts) (Decl-F.Signature s os y))

pub decl_signature_clashes : (ts : TopFixities) (l : LocalFixities) (s : Span) (os : List Occurrence) (y : TypeExpr) → ((decl_out ts (v_Decl.Signature s os y)).walk l).clashes ≡ []
unfolding aexp_out alt_out decl_out exp_out locals_out open_out operand_out operands_out rhs_out guard_out next_operand_out redef_out
decl_signature_clashes ts l s os y = ap (λ (g : Scoped Decl). (g.walk l).clashes) (ap (decl_out ts) (sym (v_Decl.rolls-Signature s os y)) ∙ fold-roll-Decl (Walk Aexp) (Walk Alt) (Scoped Decl) (Walk Exp) (Scoped Locals) (Walk Open) (Walk Operand) (Walk Walked) (Walk Rhs) (Walk Guard) (Walk (List Part)) (Walk Redef) (aexp_step ts) (alt_step ts) (decl_step ts) (exp_step ts) (locals_step ts) (open_step ts) (operand_step ts) (operands_step ts) (rhs_step ts) (guard_step ts) (next_operand_step ts) (redef_step ts) (Decl-F.Signature s os y))

pub decl_signature_enter : (ts : TopFixities) (l : LocalFixities) (s : Span) (os : List Occurrence) (y : TypeExpr) → (decl_out ts (v_Decl.Signature s os y)).enter l ≡ l
unfolding aexp_out alt_out decl_out exp_out locals_out open_out operand_out operands_out rhs_out guard_out next_operand_out redef_out
decl_signature_enter ts l s os y = ap (λ (g : Scoped Decl). g.enter l) (ap (decl_out ts) (sym (v_Decl.rolls-Signature s os y)) ∙ fold-roll-Decl (Walk Aexp) (Walk Alt) (Scoped Decl) (Walk Exp) (Scoped Locals) (Walk Open) (Walk Operand) (Walk Walked) (Walk Rhs) (Walk Guard) (Walk (List Part)) (Walk Redef) (aexp_step ts) (alt_step ts) (decl_step ts) (exp_step ts) (locals_step ts) (open_step ts) (operand_step ts) (operands_step ts) (rhs_step ts) (guard_step ts) (next_operand_step ts) (redef_step ts) (Decl-F.Signature s os y))

pub decl_fixity_tree : (ts : TopFixities) (l : LocalFixities) (s : Span) (w : FixityWord) (n : ℕ) (os : List Occurrence) → ((decl_out ts (v_Decl.Fixity s w n os)).walk l).tree ≡ v_Decl.Fixity s w n os
unfolding aexp_out alt_out decl_out exp_out locals_out open_out operand_out operands_out rhs_out guard_out next_operand_out redef_out
decl_fixity_tree ts l s w n os = ap (λ (g : Scoped Decl). (g.walk l).tree) (ap (decl_out ts) (sym (v_Decl.rolls-Fixity s w n os)) ∙ fold-roll-Decl (Walk Aexp) (Walk Alt) (Scoped Decl) (Walk Exp) (Scoped Locals) (Walk Open) (Walk Operand) (Walk Walked) (Walk Rhs) (Walk Guard) (Walk (List Part)) (Walk Redef) (aexp_step ts) (alt_step ts) (decl_step ts) (exp_step ts) (locals_step ts) (open_step ts) (operand_step ts) (operands_step ts) (rhs_step ts) (guard_step ts) (next_operand_step ts) (redef_step ts) (Decl-F.Fixity s w n os))

pub decl_fixity_clashes : (ts : TopFixities) (l : LocalFixities) (s : Span) (w : FixityWord) (n : ℕ) (os : List Occurrence) → ((decl_out ts (v_Decl.Fixity s w n os)).walk l).clashes ≡ []
unfolding aexp_out alt_out decl_out exp_out locals_out open_out operand_out operands_out rhs_out guard_out next_operand_out redef_out
decl_fixity_clashes ts l s w n os = ap (λ (g : Scoped Decl). (g.walk l).clashes) (ap (decl_out ts) (sym (v_Decl.rolls-Fixity s w n os)) ∙ fold-roll-Decl (Walk Aexp) (Walk Alt) (Scoped Decl) (Walk Exp) (Scoped Locals) (Walk Open) (Walk Operand) (Walk Walked) (Walk Rhs) (Walk Guard) (Walk (List Part)) (Walk Redef) (aexp_step ts) (alt_step ts) (decl_step ts) (exp_step ts) (locals_step ts) (open_step ts) (operand_step ts) (operands_step ts) (rhs_step ts) (guard_step ts) (next_operand_step ts) (redef_step ts) (Decl-F.Fixity s w n os))

pub decl_fixity_enter : (ts : TopFixities) (l : LocalFixities) (s : Span) (w : FixityWord) (n : ℕ) (os : List Occurrence) → (decl_out ts (v_Decl.Fixity s w n os)).enter l ≡ with_locals (written_fixity w n) l os
unfolding aexp_out alt_out decl_out exp_out locals_out open_out operand_out operands_out rhs_out guard_out next_operand_out redef_out
decl_fixity_enter ts l s w n os = ap (λ (g : Scoped Decl). g.enter l) (ap (decl_out ts) (sym (v_Decl.rolls-Fixity s w n os)) ∙ fold-roll-Decl (Walk Aexp) (Walk Alt) (Scoped Decl) (Walk Exp) (Scoped Locals) (Walk Open) (Walk Operand) (Walk Walked) (Walk Rhs) (Walk Guard) (Walk (List Part)) (Walk Redef) (aexp_step ts) (alt_step ts) (decl_step ts) (exp_step ts) (locals_step ts) (open_step ts) (operand_step ts) (operands_step ts) (rhs_step ts) (guard_step ts) (next_operand_step ts) (redef_step ts) (Decl-F.Fixity s w n os))

pub decl_function_tree : (ts : TopFixities) (l : LocalFixities) (s : Span) (f : FunLhs) (r : Rhs) → ((decl_out ts (v_Decl.Function s f r)).walk l).tree ≡ v_Decl.Function s (fun_lhs_out ts f l).tree (rhs_out ts r l).tree
unfolding aexp_out alt_out decl_out exp_out locals_out open_out operand_out operands_out rhs_out guard_out next_operand_out redef_out
decl_function_tree ts l s f r = ap (λ (g : Scoped Decl). (g.walk l).tree) (ap (decl_out ts) (sym (v_Decl.rolls-Function s f r)) ∙ fold-roll-Decl (Walk Aexp) (Walk Alt) (Scoped Decl) (Walk Exp) (Scoped Locals) (Walk Open) (Walk Operand) (Walk Walked) (Walk Rhs) (Walk Guard) (Walk (List Part)) (Walk Redef) (aexp_step ts) (alt_step ts) (decl_step ts) (exp_step ts) (locals_step ts) (open_step ts) (operand_step ts) (operands_step ts) (rhs_step ts) (guard_step ts) (next_operand_step ts) (redef_step ts) (Decl-F.Function s f r))

pub decl_function_clashes : (ts : TopFixities) (l : LocalFixities) (s : Span) (f : FunLhs) (r : Rhs) → ((decl_out ts (v_Decl.Function s f r)).walk l).clashes ≡ (fun_lhs_out ts f l).clashes ++ (rhs_out ts r l).clashes
unfolding aexp_out alt_out decl_out exp_out locals_out open_out operand_out operands_out rhs_out guard_out next_operand_out redef_out
decl_function_clashes ts l s f r = ap (λ (g : Scoped Decl). (g.walk l).clashes) (ap (decl_out ts) (sym (v_Decl.rolls-Function s f r)) ∙ fold-roll-Decl (Walk Aexp) (Walk Alt) (Scoped Decl) (Walk Exp) (Scoped Locals) (Walk Open) (Walk Operand) (Walk Walked) (Walk Rhs) (Walk Guard) (Walk (List Part)) (Walk Redef) (aexp_step ts) (alt_step ts) (decl_step ts) (exp_step ts) (locals_step ts) (open_step ts) (operand_step ts) (operands_step ts) (rhs_step ts) (guard_step ts) (next_operand_step ts) (redef_step ts) (Decl-F.Function s f r))

pub decl_function_enter : (ts : TopFixities) (l : LocalFixities) (s : Span) (f : FunLhs) (r : Rhs) → (decl_out ts (v_Decl.Function s f r)).enter l ≡ l
unfolding aexp_out alt_out decl_out exp_out locals_out open_out operand_out operands_out rhs_out guard_out next_operand_out redef_out
decl_function_enter ts l s f r = ap (λ (g : Scoped Decl). g.enter l) (ap (decl_out ts) (sym (v_Decl.rolls-Function s f r)) ∙ fold-roll-Decl (Walk Aexp) (Walk Alt) (Scoped Decl) (Walk Exp) (Scoped Locals) (Walk Open) (Walk Operand) (Walk Walked) (Walk Rhs) (Walk Guard) (Walk (List Part)) (Walk Redef) (aexp_step ts) (alt_step ts) (decl_step ts) (exp_step ts) (locals_step ts) (open_step ts) (operand_step ts) (operands_step ts) (rhs_step ts) (guard_step ts) (next_operand_step ts) (redef_step ts) (Decl-F.Function s f r))

pub decl_pattern_tree : (ts : TopFixities) (l : LocalFixities) (s : Span) (p : Pattern) (r : Rhs) → ((decl_out ts (v_Decl.Pattern s p r)).walk l).tree ≡ v_Decl.Pattern s (finished_pattern ts (pattern_out ts p) l).tree (rhs_out ts r l).tree
unfolding aexp_out alt_out decl_out exp_out locals_out open_out operand_out operands_out rhs_out guard_out next_operand_out redef_out
decl_pattern_tree ts l s p r = ap (λ (g : Scoped Decl). (g.walk l).tree) (ap (decl_out ts) (sym (v_Decl.rolls-Pattern s p r)) ∙ fold-roll-Decl (Walk Aexp) (Walk Alt) (Scoped Decl) (Walk Exp) (Scoped Locals) (Walk Open) (Walk Operand) (Walk Walked) (Walk Rhs) (Walk Guard) (Walk (List Part)) (Walk Redef) (aexp_step ts) (alt_step ts) (decl_step ts) (exp_step ts) (locals_step ts) (open_step ts) (operand_step ts) (operands_step ts) (rhs_step ts) (guard_step ts) (next_operand_step ts) (redef_step ts) (Decl-F.Pattern s p r))

pub decl_pattern_clashes : (ts : TopFixities) (l : LocalFixities) (s : Span) (p : Pattern) (r : Rhs) → ((decl_out ts (v_Decl.Pattern s p r)).walk l).clashes ≡ (finished_pattern ts (pattern_out ts p) l).clashes ++ (rhs_out ts r l).clashes
unfolding aexp_out alt_out decl_out exp_out locals_out open_out operand_out operands_out rhs_out guard_out next_operand_out redef_out
decl_pattern_clashes ts l s p r = ap (λ (g : Scoped Decl). (g.walk l).clashes) (ap (decl_out ts) (sym (v_Decl.rolls-Pattern s p r)) ∙ fold-roll-Decl (Walk Aexp) (Walk Alt) (Scoped Decl) (Walk Exp) (Scoped Locals) (Walk Open) (Walk Operand) (Walk Walked) (Walk Rhs) (Walk Guard) (Walk (List Part)) (Walk Redef) (aexp_step ts) (alt_step ts) (decl_step ts) (exp_step ts) (locals_step ts) (open_step ts) (operand_step ts) (operands_step ts) (rhs_step ts) (guard_step ts) (next_operand_step ts) (redef_step ts) (Decl-F.Pattern s p r))

pub decl_pattern_enter : (ts : TopFixities) (l : LocalFixities) (s : Span) (p : Pattern) (r : Rhs) → (decl_out ts (v_Decl.Pattern s p r)).enter l ≡ l
unfolding aexp_out alt_out decl_out exp_out locals_out open_out operand_out operands_out rhs_out guard_out next_operand_out redef_out
decl_pattern_enter ts l s p r = ap (λ (g : Scoped Decl). g.enter l) (ap (decl_out ts) (sym (v_Decl.rolls-Pattern s p r)) ∙ fold-roll-Decl (Walk Aexp) (Walk Alt) (Scoped Decl) (Walk Exp) (Scoped Locals) (Walk Open) (Walk Operand) (Walk Walked) (Walk Rhs) (Walk Guard) (Walk (List Part)) (Walk Redef) (aexp_step ts) (alt_step ts) (decl_step ts) (exp_step ts) (locals_step ts) (open_step ts) (operand_step ts) (operands_step ts) (rhs_step ts) (guard_step ts) (next_operand_step ts) (redef_step ts) (Decl-F.Pattern s p r))

pub exp_plain_tree : (ts : TopFixities) (l : LocalFixities) (x : Operands) → (exp_out ts (v_Exp.Plain x) l).tree ≡ v_Exp.Plain (finished ts (operands_out ts x) l).tree
unfolding aexp_out alt_out decl_out exp_out locals_out open_out operand_out operands_out rhs_out guard_out next_operand_out redef_out
exp_plain_tree ts l x = ap (λ (g : Walk Exp). (g l).tree) (ap (exp_out ts) (sym (v_Exp.rolls-Plain x)) ∙ fold-roll-Exp (Walk Aexp) (Walk Alt) (Scoped Decl) (Walk Exp) (Scoped Locals) (Walk Open) (Walk Operand) (Walk Walked) (Walk Rhs) (Walk Guard) (Walk (List Part)) (Walk Redef) (aexp_step ts) (alt_step ts) (decl_step ts) (exp_step ts) (locals_step ts) (open_step ts) (operand_step ts) (operands_step ts) (rhs_step ts) (guard_step ts) (next_operand_step ts) (redef_step ts) (Exp-F.Exp::Plain x))

pub exp_plain_clashes : (ts : TopFixities) (l : LocalFixities) (x : Operands) → (exp_out ts (v_Exp.Plain x) l).clashes ≡ (finished ts (operands_out ts x) l).clashes
unfolding aexp_out alt_out decl_out exp_out locals_out open_out operand_out operands_out rhs_out guard_out next_operand_out redef_out
exp_plain_clashes ts l x = ap (λ (g : Walk Exp). (g l).clashes) (ap (exp_out ts) (sym (v_Exp.rolls-Plain x)) ∙ fold-roll-Exp (Walk Aexp) (Walk Alt) (Scoped Decl) (Walk Exp) (Scoped Locals) (Walk Open) (Walk Operand) (Walk Walked) (Walk Rhs) (Walk Guard) (Walk (List Part)) (Walk Redef) (aexp_step ts) (alt_step ts) (decl_step ts) (exp_step ts) (locals_step ts) (open_step ts) (operand_step ts) (operands_step ts) (rhs_step ts) (guard_step ts) (next_operand_step ts) (redef_step ts) (Exp-F.Exp::Plain x))

pub exp_typed_tree : (ts : TopFixities) (l : LocalFixities) (s : Span) (x : Operands) (y : TypeExpr) → (exp_out ts (v_Exp.Typed s x y) l).tree ≡ v_Exp.Typed s (finished ts (operands_out ts x) l).tree y
unfolding aexp_out alt_out decl_out exp_out locals_out open_out operand_out operands_out rhs_out guard_out next_operand_out redef_out
exp_typed_tree ts l s x y = ap (λ (g : Walk Exp). (g l).tree) (ap (exp_out ts) (sym (v_Exp.rolls-Typed s x y)) ∙ fold-roll-Exp (Walk Aexp) (Walk Alt) (Scoped Decl) (Walk Exp) (Scoped Locals) (Walk Open) (Walk Operand) (Walk Walked) (Walk Rhs) (Walk Guard) (Walk (List Part)) (Walk Redef) (aexp_step ts) (alt_step ts) (decl_step ts) (exp_step ts) (locals_step ts) (open_step ts) (operand_step ts) (operands_step ts) (rhs_step ts) (guard_step ts) (next_operand_step ts) (redef_step ts) (Exp-F.Typed s x y))

pub exp_typed_clashes : (ts : TopFixities) (l : LocalFixities) (s : Span) (x : Operands) (y : TypeExpr) → (exp_out ts (v_Exp.Typed s x y) l).clashes ≡ (finished ts (operands_out ts x) l).clashes
unfolding aexp_out alt_out decl_out exp_out locals_out open_out operand_out operands_out rhs_out guard_out next_operand_out redef_out
exp_typed_clashes ts l s x y = ap (λ (g : Walk Exp). (g l).clashes) (ap (exp_out ts) (sym (v_Exp.rolls-Typed s x y)) ∙ fold-roll-Exp (Walk Aexp) (Walk Alt) (Scoped Decl) (Walk Exp) (Scoped Locals) (Walk Open) (Walk Operand) (Walk Walked) (Walk Rhs) (Walk Guard) (Walk (List Part)) (Walk Redef) (aexp_step ts) (alt_step ts) (decl_step ts) (exp_step ts) (locals_step ts) (open_step ts) (operand_step ts) (operands_step ts) (rhs_step ts) (guard_step ts) (next_operand_step ts) (redef_step ts) (Exp-F.Typed s x y))

pub locals_decls_tree : (ts : TopFixities) (l : LocalFixities) (ds : List Decl) → ((locals_out ts (v_Locals.Decls ds)).walk l).tree ≡ v_Locals.Decls (trees l (walks (map (decl_out ts) ds)))
unfolding aexp_out alt_out decl_out exp_out locals_out open_out operand_out operands_out rhs_out guard_out next_operand_out redef_out
locals_decls_tree ts l ds = ap (λ (g : Scoped Locals). (g.walk l).tree) (ap (locals_out ts) (sym (v_Locals.rolls-Decls ds)) ∙ fold-roll-Locals (Walk Aexp) (Walk Alt) (Scoped Decl) (Walk Exp) (Scoped Locals) (Walk Open) (Walk Operand) (Walk Walked) (Walk Rhs) (Walk Guard) (Walk (List Part)) (Walk Redef) (aexp_step ts) (alt_step ts) (decl_step ts) (exp_step ts) (locals_step ts) (open_step ts) (operand_step ts) (operands_step ts) (rhs_step ts) (guard_step ts) (next_operand_step ts) (redef_step ts) (Locals-F.Decls ds))

pub locals_decls_clashes : (ts : TopFixities) (l : LocalFixities) (ds : List Decl) → ((locals_out ts (v_Locals.Decls ds)).walk l).clashes ≡ all_clashes l (walks (map (decl_out ts) ds))
unfolding aexp_out alt_out decl_out exp_out locals_out open_out operand_out operands_out rhs_out guard_out next_operand_out redef_out
locals_decls_clashes ts l ds = ap (λ (g : Scoped Locals). (g.walk l).clashes) (ap (locals_out ts) (sym (v_Locals.rolls-Decls ds)) ∙ fold-roll-Locals (Walk Aexp) (Walk Alt) (Scoped Decl) (Walk Exp) (Scoped Locals) (Walk Open) (Walk Operand) (Walk Walked) (Walk Rhs) (Walk Guard) (Walk (List Part)) (Walk Redef) (aexp_step ts) (alt_step ts) (decl_step ts) (exp_step ts) (locals_step ts) (open_step ts) (operand_step ts) (operands_step ts) (rhs_step ts) (guard_step ts) (next_operand_step ts) (redef_step ts) (Locals-F.Decls ds))

pub locals_decls_enter : (ts : TopFixities) (l : LocalFixities) (ds : List Decl) → (locals_out ts (v_Locals.Decls ds)).enter l ≡ entered (map (decl_out ts) ds) l
unfolding aexp_out alt_out decl_out exp_out locals_out open_out operand_out operands_out rhs_out guard_out next_operand_out redef_out
locals_decls_enter ts l ds = ap (λ (g : Scoped Locals). g.enter l) (ap (locals_out ts) (sym (v_Locals.rolls-Decls ds)) ∙ fold-roll-Locals (Walk Aexp) (Walk Alt) (Scoped Decl) (Walk Exp) (Scoped Locals) (Walk Open) (Walk Operand) (Walk Walked) (Walk Rhs) (Walk Guard) (Walk (List Part)) (Walk Redef) (aexp_step ts) (alt_step ts) (decl_step ts) (exp_step ts) (locals_step ts) (open_step ts) (operand_step ts) (operands_step ts) (rhs_step ts) (guard_step ts) (next_operand_step ts) (redef_step ts) (Locals-F.Decls ds))

pub locals_redefs_tree : (ts : TopFixities) (l : LocalFixities) (rs : List Redef) → ((locals_out ts (v_Locals.Redefs rs)).walk l).tree ≡ v_Locals.Redefs (trees l (map (redef_out ts) rs))
unfolding aexp_out alt_out decl_out exp_out locals_out open_out operand_out operands_out rhs_out guard_out next_operand_out redef_out
locals_redefs_tree ts l rs = ap (λ (g : Scoped Locals). (g.walk l).tree) (ap (locals_out ts) (sym (v_Locals.rolls-Redefs rs)) ∙ fold-roll-Locals (Walk Aexp) (Walk Alt) (Scoped Decl) (Walk Exp) (Scoped Locals) (Walk Open) (Walk Operand) (Walk Walked) (Walk Rhs) (Walk Guard) (Walk (List Part)) (Walk Redef) (aexp_step ts) (alt_step ts) (decl_step ts) (exp_step ts) (locals_step ts) (open_step ts) (operand_step ts) (operands_step ts) (rhs_step ts) (guard_step ts) (next_operand_step ts) (redef_step ts) (Locals-F.Redefs rs))

pub locals_redefs_clashes : (ts : TopFixities) (l : LocalFixities) (rs : List Redef) → ((locals_out ts (v_Locals.Redefs rs)).walk l).clashes ≡ all_clashes l (map (redef_out ts) rs)
unfolding aexp_out alt_out decl_out exp_out locals_out open_out operand_out operands_out rhs_out guard_out next_operand_out redef_out
locals_redefs_clashes ts l rs = ap (λ (g : Scoped Locals). (g.walk l).clashes) (ap (locals_out ts) (sym (v_Locals.rolls-Redefs rs)) ∙ fold-roll-Locals (Walk Aexp) (Walk Alt) (Scoped Decl) (Walk Exp) (Scoped Locals) (Walk Open) (Walk Operand) (Walk Walked) (Walk Rhs) (Walk Guard) (Walk (List Part)) (Walk Redef) (aexp_step ts) (alt_step ts) (decl_step ts) (exp_step ts) (locals_step ts) (open_step ts) (operand_step ts) (operands_step ts) (rhs_step ts) (guard_step ts) (next_operand_step ts) (redef_step ts) (Locals-F.Redefs rs))

pub locals_redefs_enter : (ts : TopFixities) (l : LocalFixities) (rs : List Redef) → (locals_out ts (v_Locals.Redefs rs)).enter l ≡ l
unfolding aexp_out alt_out decl_out exp_out locals_out open_out operand_out operands_out rhs_out guard_out next_operand_out redef_out
locals_redefs_enter ts l rs = ap (λ (g : Scoped Locals). g.enter l) (ap (locals_out ts) (sym (v_Locals.rolls-Redefs rs)) ∙ fold-roll-Locals (Walk Aexp) (Walk Alt) (Scoped Decl) (Walk Exp) (Scoped Locals) (Walk Open) (Walk Operand) (Walk Walked) (Walk Rhs) (Walk Guard) (Walk (List Part)) (Walk Redef) (aexp_step ts) (alt_step ts) (decl_step ts) (exp_step ts) (locals_step ts) (open_step ts) (operand_step ts) (operands_step ts) (rhs_step ts) (guard_step ts) (next_operand_step ts) (redef_step ts) (Locals-F.Redefs rs))

pub open_lambda_tree : (ts : TopFixities) (l : LocalFixities) (s : Span) (ps : List ArgPattern) (x : Exp) → (open_out ts (v_Open.Lambda s ps x) l).tree ≡ v_Open.Lambda s (trees l (map (arg_pattern_out ts) ps)) (exp_out ts x l).tree
unfolding aexp_out alt_out decl_out exp_out locals_out open_out operand_out operands_out rhs_out guard_out next_operand_out redef_out
open_lambda_tree ts l s ps x = ap (λ (g : Walk Open). (g l).tree) (ap (open_out ts) (sym (v_Open.rolls-Lambda s ps x)) ∙ fold-roll-Open (Walk Aexp) (Walk Alt) (Scoped Decl) (Walk Exp) (Scoped Locals) (Walk Open) (Walk Operand) (Walk Walked) (Walk Rhs) (Walk Guard) (Walk (List Part)) (Walk Redef) (aexp_step ts) (alt_step ts) (decl_step ts) (exp_step ts) (locals_step ts) (open_step ts) (operand_step ts) (operands_step ts) (rhs_step ts) (guard_step ts) (next_operand_step ts) (redef_step ts) (Open-F.Lambda s ps x))

pub open_lambda_clashes : (ts : TopFixities) (l : LocalFixities) (s : Span) (ps : List ArgPattern) (x : Exp) → (open_out ts (v_Open.Lambda s ps x) l).clashes ≡ all_clashes l (map (arg_pattern_out ts) ps) ++ (exp_out ts x l).clashes
unfolding aexp_out alt_out decl_out exp_out locals_out open_out operand_out operands_out rhs_out guard_out next_operand_out redef_out
open_lambda_clashes ts l s ps x = ap (λ (g : Walk Open). (g l).clashes) (ap (open_out ts) (sym (v_Open.rolls-Lambda s ps x)) ∙ fold-roll-Open (Walk Aexp) (Walk Alt) (Scoped Decl) (Walk Exp) (Scoped Locals) (Walk Open) (Walk Operand) (Walk Walked) (Walk Rhs) (Walk Guard) (Walk (List Part)) (Walk Redef) (aexp_step ts) (alt_step ts) (decl_step ts) (exp_step ts) (locals_step ts) (open_step ts) (operand_step ts) (operands_step ts) (rhs_step ts) (guard_step ts) (next_operand_step ts) (redef_step ts) (Open-F.Lambda s ps x))

pub open_let_tree : (ts : TopFixities) (l : LocalFixities) (s : Span) (d : Locals) (x : Exp) → (open_out ts (v_Open.Let s d x) l).tree ≡ v_Open.Let s ((locals_out ts d).walk ((locals_out ts d).enter l)).tree (exp_out ts x ((locals_out ts d).enter l)).tree
unfolding aexp_out alt_out decl_out exp_out locals_out open_out operand_out operands_out rhs_out guard_out next_operand_out redef_out
open_let_tree ts l s d x = ap (λ (g : Walk Open). (g l).tree) (ap (open_out ts) (sym (v_Open.rolls-Let s d x)) ∙ fold-roll-Open (Walk Aexp) (Walk Alt) (Scoped Decl) (Walk Exp) (Scoped Locals) (Walk Open) (Walk Operand) (Walk Walked) (Walk Rhs) (Walk Guard) (Walk (List Part)) (Walk Redef) (aexp_step ts) (alt_step ts) (decl_step ts) (exp_step ts) (locals_step ts) (open_step ts) (operand_step ts) (operands_step ts) (rhs_step ts) (guard_step ts) (next_operand_step ts) (redef_step ts) (Open-F.Let s d x))

pub open_let_clashes : (ts : TopFixities) (l : LocalFixities) (s : Span) (d : Locals) (x : Exp) → (open_out ts (v_Open.Let s d x) l).clashes ≡ ((locals_out ts d).walk ((locals_out ts d).enter l)).clashes ++ (exp_out ts x ((locals_out ts d).enter l)).clashes
unfolding aexp_out alt_out decl_out exp_out locals_out open_out operand_out operands_out rhs_out guard_out next_operand_out redef_out
open_let_clashes ts l s d x = ap (λ (g : Walk Open). (g l).clashes) (ap (open_out ts) (sym (v_Open.rolls-Let s d x)) ∙ fold-roll-Open (Walk Aexp) (Walk Alt) (Scoped Decl) (Walk Exp) (Scoped Locals) (Walk Open) (Walk Operand) (Walk Walked) (Walk Rhs) (Walk Guard) (Walk (List Part)) (Walk Redef) (aexp_step ts) (alt_step ts) (decl_step ts) (exp_step ts) (locals_step ts) (open_step ts) (operand_step ts) (operands_step ts) (rhs_step ts) (guard_step ts) (next_operand_step ts) (redef_step ts) (Open-F.Let s d x))

pub open_if_tree : (ts : TopFixities) (l : LocalFixities) (s : Span) (x : Exp) (y : Exp) (z : Exp) → (open_out ts (v_Open.If s x y z) l).tree ≡ v_Open.If s (exp_out ts x l).tree (exp_out ts y l).tree (exp_out ts z l).tree
unfolding aexp_out alt_out decl_out exp_out locals_out open_out operand_out operands_out rhs_out guard_out next_operand_out redef_out
open_if_tree ts l s x y z = ap (λ (g : Walk Open). (g l).tree) (ap (open_out ts) (sym (v_Open.rolls-If s x y z)) ∙ fold-roll-Open (Walk Aexp) (Walk Alt) (Scoped Decl) (Walk Exp) (Scoped Locals) (Walk Open) (Walk Operand) (Walk Walked) (Walk Rhs) (Walk Guard) (Walk (List Part)) (Walk Redef) (aexp_step ts) (alt_step ts) (decl_step ts) (exp_step ts) (locals_step ts) (open_step ts) (operand_step ts) (operands_step ts) (rhs_step ts) (guard_step ts) (next_operand_step ts) (redef_step ts) (Open-F.If s x y z))

pub open_if_clashes : (ts : TopFixities) (l : LocalFixities) (s : Span) (x : Exp) (y : Exp) (z : Exp) → (open_out ts (v_Open.If s x y z) l).clashes ≡ (exp_out ts x l).clashes ++ ((exp_out ts y l).clashes ++ (exp_out ts z l).clashes)
unfolding aexp_out alt_out decl_out exp_out locals_out open_out operand_out operands_out rhs_out guard_out next_operand_out redef_out
open_if_clashes ts l s x y z = ap (λ (g : Walk Open). (g l).clashes) (ap (open_out ts) (sym (v_Open.rolls-If s x y z)) ∙ fold-roll-Open (Walk Aexp) (Walk Alt) (Scoped Decl) (Walk Exp) (Scoped Locals) (Walk Open) (Walk Operand) (Walk Walked) (Walk Rhs) (Walk Guard) (Walk (List Part)) (Walk Redef) (aexp_step ts) (alt_step ts) (decl_step ts) (exp_step ts) (locals_step ts) (open_step ts) (operand_step ts) (operands_step ts) (rhs_step ts) (guard_step ts) (next_operand_step ts) (redef_step ts) (Open-F.If s x y z))

pub operand_apply_tree : (ts : TopFixities) (l : LocalFixities) (s : Span) (x : Aexp) (xs : List Aexp) → (operand_out ts (v_Operand.Apply s x xs) l).tree ≡ v_Operand.Apply s (aexp_out ts x l).tree (trees l (map (aexp_out ts) xs))
unfolding aexp_out alt_out decl_out exp_out locals_out open_out operand_out operands_out rhs_out guard_out next_operand_out redef_out
operand_apply_tree ts l s x xs = ap (λ (g : Walk Operand). (g l).tree) (ap (operand_out ts) (sym (v_Operand.rolls-Apply s x xs)) ∙ fold-roll-Operand (Walk Aexp) (Walk Alt) (Scoped Decl) (Walk Exp) (Scoped Locals) (Walk Open) (Walk Operand) (Walk Walked) (Walk Rhs) (Walk Guard) (Walk (List Part)) (Walk Redef) (aexp_step ts) (alt_step ts) (decl_step ts) (exp_step ts) (locals_step ts) (open_step ts) (operand_step ts) (operands_step ts) (rhs_step ts) (guard_step ts) (next_operand_step ts) (redef_step ts) (Operand-F.Apply s x xs))

pub operand_apply_clashes : (ts : TopFixities) (l : LocalFixities) (s : Span) (x : Aexp) (xs : List Aexp) → (operand_out ts (v_Operand.Apply s x xs) l).clashes ≡ (aexp_out ts x l).clashes ++ all_clashes l (map (aexp_out ts) xs)
unfolding aexp_out alt_out decl_out exp_out locals_out open_out operand_out operands_out rhs_out guard_out next_operand_out redef_out
operand_apply_clashes ts l s x xs = ap (λ (g : Walk Operand). (g l).clashes) (ap (operand_out ts) (sym (v_Operand.rolls-Apply s x xs)) ∙ fold-roll-Operand (Walk Aexp) (Walk Alt) (Scoped Decl) (Walk Exp) (Scoped Locals) (Walk Open) (Walk Operand) (Walk Walked) (Walk Rhs) (Walk Guard) (Walk (List Part)) (Walk Redef) (aexp_step ts) (alt_step ts) (decl_step ts) (exp_step ts) (locals_step ts) (open_step ts) (operand_step ts) (operands_step ts) (rhs_step ts) (guard_step ts) (next_operand_step ts) (redef_step ts) (Operand-F.Apply s x xs))

pub operand_case_tree : (ts : TopFixities) (l : LocalFixities) (s : Span) (x : Exp) (qs : List Alt) → (operand_out ts (v_Operand.Case s x qs) l).tree ≡ v_Operand.Case s (exp_out ts x l).tree (trees l (map (alt_out ts) qs))
unfolding aexp_out alt_out decl_out exp_out locals_out open_out operand_out operands_out rhs_out guard_out next_operand_out redef_out
operand_case_tree ts l s x qs = ap (λ (g : Walk Operand). (g l).tree) (ap (operand_out ts) (sym (v_Operand.rolls-Case s x qs)) ∙ fold-roll-Operand (Walk Aexp) (Walk Alt) (Scoped Decl) (Walk Exp) (Scoped Locals) (Walk Open) (Walk Operand) (Walk Walked) (Walk Rhs) (Walk Guard) (Walk (List Part)) (Walk Redef) (aexp_step ts) (alt_step ts) (decl_step ts) (exp_step ts) (locals_step ts) (open_step ts) (operand_step ts) (operands_step ts) (rhs_step ts) (guard_step ts) (next_operand_step ts) (redef_step ts) (Operand-F.Case s x qs))

pub operand_case_clashes : (ts : TopFixities) (l : LocalFixities) (s : Span) (x : Exp) (qs : List Alt) → (operand_out ts (v_Operand.Case s x qs) l).clashes ≡ (exp_out ts x l).clashes ++ all_clashes l (map (alt_out ts) qs)
unfolding aexp_out alt_out decl_out exp_out locals_out open_out operand_out operands_out rhs_out guard_out next_operand_out redef_out
operand_case_clashes ts l s x qs = ap (λ (g : Walk Operand). (g l).clashes) (ap (operand_out ts) (sym (v_Operand.rolls-Case s x qs)) ∙ fold-roll-Operand (Walk Aexp) (Walk Alt) (Scoped Decl) (Walk Exp) (Scoped Locals) (Walk Open) (Walk Operand) (Walk Walked) (Walk Rhs) (Walk Guard) (Walk (List Part)) (Walk Redef) (aexp_step ts) (alt_step ts) (decl_step ts) (exp_step ts) (locals_step ts) (open_step ts) (operand_step ts) (operands_step ts) (rhs_step ts) (guard_step ts) (next_operand_step ts) (redef_step ts) (Operand-F.Case s x qs))

pub operand_open_tree : (ts : TopFixities) (l : LocalFixities) (x : Open) → (operand_out ts (v_Operand.Open x) l).tree ≡ v_Operand.Open (open_out ts x l).tree
unfolding aexp_out alt_out decl_out exp_out locals_out open_out operand_out operands_out rhs_out guard_out next_operand_out redef_out
operand_open_tree ts l x = ap (λ (g : Walk Operand). (g l).tree) (ap (operand_out ts) (sym (v_Operand.rolls-Open x)) ∙ fold-roll-Operand (Walk Aexp) (Walk Alt) (Scoped Decl) (Walk Exp) (Scoped Locals) (Walk Open) (Walk Operand) (Walk Walked) (Walk Rhs) (Walk Guard) (Walk (List Part)) (Walk Redef) (aexp_step ts) (alt_step ts) (decl_step ts) (exp_step ts) (locals_step ts) (open_step ts) (operand_step ts) (operands_step ts) (rhs_step ts) (guard_step ts) (next_operand_step ts) (redef_step ts) (Operand-F.Open x))

pub operand_open_clashes : (ts : TopFixities) (l : LocalFixities) (x : Open) → (operand_out ts (v_Operand.Open x) l).clashes ≡ (open_out ts x l).clashes
unfolding aexp_out alt_out decl_out exp_out locals_out open_out operand_out operands_out rhs_out guard_out next_operand_out redef_out
operand_open_clashes ts l x = ap (λ (g : Walk Operand). (g l).clashes) (ap (operand_out ts) (sym (v_Operand.rolls-Open x)) ∙ fold-roll-Operand (Walk Aexp) (Walk Alt) (Scoped Decl) (Walk Exp) (Scoped Locals) (Walk Open) (Walk Operand) (Walk Walked) (Walk Rhs) (Walk Guard) (Walk (List Part)) (Walk Redef) (aexp_step ts) (alt_step ts) (decl_step ts) (exp_step ts) (locals_step ts) (open_step ts) (operand_step ts) (operands_step ts) (rhs_step ts) (guard_step ts) (next_operand_step ts) (redef_step ts) (Operand-F.Open x))

pub operands_listed_tree : (ts : TopFixities) (l : LocalFixities) (s : Span) (m : Option Span) (x : Operand) (ns : List NextOperand) → (operands_out ts (v_Operands.Listed s m x ns) l).tree ≡ walked.List (signed m (part.Operand (operand_out ts x l).tree ∷ all_trees l (map (next_operand_out ts) ns)))
unfolding aexp_out alt_out decl_out exp_out locals_out open_out operand_out operands_out rhs_out guard_out next_operand_out redef_out
operands_listed_tree ts l s m x ns = ap (λ (g : Walk Walked). (g l).tree) (ap (operands_out ts) (sym (v_Operands.rolls-Listed s m x ns)) ∙ fold-roll-Operands (Walk Aexp) (Walk Alt) (Scoped Decl) (Walk Exp) (Scoped Locals) (Walk Open) (Walk Operand) (Walk Walked) (Walk Rhs) (Walk Guard) (Walk (List Part)) (Walk Redef) (aexp_step ts) (alt_step ts) (decl_step ts) (exp_step ts) (locals_step ts) (open_step ts) (operand_step ts) (operands_step ts) (rhs_step ts) (guard_step ts) (next_operand_step ts) (redef_step ts) (Operands-F.Listed s m x ns))

pub operands_listed_clashes : (ts : TopFixities) (l : LocalFixities) (s : Span) (m : Option Span) (x : Operand) (ns : List NextOperand) → (operands_out ts (v_Operands.Listed s m x ns) l).clashes ≡ (operand_out ts x l).clashes ++ all_clashes l (map (next_operand_out ts) ns)
unfolding aexp_out alt_out decl_out exp_out locals_out open_out operand_out operands_out rhs_out guard_out next_operand_out redef_out
operands_listed_clashes ts l s m x ns = ap (λ (g : Walk Walked). (g l).clashes) (ap (operands_out ts) (sym (v_Operands.rolls-Listed s m x ns)) ∙ fold-roll-Operands (Walk Aexp) (Walk Alt) (Scoped Decl) (Walk Exp) (Scoped Locals) (Walk Open) (Walk Operand) (Walk Walked) (Walk Rhs) (Walk Guard) (Walk (List Part)) (Walk Redef) (aexp_step ts) (alt_step ts) (decl_step ts) (exp_step ts) (locals_step ts) (open_step ts) (operand_step ts) (operands_step ts) (rhs_step ts) (guard_step ts) (next_operand_step ts) (redef_step ts) (Operands-F.Listed s m x ns))

pub operands_infix_tree : (ts : TopFixities) (l : LocalFixities) (s : Span) (a : Operands) (o : Occurrence) (b : Operands) → (operands_out ts (v_Operands.Infix s a o b) l).tree ≡ walked.Tree (v_Operands.Infix s (finished ts (operands_out ts a) l).tree o (finished ts (operands_out ts b) l).tree)
unfolding aexp_out alt_out decl_out exp_out locals_out open_out operand_out operands_out rhs_out guard_out next_operand_out redef_out
operands_infix_tree ts l s a o b = ap (λ (g : Walk Walked). (g l).tree) (ap (operands_out ts) (sym (v_Operands.rolls-Infix s a o b)) ∙ fold-roll-Operands (Walk Aexp) (Walk Alt) (Scoped Decl) (Walk Exp) (Scoped Locals) (Walk Open) (Walk Operand) (Walk Walked) (Walk Rhs) (Walk Guard) (Walk (List Part)) (Walk Redef) (aexp_step ts) (alt_step ts) (decl_step ts) (exp_step ts) (locals_step ts) (open_step ts) (operand_step ts) (operands_step ts) (rhs_step ts) (guard_step ts) (next_operand_step ts) (redef_step ts) (Operands-F.Infix s a o b))

pub operands_infix_clashes : (ts : TopFixities) (l : LocalFixities) (s : Span) (a : Operands) (o : Occurrence) (b : Operands) → (operands_out ts (v_Operands.Infix s a o b) l).clashes ≡ (finished ts (operands_out ts a) l).clashes ++ (finished ts (operands_out ts b) l).clashes
unfolding aexp_out alt_out decl_out exp_out locals_out open_out operand_out operands_out rhs_out guard_out next_operand_out redef_out
operands_infix_clashes ts l s a o b = ap (λ (g : Walk Walked). (g l).clashes) (ap (operands_out ts) (sym (v_Operands.rolls-Infix s a o b)) ∙ fold-roll-Operands (Walk Aexp) (Walk Alt) (Scoped Decl) (Walk Exp) (Scoped Locals) (Walk Open) (Walk Operand) (Walk Walked) (Walk Rhs) (Walk Guard) (Walk (List Part)) (Walk Redef) (aexp_step ts) (alt_step ts) (decl_step ts) (exp_step ts) (locals_step ts) (open_step ts) (operand_step ts) (operands_step ts) (rhs_step ts) (guard_step ts) (next_operand_step ts) (redef_step ts) (Operands-F.Infix s a o b))

pub operands_negate_tree : (ts : TopFixities) (l : LocalFixities) (s : Span) (m : Span) (a : Operands) → (operands_out ts (v_Operands.Negate s m a) l).tree ≡ walked.Tree (v_Operands.Negate s m (finished ts (operands_out ts a) l).tree)
unfolding aexp_out alt_out decl_out exp_out locals_out open_out operand_out operands_out rhs_out guard_out next_operand_out redef_out
operands_negate_tree ts l s m a = ap (λ (g : Walk Walked). (g l).tree) (ap (operands_out ts) (sym (v_Operands.rolls-Negate s m a)) ∙ fold-roll-Operands (Walk Aexp) (Walk Alt) (Scoped Decl) (Walk Exp) (Scoped Locals) (Walk Open) (Walk Operand) (Walk Walked) (Walk Rhs) (Walk Guard) (Walk (List Part)) (Walk Redef) (aexp_step ts) (alt_step ts) (decl_step ts) (exp_step ts) (locals_step ts) (open_step ts) (operand_step ts) (operands_step ts) (rhs_step ts) (guard_step ts) (next_operand_step ts) (redef_step ts) (Operands-F.Negate s m a))

pub operands_negate_clashes : (ts : TopFixities) (l : LocalFixities) (s : Span) (m : Span) (a : Operands) → (operands_out ts (v_Operands.Negate s m a) l).clashes ≡ (finished ts (operands_out ts a) l).clashes
unfolding aexp_out alt_out decl_out exp_out locals_out open_out operand_out operands_out rhs_out guard_out next_operand_out redef_out
operands_negate_clashes ts l s m a = ap (λ (g : Walk Walked). (g l).clashes) (ap (operands_out ts) (sym (v_Operands.rolls-Negate s m a)) ∙ fold-roll-Operands (Walk Aexp) (Walk Alt) (Scoped Decl) (Walk Exp) (Scoped Locals) (Walk Open) (Walk Operand) (Walk Walked) (Walk Rhs) (Walk Guard) (Walk (List Part)) (Walk Redef) (aexp_step ts) (alt_step ts) (decl_step ts) (exp_step ts) (locals_step ts) (open_step ts) (operand_step ts) (operands_step ts) (rhs_step ts) (guard_step ts) (next_operand_step ts) (redef_step ts) (Operands-F.Negate s m a))

pub rhs_plain_tree : (ts : TopFixities) (l : LocalFixities) (s : Span) (x : Exp) (ds : List Decl) → (rhs_out ts (v_Rhs.Plain s x ds) l).tree ≡ v_Rhs.Plain s (exp_out ts x (entered (map (decl_out ts) ds) l)).tree (trees (entered (map (decl_out ts) ds) l) (walks (map (decl_out ts) ds)))
unfolding aexp_out alt_out decl_out exp_out locals_out open_out operand_out operands_out rhs_out guard_out next_operand_out redef_out
rhs_plain_tree ts l s x ds = ap (λ (g : Walk Rhs). (g l).tree) (ap (rhs_out ts) (sym (v_Rhs.rolls-Plain s x ds)) ∙ fold-roll-Rhs (Walk Aexp) (Walk Alt) (Scoped Decl) (Walk Exp) (Scoped Locals) (Walk Open) (Walk Operand) (Walk Walked) (Walk Rhs) (Walk Guard) (Walk (List Part)) (Walk Redef) (aexp_step ts) (alt_step ts) (decl_step ts) (exp_step ts) (locals_step ts) (open_step ts) (operand_step ts) (operands_step ts) (rhs_step ts) (guard_step ts) (next_operand_step ts) (redef_step ts) (Rhs-F.Rhs::Plain s x ds))

pub rhs_plain_clashes : (ts : TopFixities) (l : LocalFixities) (s : Span) (x : Exp) (ds : List Decl) → (rhs_out ts (v_Rhs.Plain s x ds) l).clashes ≡ all_clashes (entered (map (decl_out ts) ds) l) (walks (map (decl_out ts) ds)) ++ (exp_out ts x (entered (map (decl_out ts) ds) l)).clashes
unfolding aexp_out alt_out decl_out exp_out locals_out open_out operand_out operands_out rhs_out guard_out next_operand_out redef_out
rhs_plain_clashes ts l s x ds = ap (λ (g : Walk Rhs). (g l).clashes) (ap (rhs_out ts) (sym (v_Rhs.rolls-Plain s x ds)) ∙ fold-roll-Rhs (Walk Aexp) (Walk Alt) (Scoped Decl) (Walk Exp) (Scoped Locals) (Walk Open) (Walk Operand) (Walk Walked) (Walk Rhs) (Walk Guard) (Walk (List Part)) (Walk Redef) (aexp_step ts) (alt_step ts) (decl_step ts) (exp_step ts) (locals_step ts) (open_step ts) (operand_step ts) (operands_step ts) (rhs_step ts) (guard_step ts) (next_operand_step ts) (redef_step ts) (Rhs-F.Rhs::Plain s x ds))

pub rhs_guarded_tree : (ts : TopFixities) (l : LocalFixities) (s : Span) (gs : List Guard) (ds : List Decl) → (rhs_out ts (v_Rhs.Guarded s gs ds) l).tree ≡ v_Rhs.Guarded s (trees (entered (map (decl_out ts) ds) l) (map (guard_out ts) gs)) (trees (entered (map (decl_out ts) ds) l) (walks (map (decl_out ts) ds)))
unfolding aexp_out alt_out decl_out exp_out locals_out open_out operand_out operands_out rhs_out guard_out next_operand_out redef_out
rhs_guarded_tree ts l s gs ds = ap (λ (g : Walk Rhs). (g l).tree) (ap (rhs_out ts) (sym (v_Rhs.rolls-Guarded s gs ds)) ∙ fold-roll-Rhs (Walk Aexp) (Walk Alt) (Scoped Decl) (Walk Exp) (Scoped Locals) (Walk Open) (Walk Operand) (Walk Walked) (Walk Rhs) (Walk Guard) (Walk (List Part)) (Walk Redef) (aexp_step ts) (alt_step ts) (decl_step ts) (exp_step ts) (locals_step ts) (open_step ts) (operand_step ts) (operands_step ts) (rhs_step ts) (guard_step ts) (next_operand_step ts) (redef_step ts) (Rhs-F.Rhs::Guarded s gs ds))

pub rhs_guarded_clashes : (ts : TopFixities) (l : LocalFixities) (s : Span) (gs : List Guard) (ds : List Decl) → (rhs_out ts (v_Rhs.Guarded s gs ds) l).clashes ≡ all_clashes (entered (map (decl_out ts) ds) l) (walks (map (decl_out ts) ds)) ++ all_clashes (entered (map (decl_out ts) ds) l) (map (guard_out ts) gs)
unfolding aexp_out alt_out decl_out exp_out locals_out open_out operand_out operands_out rhs_out guard_out next_operand_out redef_out
rhs_guarded_clashes ts l s gs ds = ap (λ (g : Walk Rhs). (g l).clashes) (ap (rhs_out ts) (sym (v_Rhs.rolls-Guarded s gs ds)) ∙ fold-roll-Rhs (Walk Aexp) (Walk Alt) (Scoped Decl) (Walk Exp) (Scoped Locals) (Walk Open) (Walk Operand) (Walk Walked) (Walk Rhs) (Walk Guard) (Walk (List Part)) (Walk Redef) (aexp_step ts) (alt_step ts) (decl_step ts) (exp_step ts) (locals_step ts) (open_step ts) (operand_step ts) (operands_step ts) (rhs_step ts) (guard_step ts) (next_operand_step ts) (redef_step ts) (Rhs-F.Rhs::Guarded s gs ds))

pub guard_at_tree : (ts : TopFixities) (l : LocalFixities) (x : Guard) → (guard_out ts x l).tree ≡ roll-Guard (record { span = (out-Guard x).span; test = (finished ts (operands_out ts (out-Guard x).test) l).tree; body = (exp_out ts (out-Guard x).body l).tree })
unfolding aexp_out alt_out decl_out exp_out locals_out open_out operand_out operands_out rhs_out guard_out next_operand_out redef_out
guard_at_tree ts l x = ap (λ (g : Walk Guard). (g l).tree) (fold_out-Guard (Walk Aexp) (Walk Alt) (Scoped Decl) (Walk Exp) (Scoped Locals) (Walk Open) (Walk Operand) (Walk Walked) (Walk Rhs) (Walk Guard) (Walk (List Part)) (Walk Redef) (aexp_step ts) (alt_step ts) (decl_step ts) (exp_step ts) (locals_step ts) (open_step ts) (operand_step ts) (operands_step ts) (rhs_step ts) (guard_step ts) (next_operand_step ts) (redef_step ts) x)

pub guard_at_clashes : (ts : TopFixities) (l : LocalFixities) (x : Guard) → (guard_out ts x l).clashes ≡ (finished ts (operands_out ts (out-Guard x).test) l).clashes ++ (exp_out ts (out-Guard x).body l).clashes
unfolding aexp_out alt_out decl_out exp_out locals_out open_out operand_out operands_out rhs_out guard_out next_operand_out redef_out
guard_at_clashes ts l x = ap (λ (g : Walk Guard). (g l).clashes) (fold_out-Guard (Walk Aexp) (Walk Alt) (Scoped Decl) (Walk Exp) (Scoped Locals) (Walk Open) (Walk Operand) (Walk Walked) (Walk Rhs) (Walk Guard) (Walk (List Part)) (Walk Redef) (aexp_step ts) (alt_step ts) (decl_step ts) (exp_step ts) (locals_step ts) (open_step ts) (operand_step ts) (operands_step ts) (rhs_step ts) (guard_step ts) (next_operand_step ts) (redef_step ts) x)

pub next_operand_at_tree : (ts : TopFixities) (l : LocalFixities) (x : NextOperand) → (next_operand_out ts x l).tree ≡ part.Op (out-NextOperand x).op ∷ signed (out-NextOperand x).minus (part.Operand (operand_out ts (out-NextOperand x).operand l).tree ∷ [])
unfolding aexp_out alt_out decl_out exp_out locals_out open_out operand_out operands_out rhs_out guard_out next_operand_out redef_out
next_operand_at_tree ts l x = ap (λ (g : Walk (List Part)). (g l).tree) (fold_out-NextOperand (Walk Aexp) (Walk Alt) (Scoped Decl) (Walk Exp) (Scoped Locals) (Walk Open) (Walk Operand) (Walk Walked) (Walk Rhs) (Walk Guard) (Walk (List Part)) (Walk Redef) (aexp_step ts) (alt_step ts) (decl_step ts) (exp_step ts) (locals_step ts) (open_step ts) (operand_step ts) (operands_step ts) (rhs_step ts) (guard_step ts) (next_operand_step ts) (redef_step ts) x)

pub next_operand_at_clashes : (ts : TopFixities) (l : LocalFixities) (x : NextOperand) → (next_operand_out ts x l).clashes ≡ (operand_out ts (out-NextOperand x).operand l).clashes
unfolding aexp_out alt_out decl_out exp_out locals_out open_out operand_out operands_out rhs_out guard_out next_operand_out redef_out
next_operand_at_clashes ts l x = ap (λ (g : Walk (List Part)). (g l).clashes) (fold_out-NextOperand (Walk Aexp) (Walk Alt) (Scoped Decl) (Walk Exp) (Scoped Locals) (Walk Open) (Walk Operand) (Walk Walked) (Walk Rhs) (Walk Guard) (Walk (List Part)) (Walk Redef) (aexp_step ts) (alt_step ts) (decl_step ts) (exp_step ts) (locals_step ts) (open_step ts) (operand_step ts) (operands_step ts) (rhs_step ts) (guard_step ts) (next_operand_step ts) (redef_step ts) x)

pub redef_at_tree : (ts : TopFixities) (l : LocalFixities) (x : Redef) → (redef_out ts x l).tree ≡ roll-Redef (record { span = (out-Redef x).span; function = (out-Redef x).function; variable = (out-Redef x).variable; body = (exp_out ts (out-Redef x).body l).tree })
unfolding aexp_out alt_out decl_out exp_out locals_out open_out operand_out operands_out rhs_out guard_out next_operand_out redef_out
redef_at_tree ts l x = ap (λ (g : Walk Redef). (g l).tree) (fold_out-Redef (Walk Aexp) (Walk Alt) (Scoped Decl) (Walk Exp) (Scoped Locals) (Walk Open) (Walk Operand) (Walk Walked) (Walk Rhs) (Walk Guard) (Walk (List Part)) (Walk Redef) (aexp_step ts) (alt_step ts) (decl_step ts) (exp_step ts) (locals_step ts) (open_step ts) (operand_step ts) (operands_step ts) (rhs_step ts) (guard_step ts) (next_operand_step ts) (redef_step ts) x)

pub redef_at_clashes : (ts : TopFixities) (l : LocalFixities) (x : Redef) → (redef_out ts x l).clashes ≡ (exp_out ts (out-Redef x).body l).clashes
unfolding aexp_out alt_out decl_out exp_out locals_out open_out operand_out operands_out rhs_out guard_out next_operand_out redef_out
redef_at_clashes ts l x = ap (λ (g : Walk Redef). (g l).clashes) (fold_out-Redef (Walk Aexp) (Walk Alt) (Scoped Decl) (Walk Exp) (Scoped Locals) (Walk Open) (Walk Operand) (Walk Walked) (Walk Rhs) (Walk Guard) (Walk (List Part)) (Walk Redef) (aexp_step ts) (alt_step ts) (decl_step ts) (exp_step ts) (locals_step ts) (open_step ts) (operand_step ts) (operands_step ts) (rhs_step ts) (guard_step ts) (next_operand_step ts) (redef_step ts) x)
