-- Patterns and left sides, variant by variant.
use Rattle.std.proofs.Common.{◌≡◌, ℕ, List, [], ◌∷◌, ◌++◌, map, sym, ap, ◌∙◌}
use Rattle.gh_base.specs.declared.place.Span.{Span}
use Rattle.gh_program.specs.declared.names.Occurrence.{Occurrence}
use Rattle.gh_program.specs.declared.names.GenCon.{GenCon}
use Rattle.gh_program.specs.declared.patterns.ArgPattern.{ArgPattern, fold-roll-ArgPattern}
use Rattle.gh_program.specs.declared.patterns.ArgPattern.TheVariants as v_ArgPattern
use Rattle.gh_program.specs.declared.patterns.PatOperand.{PatOperand, fold-roll-PatOperand}
use Rattle.gh_program.specs.declared.patterns.PatOperand.TheVariants as v_PatOperand
use Rattle.gh_program.specs.declared.patterns.Pattern.{Pattern, fold-roll-Pattern}
use Rattle.gh_program.specs.declared.patterns.Pattern.TheVariants as v_Pattern
use Rattle.gh_program.specs.declared.patterns.NextPattern.{NextPattern, out-NextPattern, fold_out-NextPattern}
use Rattle.gh_program.specs.declared.patterns.ArgPattern.TheOpen.{ArgPattern-F, PatOperand-F, Pattern-F}
use Rattle.gh_program.specs.declared.patterns.FunLhs.{FunLhs, fold-roll-FunLhs}
use Rattle.gh_program.specs.declared.patterns.FunLhs.TheVariants as v_FunLhs
use Rattle.gh_program.specs.declared.patterns.FunLhs.TheOpen.{FunLhs-F}
use Rattle.gh_fixity.specs.declared.part.Part.{Part}
use Rattle.gh_fixity.specs.declared.part.Part.TheVariants as part
use Rattle.gh_fixity.specs.declared.walked.WalkedPattern.{WalkedPattern}
use Rattle.gh_fixity.specs.declared.walked.WalkedPattern.TheVariants as pat
use Rattle.gh_fixity.specs.Finish.{finished_pattern, lhs_left, lhs_right, lhs_clashes}
use Rattle.gh_fixity.specs.Fixities.{TopFixities, LocalFixities}
use Rattle.gh_fixity.specs.Walks.{Walk, trees, all_clashes, all_trees}
use Rattle.gh_fixity.specs.Patterns.{arg_pattern_out, arg_pattern_step, pat_operand_out, pat_operand_step, pattern_out, pattern_step, next_pattern_out, next_pattern_step, fun_lhs_out, fun_lhs_step}

pub arg_pattern_var_tree : (ts : TopFixities) (l : LocalFixities) (o : Occurrence) → (arg_pattern_out ts (v_ArgPattern.Var o) l).tree ≡ v_ArgPattern.Var o
unfolding arg_pattern_out pat_operand_out pattern_out next_pattern_out
arg_pattern_var_tree ts l o = ap (λ (g : Walk ArgPattern). (g l).tree) (ap (arg_pattern_out ts) (sym (v_ArgPattern.rolls-Var o)) ∙ fold-roll-ArgPattern (Walk ArgPattern) (Walk PatOperand) (Walk WalkedPattern) (Walk (List Part)) (arg_pattern_step ts) (pat_operand_step ts) (pattern_step ts) (next_pattern_step ts) (ArgPattern-F.Var o))

pub arg_pattern_var_clashes : (ts : TopFixities) (l : LocalFixities) (o : Occurrence) → (arg_pattern_out ts (v_ArgPattern.Var o) l).clashes ≡ []
unfolding arg_pattern_out pat_operand_out pattern_out next_pattern_out
arg_pattern_var_clashes ts l o = ap (λ (g : Walk ArgPattern). (g l).clashes) (ap (arg_pattern_out ts) (sym (v_ArgPattern.rolls-Var o)) ∙ fold-roll-ArgPattern (Walk ArgPattern) (Walk PatOperand) (Walk WalkedPattern) (Walk (List Part)) (arg_pattern_step ts) (pat_operand_step ts) (pattern_step ts) (next_pattern_step ts) (ArgPattern-F.Var o))

pub arg_pattern_as_tree : (ts : TopFixities) (l : LocalFixities) (s : Span) (o : Occurrence) (p : ArgPattern) → (arg_pattern_out ts (v_ArgPattern.As s o p) l).tree ≡ v_ArgPattern.As s o (arg_pattern_out ts p l).tree
unfolding arg_pattern_out pat_operand_out pattern_out next_pattern_out
arg_pattern_as_tree ts l s o p = ap (λ (g : Walk ArgPattern). (g l).tree) (ap (arg_pattern_out ts) (sym (v_ArgPattern.rolls-As s o p)) ∙ fold-roll-ArgPattern (Walk ArgPattern) (Walk PatOperand) (Walk WalkedPattern) (Walk (List Part)) (arg_pattern_step ts) (pat_operand_step ts) (pattern_step ts) (next_pattern_step ts) (ArgPattern-F.As s o p))

pub arg_pattern_as_clashes : (ts : TopFixities) (l : LocalFixities) (s : Span) (o : Occurrence) (p : ArgPattern) → (arg_pattern_out ts (v_ArgPattern.As s o p) l).clashes ≡ (arg_pattern_out ts p l).clashes
unfolding arg_pattern_out pat_operand_out pattern_out next_pattern_out
arg_pattern_as_clashes ts l s o p = ap (λ (g : Walk ArgPattern). (g l).clashes) (ap (arg_pattern_out ts) (sym (v_ArgPattern.rolls-As s o p)) ∙ fold-roll-ArgPattern (Walk ArgPattern) (Walk PatOperand) (Walk WalkedPattern) (Walk (List Part)) (arg_pattern_step ts) (pat_operand_step ts) (pattern_step ts) (next_pattern_step ts) (ArgPattern-F.As s o p))

pub arg_pattern_wild_tree : (ts : TopFixities) (l : LocalFixities) (s : Span) → (arg_pattern_out ts (v_ArgPattern.Wild s) l).tree ≡ v_ArgPattern.Wild s
unfolding arg_pattern_out pat_operand_out pattern_out next_pattern_out
arg_pattern_wild_tree ts l s = ap (λ (g : Walk ArgPattern). (g l).tree) (ap (arg_pattern_out ts) (sym (v_ArgPattern.rolls-Wild s)) ∙ fold-roll-ArgPattern (Walk ArgPattern) (Walk PatOperand) (Walk WalkedPattern) (Walk (List Part)) (arg_pattern_step ts) (pat_operand_step ts) (pattern_step ts) (next_pattern_step ts) (ArgPattern-F.Wild s))

pub arg_pattern_wild_clashes : (ts : TopFixities) (l : LocalFixities) (s : Span) → (arg_pattern_out ts (v_ArgPattern.Wild s) l).clashes ≡ []
unfolding arg_pattern_out pat_operand_out pattern_out next_pattern_out
arg_pattern_wild_clashes ts l s = ap (λ (g : Walk ArgPattern). (g l).clashes) (ap (arg_pattern_out ts) (sym (v_ArgPattern.rolls-Wild s)) ∙ fold-roll-ArgPattern (Walk ArgPattern) (Walk PatOperand) (Walk WalkedPattern) (Walk (List Part)) (arg_pattern_step ts) (pat_operand_step ts) (pattern_step ts) (next_pattern_step ts) (ArgPattern-F.Wild s))

pub arg_pattern_con_tree : (ts : TopFixities) (l : LocalFixities) (g : GenCon) → (arg_pattern_out ts (v_ArgPattern.Con g) l).tree ≡ v_ArgPattern.Con g
unfolding arg_pattern_out pat_operand_out pattern_out next_pattern_out
arg_pattern_con_tree ts l g = ap (λ (g : Walk ArgPattern). (g l).tree) (ap (arg_pattern_out ts) (sym (v_ArgPattern.rolls-Con g)) ∙ fold-roll-ArgPattern (Walk ArgPattern) (Walk PatOperand) (Walk WalkedPattern) (Walk (List Part)) (arg_pattern_step ts) (pat_operand_step ts) (pattern_step ts) (next_pattern_step ts) (ArgPattern-F.ArgPattern::Con g))

pub arg_pattern_con_clashes : (ts : TopFixities) (l : LocalFixities) (g : GenCon) → (arg_pattern_out ts (v_ArgPattern.Con g) l).clashes ≡ []
unfolding arg_pattern_out pat_operand_out pattern_out next_pattern_out
arg_pattern_con_clashes ts l g = ap (λ (g : Walk ArgPattern). (g l).clashes) (ap (arg_pattern_out ts) (sym (v_ArgPattern.rolls-Con g)) ∙ fold-roll-ArgPattern (Walk ArgPattern) (Walk PatOperand) (Walk WalkedPattern) (Walk (List Part)) (arg_pattern_step ts) (pat_operand_step ts) (pattern_step ts) (next_pattern_step ts) (ArgPattern-F.ArgPattern::Con g))

pub arg_pattern_int_tree : (ts : TopFixities) (l : LocalFixities) (s : Span) (n : ℕ) → (arg_pattern_out ts (v_ArgPattern.Int s n) l).tree ≡ v_ArgPattern.Int s n
unfolding arg_pattern_out pat_operand_out pattern_out next_pattern_out
arg_pattern_int_tree ts l s n = ap (λ (g : Walk ArgPattern). (g l).tree) (ap (arg_pattern_out ts) (sym (v_ArgPattern.rolls-Int s n)) ∙ fold-roll-ArgPattern (Walk ArgPattern) (Walk PatOperand) (Walk WalkedPattern) (Walk (List Part)) (arg_pattern_step ts) (pat_operand_step ts) (pattern_step ts) (next_pattern_step ts) (ArgPattern-F.Int s n))

pub arg_pattern_int_clashes : (ts : TopFixities) (l : LocalFixities) (s : Span) (n : ℕ) → (arg_pattern_out ts (v_ArgPattern.Int s n) l).clashes ≡ []
unfolding arg_pattern_out pat_operand_out pattern_out next_pattern_out
arg_pattern_int_clashes ts l s n = ap (λ (g : Walk ArgPattern). (g l).clashes) (ap (arg_pattern_out ts) (sym (v_ArgPattern.rolls-Int s n)) ∙ fold-roll-ArgPattern (Walk ArgPattern) (Walk PatOperand) (Walk WalkedPattern) (Walk (List Part)) (arg_pattern_step ts) (pat_operand_step ts) (pattern_step ts) (next_pattern_step ts) (ArgPattern-F.Int s n))

pub arg_pattern_char_tree : (ts : TopFixities) (l : LocalFixities) (s : Span) (n : ℕ) → (arg_pattern_out ts (v_ArgPattern.Char s n) l).tree ≡ v_ArgPattern.Char s n
unfolding arg_pattern_out pat_operand_out pattern_out next_pattern_out
arg_pattern_char_tree ts l s n = ap (λ (g : Walk ArgPattern). (g l).tree) (ap (arg_pattern_out ts) (sym (v_ArgPattern.rolls-Char s n)) ∙ fold-roll-ArgPattern (Walk ArgPattern) (Walk PatOperand) (Walk WalkedPattern) (Walk (List Part)) (arg_pattern_step ts) (pat_operand_step ts) (pattern_step ts) (next_pattern_step ts) (ArgPattern-F.Char s n))

pub arg_pattern_char_clashes : (ts : TopFixities) (l : LocalFixities) (s : Span) (n : ℕ) → (arg_pattern_out ts (v_ArgPattern.Char s n) l).clashes ≡ []
unfolding arg_pattern_out pat_operand_out pattern_out next_pattern_out
arg_pattern_char_clashes ts l s n = ap (λ (g : Walk ArgPattern). (g l).clashes) (ap (arg_pattern_out ts) (sym (v_ArgPattern.rolls-Char s n)) ∙ fold-roll-ArgPattern (Walk ArgPattern) (Walk PatOperand) (Walk WalkedPattern) (Walk (List Part)) (arg_pattern_step ts) (pat_operand_step ts) (pattern_step ts) (next_pattern_step ts) (ArgPattern-F.Char s n))

pub arg_pattern_str_tree : (ts : TopFixities) (l : LocalFixities) (s : Span) (cs : List ℕ) → (arg_pattern_out ts (v_ArgPattern.Str s cs) l).tree ≡ v_ArgPattern.Str s cs
unfolding arg_pattern_out pat_operand_out pattern_out next_pattern_out
arg_pattern_str_tree ts l s cs = ap (λ (g : Walk ArgPattern). (g l).tree) (ap (arg_pattern_out ts) (sym (v_ArgPattern.rolls-Str s cs)) ∙ fold-roll-ArgPattern (Walk ArgPattern) (Walk PatOperand) (Walk WalkedPattern) (Walk (List Part)) (arg_pattern_step ts) (pat_operand_step ts) (pattern_step ts) (next_pattern_step ts) (ArgPattern-F.Str s cs))

pub arg_pattern_str_clashes : (ts : TopFixities) (l : LocalFixities) (s : Span) (cs : List ℕ) → (arg_pattern_out ts (v_ArgPattern.Str s cs) l).clashes ≡ []
unfolding arg_pattern_out pat_operand_out pattern_out next_pattern_out
arg_pattern_str_clashes ts l s cs = ap (λ (g : Walk ArgPattern). (g l).clashes) (ap (arg_pattern_out ts) (sym (v_ArgPattern.rolls-Str s cs)) ∙ fold-roll-ArgPattern (Walk ArgPattern) (Walk PatOperand) (Walk WalkedPattern) (Walk (List Part)) (arg_pattern_step ts) (pat_operand_step ts) (pattern_step ts) (next_pattern_step ts) (ArgPattern-F.Str s cs))

pub arg_pattern_paren_tree : (ts : TopFixities) (l : LocalFixities) (s : Span) (p : Pattern) → (arg_pattern_out ts (v_ArgPattern.Paren s p) l).tree ≡ v_ArgPattern.Paren s (finished_pattern ts (pattern_out ts p) l).tree
unfolding arg_pattern_out pat_operand_out pattern_out next_pattern_out
arg_pattern_paren_tree ts l s p = ap (λ (g : Walk ArgPattern). (g l).tree) (ap (arg_pattern_out ts) (sym (v_ArgPattern.rolls-Paren s p)) ∙ fold-roll-ArgPattern (Walk ArgPattern) (Walk PatOperand) (Walk WalkedPattern) (Walk (List Part)) (arg_pattern_step ts) (pat_operand_step ts) (pattern_step ts) (next_pattern_step ts) (ArgPattern-F.Paren s p))

pub arg_pattern_paren_clashes : (ts : TopFixities) (l : LocalFixities) (s : Span) (p : Pattern) → (arg_pattern_out ts (v_ArgPattern.Paren s p) l).clashes ≡ (finished_pattern ts (pattern_out ts p) l).clashes
unfolding arg_pattern_out pat_operand_out pattern_out next_pattern_out
arg_pattern_paren_clashes ts l s p = ap (λ (g : Walk ArgPattern). (g l).clashes) (ap (arg_pattern_out ts) (sym (v_ArgPattern.rolls-Paren s p)) ∙ fold-roll-ArgPattern (Walk ArgPattern) (Walk PatOperand) (Walk WalkedPattern) (Walk (List Part)) (arg_pattern_step ts) (pat_operand_step ts) (pattern_step ts) (next_pattern_step ts) (ArgPattern-F.Paren s p))

pub arg_pattern_tuple_tree : (ts : TopFixities) (l : LocalFixities) (s : Span) (ps : List Pattern) → (arg_pattern_out ts (v_ArgPattern.Tuple s ps) l).tree ≡ v_ArgPattern.Tuple s (trees l (map (finished_pattern ts) (map (pattern_out ts) ps)))
unfolding arg_pattern_out pat_operand_out pattern_out next_pattern_out
arg_pattern_tuple_tree ts l s ps = ap (λ (g : Walk ArgPattern). (g l).tree) (ap (arg_pattern_out ts) (sym (v_ArgPattern.rolls-Tuple s ps)) ∙ fold-roll-ArgPattern (Walk ArgPattern) (Walk PatOperand) (Walk WalkedPattern) (Walk (List Part)) (arg_pattern_step ts) (pat_operand_step ts) (pattern_step ts) (next_pattern_step ts) (ArgPattern-F.Tuple s ps))

pub arg_pattern_tuple_clashes : (ts : TopFixities) (l : LocalFixities) (s : Span) (ps : List Pattern) → (arg_pattern_out ts (v_ArgPattern.Tuple s ps) l).clashes ≡ all_clashes l (map (finished_pattern ts) (map (pattern_out ts) ps))
unfolding arg_pattern_out pat_operand_out pattern_out next_pattern_out
arg_pattern_tuple_clashes ts l s ps = ap (λ (g : Walk ArgPattern). (g l).clashes) (ap (arg_pattern_out ts) (sym (v_ArgPattern.rolls-Tuple s ps)) ∙ fold-roll-ArgPattern (Walk ArgPattern) (Walk PatOperand) (Walk WalkedPattern) (Walk (List Part)) (arg_pattern_step ts) (pat_operand_step ts) (pattern_step ts) (next_pattern_step ts) (ArgPattern-F.Tuple s ps))

pub arg_pattern_list_tree : (ts : TopFixities) (l : LocalFixities) (s : Span) (ps : List Pattern) → (arg_pattern_out ts (v_ArgPattern.List s ps) l).tree ≡ v_ArgPattern.List s (trees l (map (finished_pattern ts) (map (pattern_out ts) ps)))
unfolding arg_pattern_out pat_operand_out pattern_out next_pattern_out
arg_pattern_list_tree ts l s ps = ap (λ (g : Walk ArgPattern). (g l).tree) (ap (arg_pattern_out ts) (sym (v_ArgPattern.rolls-List s ps)) ∙ fold-roll-ArgPattern (Walk ArgPattern) (Walk PatOperand) (Walk WalkedPattern) (Walk (List Part)) (arg_pattern_step ts) (pat_operand_step ts) (pattern_step ts) (next_pattern_step ts) (ArgPattern-F.List s ps))

pub arg_pattern_list_clashes : (ts : TopFixities) (l : LocalFixities) (s : Span) (ps : List Pattern) → (arg_pattern_out ts (v_ArgPattern.List s ps) l).clashes ≡ all_clashes l (map (finished_pattern ts) (map (pattern_out ts) ps))
unfolding arg_pattern_out pat_operand_out pattern_out next_pattern_out
arg_pattern_list_clashes ts l s ps = ap (λ (g : Walk ArgPattern). (g l).clashes) (ap (arg_pattern_out ts) (sym (v_ArgPattern.rolls-List s ps)) ∙ fold-roll-ArgPattern (Walk ArgPattern) (Walk PatOperand) (Walk WalkedPattern) (Walk (List Part)) (arg_pattern_step ts) (pat_operand_step ts) (pattern_step ts) (next_pattern_step ts) (ArgPattern-F.List s ps))

pub pat_operand_negative_tree : (ts : TopFixities) (l : LocalFixities) (s : Span) (n : ℕ) → (pat_operand_out ts (v_PatOperand.Negative s n) l).tree ≡ v_PatOperand.Negative s n
unfolding arg_pattern_out pat_operand_out pattern_out next_pattern_out
pat_operand_negative_tree ts l s n = ap (λ (g : Walk PatOperand). (g l).tree) (ap (pat_operand_out ts) (sym (v_PatOperand.rolls-Negative s n)) ∙ fold-roll-PatOperand (Walk ArgPattern) (Walk PatOperand) (Walk WalkedPattern) (Walk (List Part)) (arg_pattern_step ts) (pat_operand_step ts) (pattern_step ts) (next_pattern_step ts) (PatOperand-F.Negative s n))

pub pat_operand_negative_clashes : (ts : TopFixities) (l : LocalFixities) (s : Span) (n : ℕ) → (pat_operand_out ts (v_PatOperand.Negative s n) l).clashes ≡ []
unfolding arg_pattern_out pat_operand_out pattern_out next_pattern_out
pat_operand_negative_clashes ts l s n = ap (λ (g : Walk PatOperand). (g l).clashes) (ap (pat_operand_out ts) (sym (v_PatOperand.rolls-Negative s n)) ∙ fold-roll-PatOperand (Walk ArgPattern) (Walk PatOperand) (Walk WalkedPattern) (Walk (List Part)) (arg_pattern_step ts) (pat_operand_step ts) (pattern_step ts) (next_pattern_step ts) (PatOperand-F.Negative s n))

pub pat_operand_arg_tree : (ts : TopFixities) (l : LocalFixities) (p : ArgPattern) → (pat_operand_out ts (v_PatOperand.Arg p) l).tree ≡ v_PatOperand.Arg (arg_pattern_out ts p l).tree
unfolding arg_pattern_out pat_operand_out pattern_out next_pattern_out
pat_operand_arg_tree ts l p = ap (λ (g : Walk PatOperand). (g l).tree) (ap (pat_operand_out ts) (sym (v_PatOperand.rolls-Arg p)) ∙ fold-roll-PatOperand (Walk ArgPattern) (Walk PatOperand) (Walk WalkedPattern) (Walk (List Part)) (arg_pattern_step ts) (pat_operand_step ts) (pattern_step ts) (next_pattern_step ts) (PatOperand-F.Arg p))

pub pat_operand_arg_clashes : (ts : TopFixities) (l : LocalFixities) (p : ArgPattern) → (pat_operand_out ts (v_PatOperand.Arg p) l).clashes ≡ (arg_pattern_out ts p l).clashes
unfolding arg_pattern_out pat_operand_out pattern_out next_pattern_out
pat_operand_arg_clashes ts l p = ap (λ (g : Walk PatOperand). (g l).clashes) (ap (pat_operand_out ts) (sym (v_PatOperand.rolls-Arg p)) ∙ fold-roll-PatOperand (Walk ArgPattern) (Walk PatOperand) (Walk WalkedPattern) (Walk (List Part)) (arg_pattern_step ts) (pat_operand_step ts) (pattern_step ts) (next_pattern_step ts) (PatOperand-F.Arg p))

pub pat_operand_con_tree : (ts : TopFixities) (l : LocalFixities) (s : Span) (g : GenCon) (ps : List ArgPattern) → (pat_operand_out ts (v_PatOperand.Con s g ps) l).tree ≡ v_PatOperand.Con s g (trees l (map (arg_pattern_out ts) ps))
unfolding arg_pattern_out pat_operand_out pattern_out next_pattern_out
pat_operand_con_tree ts l s g ps = ap (λ (g : Walk PatOperand). (g l).tree) (ap (pat_operand_out ts) (sym (v_PatOperand.rolls-Con s g ps)) ∙ fold-roll-PatOperand (Walk ArgPattern) (Walk PatOperand) (Walk WalkedPattern) (Walk (List Part)) (arg_pattern_step ts) (pat_operand_step ts) (pattern_step ts) (next_pattern_step ts) (PatOperand-F.PatOperand::Con s g ps))

pub pat_operand_con_clashes : (ts : TopFixities) (l : LocalFixities) (s : Span) (g : GenCon) (ps : List ArgPattern) → (pat_operand_out ts (v_PatOperand.Con s g ps) l).clashes ≡ all_clashes l (map (arg_pattern_out ts) ps)
unfolding arg_pattern_out pat_operand_out pattern_out next_pattern_out
pat_operand_con_clashes ts l s g ps = ap (λ (g : Walk PatOperand). (g l).clashes) (ap (pat_operand_out ts) (sym (v_PatOperand.rolls-Con s g ps)) ∙ fold-roll-PatOperand (Walk ArgPattern) (Walk PatOperand) (Walk WalkedPattern) (Walk (List Part)) (arg_pattern_step ts) (pat_operand_step ts) (pattern_step ts) (next_pattern_step ts) (PatOperand-F.PatOperand::Con s g ps))

pub pattern_listed_tree : (ts : TopFixities) (l : LocalFixities) (s : Span) (x : PatOperand) (ns : List NextPattern) → (pattern_out ts (v_Pattern.Listed s x ns) l).tree ≡ pat.List (part.Pattern (pat_operand_out ts x l).tree ∷ all_trees l (map (next_pattern_out ts) ns))
unfolding arg_pattern_out pat_operand_out pattern_out next_pattern_out
pattern_listed_tree ts l s x ns = ap (λ (g : Walk WalkedPattern). (g l).tree) (ap (pattern_out ts) (sym (v_Pattern.rolls-Listed s x ns)) ∙ fold-roll-Pattern (Walk ArgPattern) (Walk PatOperand) (Walk WalkedPattern) (Walk (List Part)) (arg_pattern_step ts) (pat_operand_step ts) (pattern_step ts) (next_pattern_step ts) (Pattern-F.Listed s x ns))

pub pattern_listed_clashes : (ts : TopFixities) (l : LocalFixities) (s : Span) (x : PatOperand) (ns : List NextPattern) → (pattern_out ts (v_Pattern.Listed s x ns) l).clashes ≡ (pat_operand_out ts x l).clashes ++ all_clashes l (map (next_pattern_out ts) ns)
unfolding arg_pattern_out pat_operand_out pattern_out next_pattern_out
pattern_listed_clashes ts l s x ns = ap (λ (g : Walk WalkedPattern). (g l).clashes) (ap (pattern_out ts) (sym (v_Pattern.rolls-Listed s x ns)) ∙ fold-roll-Pattern (Walk ArgPattern) (Walk PatOperand) (Walk WalkedPattern) (Walk (List Part)) (arg_pattern_step ts) (pat_operand_step ts) (pattern_step ts) (next_pattern_step ts) (Pattern-F.Listed s x ns))

pub pattern_infix_tree : (ts : TopFixities) (l : LocalFixities) (s : Span) (a : Pattern) (o : Occurrence) (b : Pattern) → (pattern_out ts (v_Pattern.Infix s a o b) l).tree ≡ pat.Tree (v_Pattern.Infix s (finished_pattern ts (pattern_out ts a) l).tree o (finished_pattern ts (pattern_out ts b) l).tree)
unfolding arg_pattern_out pat_operand_out pattern_out next_pattern_out
pattern_infix_tree ts l s a o b = ap (λ (g : Walk WalkedPattern). (g l).tree) (ap (pattern_out ts) (sym (v_Pattern.rolls-Infix s a o b)) ∙ fold-roll-Pattern (Walk ArgPattern) (Walk PatOperand) (Walk WalkedPattern) (Walk (List Part)) (arg_pattern_step ts) (pat_operand_step ts) (pattern_step ts) (next_pattern_step ts) (Pattern-F.Infix s a o b))

pub pattern_infix_clashes : (ts : TopFixities) (l : LocalFixities) (s : Span) (a : Pattern) (o : Occurrence) (b : Pattern) → (pattern_out ts (v_Pattern.Infix s a o b) l).clashes ≡ (finished_pattern ts (pattern_out ts a) l).clashes ++ (finished_pattern ts (pattern_out ts b) l).clashes
unfolding arg_pattern_out pat_operand_out pattern_out next_pattern_out
pattern_infix_clashes ts l s a o b = ap (λ (g : Walk WalkedPattern). (g l).clashes) (ap (pattern_out ts) (sym (v_Pattern.rolls-Infix s a o b)) ∙ fold-roll-Pattern (Walk ArgPattern) (Walk PatOperand) (Walk WalkedPattern) (Walk (List Part)) (arg_pattern_step ts) (pat_operand_step ts) (pattern_step ts) (next_pattern_step ts) (Pattern-F.Infix s a o b))

pub next_pattern_at_tree : (ts : TopFixities) (l : LocalFixities) (x : NextPattern) → (next_pattern_out ts x l).tree ≡ part.Op (out-NextPattern x).op ∷ part.Pattern (pat_operand_out ts (out-NextPattern x).operand l).tree ∷ []
unfolding arg_pattern_out pat_operand_out pattern_out next_pattern_out
next_pattern_at_tree ts l x = ap (λ (g : Walk (List Part)). (g l).tree) (fold_out-NextPattern (Walk ArgPattern) (Walk PatOperand) (Walk WalkedPattern) (Walk (List Part)) (arg_pattern_step ts) (pat_operand_step ts) (pattern_step ts) (next_pattern_step ts) x)

pub next_pattern_at_clashes : (ts : TopFixities) (l : LocalFixities) (x : NextPattern) → (next_pattern_out ts x l).clashes ≡ (pat_operand_out ts (out-NextPattern x).operand l).clashes
unfolding arg_pattern_out pat_operand_out pattern_out next_pattern_out
next_pattern_at_clashes ts l x = ap (λ (g : Walk (List Part)). (g l).clashes) (fold_out-NextPattern (Walk ArgPattern) (Walk PatOperand) (Walk WalkedPattern) (Walk (List Part)) (arg_pattern_step ts) (pat_operand_step ts) (pattern_step ts) (next_pattern_step ts) x)

pub fun_lhs_prefix_tree : (ts : TopFixities) (l : LocalFixities) (s : Span) (o : Occurrence) (ps : List ArgPattern) → (fun_lhs_out ts (v_FunLhs.Prefix s o ps) l).tree ≡ v_FunLhs.Prefix s o (trees l (map (arg_pattern_out ts) ps))
unfolding fun_lhs_out
fun_lhs_prefix_tree ts l s o ps = ap (λ (g : Walk FunLhs). (g l).tree) (ap (fun_lhs_out ts) (sym (v_FunLhs.rolls-Prefix s o ps)) ∙ fold-roll-FunLhs (Walk FunLhs) (fun_lhs_step ts) (FunLhs-F.Prefix s o ps))

pub fun_lhs_prefix_clashes : (ts : TopFixities) (l : LocalFixities) (s : Span) (o : Occurrence) (ps : List ArgPattern) → (fun_lhs_out ts (v_FunLhs.Prefix s o ps) l).clashes ≡ all_clashes l (map (arg_pattern_out ts) ps)
unfolding fun_lhs_out
fun_lhs_prefix_clashes ts l s o ps = ap (λ (g : Walk FunLhs). (g l).clashes) (ap (fun_lhs_out ts) (sym (v_FunLhs.rolls-Prefix s o ps)) ∙ fold-roll-FunLhs (Walk FunLhs) (fun_lhs_step ts) (FunLhs-F.Prefix s o ps))

pub fun_lhs_infix_tree : (ts : TopFixities) (l : LocalFixities) (s : Span) (p : Pattern) (o : Occurrence) (q : Pattern) → (fun_lhs_out ts (v_FunLhs.Infix s p o q) l).tree ≡ v_FunLhs.Infix s (lhs_left ts l (pattern_out ts p l).tree o (pattern_out ts q l).tree) o (lhs_right ts l (pattern_out ts p l).tree o (pattern_out ts q l).tree)
unfolding fun_lhs_out
fun_lhs_infix_tree ts l s p o q = ap (λ (g : Walk FunLhs). (g l).tree) (ap (fun_lhs_out ts) (sym (v_FunLhs.rolls-Infix s p o q)) ∙ fold-roll-FunLhs (Walk FunLhs) (fun_lhs_step ts) (FunLhs-F.Infix s p o q))

pub fun_lhs_infix_clashes : (ts : TopFixities) (l : LocalFixities) (s : Span) (p : Pattern) (o : Occurrence) (q : Pattern) → (fun_lhs_out ts (v_FunLhs.Infix s p o q) l).clashes ≡ (pattern_out ts p l).clashes ++ ((pattern_out ts q l).clashes ++ lhs_clashes ts l (pattern_out ts p l).tree o (pattern_out ts q l).tree)
unfolding fun_lhs_out
fun_lhs_infix_clashes ts l s p o q = ap (λ (g : Walk FunLhs). (g l).clashes) (ap (fun_lhs_out ts) (sym (v_FunLhs.rolls-Infix s p o q)) ∙ fold-roll-FunLhs (Walk FunLhs) (fun_lhs_step ts) (FunLhs-F.Infix s p o q))

pub fun_lhs_nested_tree : (ts : TopFixities) (l : LocalFixities) (s : Span) (f : FunLhs) (ps : List ArgPattern) → (fun_lhs_out ts (v_FunLhs.Nested s f ps) l).tree ≡ v_FunLhs.Nested s (fun_lhs_out ts f l).tree (trees l (map (arg_pattern_out ts) ps))
unfolding fun_lhs_out
fun_lhs_nested_tree ts l s f ps = ap (λ (g : Walk FunLhs). (g l).tree) (ap (fun_lhs_out ts) (sym (v_FunLhs.rolls-Nested s f ps)) ∙ fold-roll-FunLhs (Walk FunLhs) (fun_lhs_step ts) (FunLhs-F.Nested s f ps))

pub fun_lhs_nested_clashes : (ts : TopFixities) (l : LocalFixities) (s : Span) (f : FunLhs) (ps : List ArgPattern) → (fun_lhs_out ts (v_FunLhs.Nested s f ps) l).clashes ≡ (fun_lhs_out ts f l).clashes ++ all_clashes l (map (arg_pattern_out ts) ps)
unfolding fun_lhs_out
fun_lhs_nested_clashes ts l s f ps = ap (λ (g : Walk FunLhs). (g l).clashes) (ap (fun_lhs_out ts) (sym (v_FunLhs.rolls-Nested s f ps)) ∙ fold-roll-FunLhs (Walk FunLhs) (fun_lhs_step ts) (FunLhs-F.Nested s f ps))
