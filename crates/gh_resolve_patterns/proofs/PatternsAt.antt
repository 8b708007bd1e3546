-- Patterns, variant by variant.
use Rattle.std.proofs.Common.{◌≡◌, ℕ, suc, length, List, [], ◌∷◌, ◌++◌, map, Some, sym, ap, ◌∙◌}
use Rattle.gh_base.specs.declared.place.Span.{Span}
use Rattle.gh_tree.specs.declared.names.Var.{Var}
use Rattle.gh_tree.specs.declared.names.GenCon.{GenCon}
use Rattle.gh_tree.specs.declared.patterns.ArgPattern.{ArgPattern, fold-roll-ArgPattern}
use Rattle.gh_tree.specs.declared.patterns.ArgPattern.TheVariants as v_ArgPattern
use Rattle.gh_tree.specs.declared.patterns.PatOperand.{PatOperand, fold-roll-PatOperand}
use Rattle.gh_tree.specs.declared.patterns.PatOperand.TheVariants as v_PatOperand
use Rattle.gh_tree.specs.declared.patterns.NextPattern.{NextPattern, out-NextPattern, fold_out-NextPattern}
use Rattle.gh_tree.specs.declared.patterns.PatPart.{PatPart, out-PatPart, fold_out-PatPart}
use Rattle.gh_tree.specs.declared.patterns.Pattern.{Pattern, out-Pattern, fold_out-Pattern}
use Rattle.gh_tree.specs.declared.patterns.ArgPattern.TheOpen.{ArgPattern-F, PatOperand-F}
use Rattle.gh_program.specs.declared.patterns.ArgPattern as made_arg
use Rattle.gh_program.specs.declared.patterns.ArgPattern.TheVariants as arg
use Rattle.gh_program.specs.declared.patterns.PatOperand as made_operand
use Rattle.gh_program.specs.declared.patterns.PatOperand.TheVariants as operand
use Rattle.gh_program.specs.declared.patterns.NextPattern as made_next
use Rattle.gh_program.specs.declared.patterns.NextPattern.{roll-NextPattern}
use Rattle.gh_program.specs.declared.patterns.Pattern as made_pattern
use Rattle.gh_program.specs.declared.patterns.Pattern.TheVariants as pat
use Rattle.gh_resolve_names.specs.declared.context.Context.{Context}
use Rattle.gh_resolve_names.specs.Misuses.{Walk, trees, all_misuses}
use Rattle.gh_resolve_names.specs.Standing.{Bound, bound_name, constructor_operator_use, general_use}
use Rattle.gh_resolve_names.specs.Written.{used_var}
use Rattle.gh_resolve_patterns.specs.Patterns.{arg_pattern_out, pat_operand_out, next_pattern_out, pat_part_out, pattern_out, arg_pattern_step, pat_operand_step, next_pattern_step, pat_part_step, pattern_step}

pub arg_pattern_var_tree : (c : Context) (bs : Bound) (v : Var) → (arg_pattern_out c (v_ArgPattern.Var v) bs).tree ≡ arg.Var (bound_name c bs (used_var v))
unfolding arg_pattern_out pat_operand_out next_pattern_out pat_part_out pattern_out
arg_pattern_var_tree c bs v = ap (λ (g : Walk Bound (made_arg.ArgPattern)). (g bs).tree) (ap (arg_pattern_out c) (sym (v_ArgPattern.rolls-Var v)) ∙ fold-roll-ArgPattern (Walk Bound (made_arg.ArgPattern)) (Walk Bound (made_operand.PatOperand)) (Walk Bound (made_next.NextPattern)) (Walk Bound (made_pattern.Pattern)) (Walk Bound (made_pattern.Pattern)) (arg_pattern_step c) (pat_operand_step c) (next_pattern_step c) (pat_part_step c) (pattern_step c) (ArgPattern-F.Var v))

pub arg_pattern_var_misuses : (c : Context) (bs : Bound) (v : Var) → (arg_pattern_out c (v_ArgPattern.Var v) bs).misuses ≡ []
unfolding arg_pattern_out pat_operand_out next_pattern_out pat_part_out pattern_out
arg_pattern_var_misuses c bs v = ap (λ (g : Walk Bound (made_arg.ArgPattern)). (g bs).misuses) (ap (arg_pattern_out c) (sym (v_ArgPattern.rolls-Var v)) ∙ fold-roll-ArgPattern (Walk Bound (made_arg.ArgPattern)) (Walk Bound (made_operand.PatOperand)) (Walk Bound (made_next.NextPattern)) (Walk Bound (made_pattern.Pattern)) (Walk Bound (made_pattern.Pattern)) (arg_pattern_step c) (pat_operand_step c) (next_pattern_step c) (pat_part_step c) (pattern_step c) (ArgPattern-F.Var v))

pub arg_pattern_as_tree : (c : Context) (bs : Bound) (s : Span) (v : Var) (a : Span) (p : ArgPattern) → (arg_pattern_out c (v_ArgPattern.As s v a p) bs).tree ≡ arg.As s (bound_name c bs (used_var v)) ((arg_pattern_out c p) bs).tree
unfolding arg_pattern_out pat_operand_out next_pattern_out pat_part_out pattern_out
arg_pattern_as_tree c bs s v a p = ap (λ (g : Walk Bound (made_arg.ArgPattern)). (g bs).tree) (ap (arg_pattern_out c) (sym (v_ArgPattern.rolls-As s v a p)) ∙ fold-roll-ArgPattern (Walk Bound (made_arg.ArgPattern)) (Walk Bound (made_operand.PatOperand)) (Walk Bound (made_next.NextPattern)) (Walk Bound (made_pattern.Pattern)) (Walk Bound (made_pattern.Pattern)) (arg_pattern_step c) (pat_operand_step c) (next_pattern_step c) (pat_part_step c) (pattern_step c) (ArgPattern-F.As s v a p))

pub arg_pattern_as_misuses : (c : Context) (bs : Bound) (s : Span) (v : Var) (a : Span) (p : ArgPattern) → (arg_pattern_out c (v_ArgPattern.As s v a p) bs).misuses ≡ ((arg_pattern_out c p) bs).misuses
unfolding arg_pattern_out pat_operand_out next_pattern_out pat_part_out pattern_out
arg_pattern_as_misuses c bs s v a p = ap (λ (g : Walk Bound (made_arg.ArgPattern)). (g bs).misuses) (ap (arg_pattern_out c) (sym (v_ArgPattern.rolls-As s v a p)) ∙ fold-roll-ArgPattern (Walk Bound (made_arg.ArgPattern)) (Walk Bound (made_operand.PatOperand)) (Walk Bound (made_next.NextPattern)) (Walk Bound (made_pattern.Pattern)) (Walk Bound (made_pattern.Pattern)) (arg_pattern_step c) (pat_operand_step c) (next_pattern_step c) (pat_part_step c) (pattern_step c) (ArgPattern-F.As s v a p))

pub arg_pattern_wild_tree : (c : Context) (bs : Bound) (s : Span) → (arg_pattern_out c (v_ArgPattern.Wild s) bs).tree ≡ arg.Wild s
unfolding arg_pattern_out pat_operand_out next_pattern_out pat_part_out pattern_out
arg_pattern_wild_tree c bs s = ap (λ (g : Walk Bound (made_arg.ArgPattern)). (g bs).tree) (ap (arg_pattern_out c) (sym (v_ArgPattern.rolls-Wild s)) ∙ fold-roll-ArgPattern (Walk Bound (made_arg.ArgPattern)) (Walk Bound (made_operand.PatOperand)) (Walk Bound (made_next.NextPattern)) (Walk Bound (made_pattern.Pattern)) (Walk Bound (made_pattern.Pattern)) (arg_pattern_step c) (pat_operand_step c) (next_pattern_step c) (pat_part_step c) (pattern_step c) (ArgPattern-F.Wild s))

pub arg_pattern_wild_misuses : (c : Context) (bs : Bound) (s : Span) → (arg_pattern_out c (v_ArgPattern.Wild s) bs).misuses ≡ []
unfolding arg_pattern_out pat_operand_out next_pattern_out pat_part_out pattern_out
arg_pattern_wild_misuses c bs s = ap (λ (g : Walk Bound (made_arg.ArgPattern)). (g bs).misuses) (ap (arg_pattern_out c) (sym (v_ArgPattern.rolls-Wild s)) ∙ fold-roll-ArgPattern (Walk Bound (made_arg.ArgPattern)) (Walk Bound (made_operand.PatOperand)) (Walk Bound (made_next.NextPattern)) (Walk Bound (made_pattern.Pattern)) (Walk Bound (made_pattern.Pattern)) (arg_pattern_step c) (pat_operand_step c) (next_pattern_step c) (pat_part_step c) (pattern_step c) (ArgPattern-F.Wild s))

pub arg_pattern_con_tree : (c : Context) (bs : Bound) (g : GenCon) → (arg_pattern_out c (v_ArgPattern.Con g) bs).tree ≡ arg.Con (general_use c (Some 0) g).tree
unfolding arg_pattern_out pat_operand_out next_pattern_out pat_part_out pattern_out
arg_pattern_con_tree c bs g = ap (λ (g : Walk Bound (made_arg.ArgPattern)). (g bs).tree) (ap (arg_pattern_out c) (sym (v_ArgPattern.rolls-Con g)) ∙ fold-roll-ArgPattern (Walk Bound (made_arg.ArgPattern)) (Walk Bound (made_operand.PatOperand)) (Walk Bound (made_next.NextPattern)) (Walk Bound (made_pattern.Pattern)) (Walk Bound (made_pattern.Pattern)) (arg_pattern_step c) (pat_operand_step c) (next_pattern_step c) (pat_part_step c) (pattern_step c) (ArgPattern-F.ArgPattern::Con g))

pub arg_pattern_con_misuses : (c : Context) (bs : Bound) (g : GenCon) → (arg_pattern_out c (v_ArgPattern.Con g) bs).misuses ≡ (general_use c (Some 0) g).misuses
unfolding arg_pattern_out pat_operand_out next_pattern_out pat_part_out pattern_out
arg_pattern_con_misuses c bs g = ap (λ (g : Walk Bound (made_arg.ArgPattern)). (g bs).misuses) (ap (arg_pattern_out c) (sym (v_ArgPattern.rolls-Con g)) ∙ fold-roll-ArgPattern (Walk Bound (made_arg.ArgPattern)) (Walk Bound (made_operand.PatOperand)) (Walk Bound (made_next.NextPattern)) (Walk Bound (made_pattern.Pattern)) (Walk Bound (made_pattern.Pattern)) (arg_pattern_step c) (pat_operand_step c) (next_pattern_step c) (pat_part_step c) (pattern_step c) (ArgPattern-F.ArgPattern::Con g))

pub arg_pattern_int_tree : (c : Context) (bs : Bound) (s : Span) (n : ℕ) → (arg_pattern_out c (v_ArgPattern.Int s n) bs).tree ≡ arg.Int s n
unfolding arg_pattern_out pat_operand_out next_pattern_out pat_part_out pattern_out
arg_pattern_int_tree c bs s n = ap (λ (g : Walk Bound (made_arg.ArgPattern)). (g bs).tree) (ap (arg_pattern_out c) (sym (v_ArgPattern.rolls-Int s n)) ∙ fold-roll-ArgPattern (Walk Bound (made_arg.ArgPattern)) (Walk Bound (made_operand.PatOperand)) (Walk Bound (made_next.NextPattern)) (Walk Bound (made_pattern.Pattern)) (Walk Bound (made_pattern.Pattern)) (arg_pattern_step c) (pat_operand_step c) (next_pattern_step c) (pat_part_step c) (pattern_step c) (ArgPattern-F.Int s n))

pub arg_pattern_int_misuses : (c : Context) (bs : Bound) (s : Span) (n : ℕ) → (arg_pattern_out c (v_ArgPattern.Int s n) bs).misuses ≡ []
unfolding arg_pattern_out pat_operand_out next_pattern_out pat_part_out pattern_out
arg_pattern_int_misuses c bs s n = ap (λ (g : Walk Bound (made_arg.ArgPattern)). (g bs).misuses) (ap (arg_pattern_out c) (sym (v_ArgPattern.rolls-Int s n)) ∙ fold-roll-ArgPattern (Walk Bound (made_arg.ArgPattern)) (Walk Bound (made_operand.PatOperand)) (Walk Bound (made_next.NextPattern)) (Walk Bound (made_pattern.Pattern)) (Walk Bound (made_pattern.Pattern)) (arg_pattern_step c) (pat_operand_step c) (next_pattern_step c) (pat_part_step c) (pattern_step c) (ArgPattern-F.Int s n))

pub arg_pattern_char_tree : (c : Context) (bs : Bound) (s : Span) (n : ℕ) → (arg_pattern_out c (v_ArgPattern.Char s n) bs).tree ≡ arg.Char s n
unfolding arg_pattern_out pat_operand_out next_pattern_out pat_part_out pattern_out
arg_pattern_char_tree c bs s n = ap (λ (g : Walk Bound (made_arg.ArgPattern)). (g bs).tree) (ap (arg_pattern_out c) (sym (v_ArgPattern.rolls-Char s n)) ∙ fold-roll-ArgPattern (Walk Bound (made_arg.ArgPattern)) (Walk Bound (made_operand.PatOperand)) (Walk Bound (made_next.NextPattern)) (Walk Bound (made_pattern.Pattern)) (Walk Bound (made_pattern.Pattern)) (arg_pattern_step c) (pat_operand_step c) (next_pattern_step c) (pat_part_step c) (pattern_step c) (ArgPattern-F.Char s n))

pub arg_pattern_char_misuses : (c : Context) (bs : Bound) (s : Span) (n : ℕ) → (arg_pattern_out c (v_ArgPattern.Char s n) bs).misuses ≡ []
unfolding arg_pattern_out pat_operand_out next_pattern_out pat_part_out pattern_out
arg_pattern_char_misuses c bs s n = ap (λ (g : Walk Bound (made_arg.ArgPattern)). (g bs).misuses) (ap (arg_pattern_out c) (sym (v_ArgPattern.rolls-Char s n)) ∙ fold-roll-ArgPattern (Walk Bound (made_arg.ArgPattern)) (Walk Bound (made_operand.PatOperand)) (Walk Bound (made_next.NextPattern)) (Walk Bound (made_pattern.Pattern)) (Walk Bound (made_pattern.Pattern)) (arg_pattern_step c) (pat_operand_step c) (next_pattern_step c) (pat_part_step c) (pattern_step c) (ArgPattern-F.Char s n))

pub arg_pattern_str_tree : (c : Context) (bs : Bound) (s : Span) (cs : List ℕ) → (arg_pattern_out c (v_ArgPattern.Str s cs) bs).tree ≡ arg.Str s cs
unfolding arg_pattern_out pat_operand_out next_pattern_out pat_part_out pattern_out
arg_pattern_str_tree c bs s cs = ap (λ (g : Walk Bound (made_arg.ArgPattern)). (g bs).tree) (ap (arg_pattern_out c) (sym (v_ArgPattern.rolls-Str s cs)) ∙ fold-roll-ArgPattern (Walk Bound (made_arg.ArgPattern)) (Walk Bound (made_operand.PatOperand)) (Walk Bound (made_next.NextPattern)) (Walk Bound (made_pattern.Pattern)) (Walk Bound (made_pattern.Pattern)) (arg_pattern_step c) (pat_operand_step c) (next_pattern_step c) (pat_part_step c) (pattern_step c) (ArgPattern-F.Str s cs))

pub arg_pattern_str_misuses : (c : Context) (bs : Bound) (s : Span) (cs : List ℕ) → (arg_pattern_out c (v_ArgPattern.Str s cs) bs).misuses ≡ []
unfolding arg_pattern_out pat_operand_out next_pattern_out pat_part_out pattern_out
arg_pattern_str_misuses c bs s cs = ap (λ (g : Walk Bound (made_arg.ArgPattern)). (g bs).misuses) (ap (arg_pattern_out c) (sym (v_ArgPattern.rolls-Str s cs)) ∙ fold-roll-ArgPattern (Walk Bound (made_arg.ArgPattern)) (Walk Bound (made_operand.PatOperand)) (Walk Bound (made_next.NextPattern)) (Walk Bound (made_pattern.Pattern)) (Walk Bound (made_pattern.Pattern)) (arg_pattern_step c) (pat_operand_step c) (next_pattern_step c) (pat_part_step c) (pattern_step c) (ArgPattern-F.Str s cs))

pub arg_pattern_paren_tree : (c : Context) (bs : Bound) (s : Span) (a : Span) (p : Pattern) (b : Span) → (arg_pattern_out c (v_ArgPattern.Paren s a p b) bs).tree ≡ arg.Paren s ((pattern_out c p) bs).tree
unfolding arg_pattern_out pat_operand_out next_pattern_out pat_part_out pattern_out
arg_pattern_paren_tree c bs s a p b = ap (λ (g : Walk Bound (made_arg.ArgPattern)). (g bs).tree) (ap (arg_pattern_out c) (sym (v_ArgPattern.rolls-Paren s a p b)) ∙ fold-roll-ArgPattern (Walk Bound (made_arg.ArgPattern)) (Walk Bound (made_operand.PatOperand)) (Walk Bound (made_next.NextPattern)) (Walk Bound (made_pattern.Pattern)) (Walk Bound (made_pattern.Pattern)) (arg_pattern_step c) (pat_operand_step c) (next_pattern_step c) (pat_part_step c) (pattern_step c) (ArgPattern-F.Paren s a p b))

pub arg_pattern_paren_misuses : (c : Context) (bs : Bound) (s : Span) (a : Span) (p : Pattern) (b : Span) → (arg_pattern_out c (v_ArgPattern.Paren s a p b) bs).misuses ≡ ((pattern_out c p) bs).misuses
unfolding arg_pattern_out pat_operand_out next_pattern_out pat_part_out pattern_out
arg_pattern_paren_misuses c bs s a p b = ap (λ (g : Walk Bound (made_arg.ArgPattern)). (g bs).misuses) (ap (arg_pattern_out c) (sym (v_ArgPattern.rolls-Paren s a p b)) ∙ fold-roll-ArgPattern (Walk Bound (made_arg.ArgPattern)) (Walk Bound (made_operand.PatOperand)) (Walk Bound (made_next.NextPattern)) (Walk Bound (made_pattern.Pattern)) (Walk Bound (made_pattern.Pattern)) (arg_pattern_step c) (pat_operand_step c) (next_pattern_step c) (pat_part_step c) (pattern_step c) (ArgPattern-F.Paren s a p b))

pub arg_pattern_tuple_tree : (c : Context) (bs : Bound) (s : Span) (a : Span) (p : Pattern) (ps : List PatPart) (b : Span) → (arg_pattern_out c (v_ArgPattern.Tuple s a p ps b) bs).tree ≡ arg.Tuple s (((pattern_out c p) bs).tree ∷ trees bs (map (pat_part_out c) ps))
unfolding arg_pattern_out pat_operand_out next_pattern_out pat_part_out pattern_out
arg_pattern_tuple_tree c bs s a p ps b = ap (λ (g : Walk Bound (made_arg.ArgPattern)). (g bs).tree) (ap (arg_pattern_out c) (sym (v_ArgPattern.rolls-Tuple s a p ps b)) ∙ fold-roll-ArgPattern (Walk Bound (made_arg.ArgPattern)) (Walk Bound (made_operand.PatOperand)) (Walk Bound (made_next.NextPattern)) (Walk Bound (made_pattern.Pattern)) (Walk Bound (made_pattern.Pattern)) (arg_pattern_step c) (pat_operand_step c) (next_pattern_step c) (pat_part_step c) (pattern_step c) (ArgPattern-F.Tuple s a p ps b))

pub arg_pattern_tuple_misuses : (c : Context) (bs : Bound) (s : Span) (a : Span) (p : Pattern) (ps : List PatPart) (b : Span) → (arg_pattern_out c (v_ArgPattern.Tuple s a p ps b) bs).misuses ≡ ((pattern_out c p) bs).misuses ++ all_misuses bs (map (pat_part_out c) ps)
unfolding arg_pattern_out pat_operand_out next_pattern_out pat_part_out pattern_out
arg_pattern_tuple_misuses c bs s a p ps b = ap (λ (g : Walk Bound (made_arg.ArgPattern)). (g bs).misuses) (ap (arg_pattern_out c) (sym (v_ArgPattern.rolls-Tuple s a p ps b)) ∙ fold-roll-ArgPattern (Walk Bound (made_arg.ArgPattern)) (Walk Bound (made_operand.PatOperand)) (Walk Bound (made_next.NextPattern)) (Walk Bound (made_pattern.Pattern)) (Walk Bound (made_pattern.Pattern)) (arg_pattern_step c) (pat_operand_step c) (next_pattern_step c) (pat_part_step c) (pattern_step c) (ArgPattern-F.Tuple s a p ps b))

pub arg_pattern_list_tree : (c : Context) (bs : Bound) (s : Span) (a : Span) (p : Pattern) (ps : List PatPart) (b : Span) → (arg_pattern_out c (v_ArgPattern.List s a p ps b) bs).tree ≡ arg.List s (((pattern_out c p) bs).tree ∷ trees bs (map (pat_part_out c) ps))
unfolding arg_pattern_out pat_operand_out next_pattern_out pat_part_out pattern_out
arg_pattern_list_tree c bs s a p ps b = ap (λ (g : Walk Bound (made_arg.ArgPattern)). (g bs).tree) (ap (arg_pattern_out c) (sym (v_ArgPattern.rolls-List s a p ps b)) ∙ fold-roll-ArgPattern (Walk Bound (made_arg.ArgPattern)) (Walk Bound (made_operand.PatOperand)) (Walk Bound (made_next.NextPattern)) (Walk Bound (made_pattern.Pattern)) (Walk Bound (made_pattern.Pattern)) (arg_pattern_step c) (pat_operand_step c) (next_pattern_step c) (pat_part_step c) (pattern_step c) (ArgPattern-F.List s a p ps b))

pub arg_pattern_list_misuses : (c : Context) (bs : Bound) (s : Span) (a : Span) (p : Pattern) (ps : List PatPart) (b : Span) → (arg_pattern_out c (v_ArgPattern.List s a p ps b) bs).misuses ≡ ((pattern_out c p) bs).misuses ++ all_misuses bs (map (pat_part_out c) ps)
unfolding arg_pattern_out pat_operand_out next_pattern_out pat_part_out pattern_out
arg_pattern_list_misuses c bs s a p ps b = ap (λ (g : Walk Bound (made_arg.ArgPattern)). (g bs).misuses) (ap (arg_pattern_out c) (sym (v_ArgPattern.rolls-List s a p ps b)) ∙ fold-roll-ArgPattern (Walk Bound (made_arg.ArgPattern)) (Walk Bound (made_operand.PatOperand)) (Walk Bound (made_next.NextPattern)) (Walk Bound (made_pattern.Pattern)) (Walk Bound (made_pattern.Pattern)) (arg_pattern_step c) (pat_operand_step c) (next_pattern_step c) (pat_part_step c) (pattern_step c) (ArgPattern-F.List s a p ps b))

pub pat_operand_negative_tree : (c : Context) (bs : Bound) (s : Span) (a : Span) (b : Span) (n : ℕ) → (pat_operand_out c (v_PatOperand.Negative s a b n) bs).tree ≡ operand.Negative s n
unfolding arg_pattern_out pat_operand_out next_pattern_out pat_part_out pattern_out
pat_operand_negative_tree c bs s a b n = ap (λ (g : Walk Bound (made_operand.PatOperand)). (g bs).tree) (ap (pat_operand_out c) (sym (v_PatOperand.rolls-Negative s a b n)) ∙ fold-roll-PatOperand (Walk Bound (made_arg.ArgPattern)) (Walk Bound (made_operand.PatOperand)) (Walk Bound (made_next.NextPattern)) (Walk Bound (made_pattern.Pattern)) (Walk Bound (made_pattern.Pattern)) (arg_pattern_step c) (pat_operand_step c) (next_pattern_step c) (pat_part_step c) (pattern_step c) (PatOperand-F.Negative s a b n))

pub pat_operand_negative_misuses : (c : Context) (bs : Bound) (s : Span) (a : Span) (b : Span) (n : ℕ) → (pat_operand_out c (v_PatOperand.Negative s a b n) bs).misuses ≡ []
unfolding arg_pattern_out pat_operand_out next_pattern_out pat_part_out pattern_out
pat_operand_negative_misuses c bs s a b n = ap (λ (g : Walk Bound (made_operand.PatOperand)). (g bs).misuses) (ap (pat_operand_out c) (sym (v_PatOperand.rolls-Negative s a b n)) ∙ fold-roll-PatOperand (Walk Bound (made_arg.ArgPattern)) (Walk Bound (made_operand.PatOperand)) (Walk Bound (made_next.NextPattern)) (Walk Bound (made_pattern.Pattern)) (Walk Bound (made_pattern.Pattern)) (arg_pattern_step c) (pat_operand_step c) (next_pattern_step c) (pat_part_step c) (pattern_step c) (PatOperand-F.Negative s a b n))

pub pat_operand_arg_tree : (c : Context) (bs : Bound) (p : ArgPattern) → (pat_operand_out c (v_PatOperand.Arg p) bs).tree ≡ operand.Arg ((arg_pattern_out c p) bs).tree
unfolding arg_pattern_out pat_operand_out next_pattern_out pat_part_out pattern_out
pat_operand_arg_tree c bs p = ap (λ (g : Walk Bound (made_operand.PatOperand)). (g bs).tree) (ap (pat_operand_out c) (sym (v_PatOperand.rolls-Arg p)) ∙ fold-roll-PatOperand (Walk Bound (made_arg.ArgPattern)) (Walk Bound (made_operand.PatOperand)) (Walk Bound (made_next.NextPattern)) (Walk Bound (made_pattern.Pattern)) (Walk Bound (made_pattern.Pattern)) (arg_pattern_step c) (pat_operand_step c) (next_pattern_step c) (pat_part_step c) (pattern_step c) (PatOperand-F.Arg p))

pub pat_operand_arg_misuses : (c : Context) (bs : Bound) (p : ArgPattern) → (pat_operand_out c (v_PatOperand.Arg p) bs).misuses ≡ ((arg_pattern_out c p) bs).misuses
unfolding arg_pattern_out pat_operand_out next_pattern_out pat_part_out pattern_out
pat_operand_arg_misuses c bs p = ap (λ (g : Walk Bound (made_operand.PatOperand)). (g bs).misuses) (ap (pat_operand_out c) (sym (v_PatOperand.rolls-Arg p)) ∙ fold-roll-PatOperand (Walk Bound (made_arg.ArgPattern)) (Walk Bound (made_operand.PatOperand)) (Walk Bound (made_next.NextPattern)) (Walk Bound (made_pattern.Pattern)) (Walk Bound (made_pattern.Pattern)) (arg_pattern_step c) (pat_operand_step c) (next_pattern_step c) (pat_part_step c) (pattern_step c) (PatOperand-F.Arg p))

pub pat_operand_con_tree : (c : Context) (bs : Bound) (s : Span) (g : GenCon) (p : ArgPattern) (ps : List ArgPattern) → (pat_operand_out c (v_PatOperand.Con s g p ps) bs).tree ≡ operand.Con s (general_use c (Some (suc (length (map (arg_pattern_out c) ps)))) g).tree (((arg_pattern_out c p) bs).tree ∷ trees bs (map (arg_pattern_out c) ps))
unfolding arg_pattern_out pat_operand_out next_pattern_out pat_part_out pattern_out
pat_operand_con_tree c bs s g p ps = ap (λ (g : Walk Bound (made_operand.PatOperand)). (g bs).tree) (ap (pat_operand_out c) (sym (v_PatOperand.rolls-Con s g p ps)) ∙ fold-roll-PatOperand (Walk Bound (made_arg.ArgPattern)) (Walk Bound (made_operand.PatOperand)) (Walk Bound (made_next.NextPattern)) (Walk Bound (made_pattern.Pattern)) (Walk Bound (made_pattern.Pattern)) (arg_pattern_step c) (pat_operand_step c) (next_pattern_step c) (pat_part_step c) (pattern_step c) (PatOperand-F.PatOperand::Con s g p ps))

pub pat_operand_con_misuses : (c : Context) (bs : Bound) (s : Span) (g : GenCon) (p : ArgPattern) (ps : List ArgPattern) → (pat_operand_out c (v_PatOperand.Con s g p ps) bs).misuses ≡ (general_use c (Some (suc (length (map (arg_pattern_out c) ps)))) g).misuses ++ (((arg_pattern_out c p) bs).misuses ++ all_misuses bs (map (arg_pattern_out c) ps))
unfolding arg_pattern_out pat_operand_out next_pattern_out pat_part_out pattern_out
pat_operand_con_misuses c bs s g p ps = ap (λ (g : Walk Bound (made_operand.PatOperand)). (g bs).misuses) (ap (pat_operand_out c) (sym (v_PatOperand.rolls-Con s g p ps)) ∙ fold-roll-PatOperand (Walk Bound (made_arg.ArgPattern)) (Walk Bound (made_operand.PatOperand)) (Walk Bound (made_next.NextPattern)) (Walk Bound (made_pattern.Pattern)) (Walk Bound (made_pattern.Pattern)) (arg_pattern_step c) (pat_operand_step c) (next_pattern_step c) (pat_part_step c) (pattern_step c) (PatOperand-F.PatOperand::Con s g p ps))

pub next_pattern_at_tree : (c : Context) (bs : Bound) (x : NextPattern) → (next_pattern_out c x bs).tree ≡ roll-NextPattern (record { op = (constructor_operator_use c (Some 2) (out-NextPattern x).op).tree; operand = ((pat_operand_out c (out-NextPattern x).operand) bs).tree })
unfolding arg_pattern_out pat_operand_out next_pattern_out pat_part_out pattern_out
next_pattern_at_tree c bs x = ap (λ (g : Walk Bound (made_next.NextPattern)). (g bs).tree) (fold_out-NextPattern (Walk Bound (made_arg.ArgPattern)) (Walk Bound (made_operand.PatOperand)) (Walk Bound (made_next.NextPattern)) (Walk Bound (made_pattern.Pattern)) (Walk Bound (made_pattern.Pattern)) (arg_pattern_step c) (pat_operand_step c) (next_pattern_step c) (pat_part_step c) (pattern_step c) x)

pub next_pattern_at_misuses : (c : Context) (bs : Bound) (x : NextPattern) → (next_pattern_out c x bs).misuses ≡ (constructor_operator_use c (Some 2) (out-NextPattern x).op).misuses ++ ((pat_operand_out c (out-NextPattern x).operand) bs).misuses
unfolding arg_pattern_out pat_operand_out next_pattern_out pat_part_out pattern_out
next_pattern_at_misuses c bs x = ap (λ (g : Walk Bound (made_next.NextPattern)). (g bs).misuses) (fold_out-NextPattern (Walk Bound (made_arg.ArgPattern)) (Walk Bound (made_operand.PatOperand)) (Walk Bound (made_next.NextPattern)) (Walk Bound (made_pattern.Pattern)) (Walk Bound (made_pattern.Pattern)) (arg_pattern_step c) (pat_operand_step c) (next_pattern_step c) (pat_part_step c) (pattern_step c) x)

pub pat_part_at_tree : (c : Context) (bs : Bound) (x : PatPart) → (pat_part_out c x bs).tree ≡ ((pattern_out c (out-PatPart x).part) bs).tree
unfolding arg_pattern_out pat_operand_out next_pattern_out pat_part_out pattern_out
pat_part_at_tree c bs x = ap (λ (g : Walk Bound (made_pattern.Pattern)). (g bs).tree) (fold_out-PatPart (Walk Bound (made_arg.ArgPattern)) (Walk Bound (made_operand.PatOperand)) (Walk Bound (made_next.NextPattern)) (Walk Bound (made_pattern.Pattern)) (Walk Bound (made_pattern.Pattern)) (arg_pattern_step c) (pat_operand_step c) (next_pattern_step c) (pat_part_step c) (pattern_step c) x)

pub pat_part_at_misuses : (c : Context) (bs : Bound) (x : PatPart) → (pat_part_out c x bs).misuses ≡ ((pattern_out c (out-PatPart x).part) bs).misuses
unfolding arg_pattern_out pat_operand_out next_pattern_out pat_part_out pattern_out
pat_part_at_misuses c bs x = ap (λ (g : Walk Bound (made_pattern.Pattern)). (g bs).misuses) (fold_out-PatPart (Walk Bound (made_arg.ArgPattern)) (Walk Bound (made_operand.PatOperand)) (Walk Bound (made_next.NextPattern)) (Walk Bound (made_pattern.Pattern)) (Walk Bound (made_pattern.Pattern)) (arg_pattern_step c) (pat_operand_step c) (next_pattern_step c) (pat_part_step c) (pattern_step c) x)

pub pattern_at_tree : (c : Context) (bs : Bound) (x : Pattern) → (pattern_out c x bs).tree ≡ pat.Listed (out-Pattern x).span ((pat_operand_out c (out-Pattern x).first) bs).tree (trees bs (map (next_pattern_out c) (out-Pattern x).others))
unfolding arg_pattern_out pat_operand_out next_pattern_out pat_part_out pattern_out
pattern_at_tree c bs x = ap (λ (g : Walk Bound (made_pattern.Pattern)). (g bs).tree) (fold_out-Pattern (Walk Bound (made_arg.ArgPattern)) (Walk Bound (made_operand.PatOperand)) (Walk Bound (made_next.NextPattern)) (Walk Bound (made_pattern.Pattern)) (Walk Bound (made_pattern.Pattern)) (arg_pattern_step c) (pat_operand_step c) (next_pattern_step c) (pat_part_step c) (pattern_step c) x)

pub pattern_at_misuses : (c : Context) (bs : Bound) (x : Pattern) → (pattern_out c x bs).misuses ≡ ((pat_operand_out c (out-Pattern x).first) bs).misuses ++ all_misuses bs (map (next_pattern_out c) (out-Pattern x).others)
unfolding arg_pattern_out pat_operand_out next_pattern_out pat_part_out pattern_out
pattern_at_misuses c bs x = ap (λ (g : Walk Bound (made_pattern.Pattern)). (g bs).misuses) (fold_out-Pattern (Walk Bound (made_arg.ArgPattern)) (Walk Bound (made_operand.PatOperand)) (Walk Bound (made_next.NextPattern)) (Walk Bound (made_pattern.Pattern)) (Walk Bound (made_pattern.Pattern)) (arg_pattern_step c) (pat_operand_step c) (next_pattern_step c) (pat_part_step c) (pattern_step c) x)
