-- Left sides, variant by variant.
use Rattle.std.proofs.Common.{◌≡◌, List, ◌∷◌, ◌++◌, map, sym, ap, ◌∙◌}
use Rattle.gh_base.specs.declared.place.Span.{Span}
use Rattle.gh_program.specs.declared.names.Occurrence.{Occurrence}
use Rattle.gh_scopes.specs.declared.types.Used.{Used}
use Rattle.gh_tree.specs.declared.names.Var.{Var}
use Rattle.gh_tree.specs.declared.names.VarOp.{VarOp}
use Rattle.gh_tree.specs.declared.patterns.ArgPattern.{ArgPattern}
use Rattle.gh_tree.specs.declared.patterns.PatOperand.{PatOperand}
use Rattle.gh_tree.specs.declared.patterns.NextPattern.{NextPattern}
use Rattle.gh_tree.specs.declared.patterns.FunLhs.{FunLhs, fold-roll-FunLhs}
use Rattle.gh_tree.specs.declared.patterns.FunLhs.TheVariants as v_FunLhs
use Rattle.gh_tree.specs.declared.patterns.FunLhs.TheOpen.{FunLhs-F}
use Rattle.gh_program.specs.declared.patterns.FunLhs as made_lhs
use Rattle.gh_program.specs.declared.patterns.FunLhs.TheVariants as left
use Rattle.gh_resolve_names.specs.declared.context.Context.{Context}
use Rattle.gh_resolve_names.specs.Misuses.{Walk, trees, all_misuses, joined}
use Rattle.gh_resolve_names.specs.Standing.{Bound}
use Rattle.gh_resolve_names.specs.Written.{used_var, used_var_op}
use Rattle.gh_resolve_patterns.specs.Patterns.{arg_pattern_out}
use Rattle.gh_resolve_patterns.specs.Variables.{arg_vars_of, operand_vars_of, next_vars_of}
use Rattle.gh_resolve_patterns.specs.LeftSides.{side, lhs_used_of, lhs_used_step, lhs_vars_of, lhs_vars_step, lhs_out, lhs_step}

pub lhs_used_prefix : (s : Span) (v : Var) (ps : List ArgPattern) → lhs_used_of (v_FunLhs.Prefix s v ps) ≡ used_var v
unfolding lhs_used_of
lhs_used_prefix s v ps = ap (lhs_used_of) (sym (v_FunLhs.rolls-Prefix s v ps)) ∙ fold-roll-FunLhs Used lhs_used_step (FunLhs-F.Prefix s v ps)

pub lhs_used_infix : (s : Span) (a : PatOperand) (ns : List NextPattern) (op : VarOp) (b : PatOperand) (ms : List NextPattern) → lhs_used_of (v_FunLhs.Infix s a ns op b ms) ≡ used_var_op op
unfolding lhs_used_of
lhs_used_infix s a ns op b ms = ap (lhs_used_of) (sym (v_FunLhs.rolls-Infix s a ns op b ms)) ∙ fold-roll-FunLhs Used lhs_used_step (FunLhs-F.Infix s a ns op b ms)

pub lhs_used_nested : (s : Span) (m : Span) (f : FunLhs) (n : Span) (p : ArgPattern) (ps : List ArgPattern) → lhs_used_of (v_FunLhs.Nested s m f n p ps) ≡ (lhs_used_of f)
unfolding lhs_used_of
lhs_used_nested s m f n p ps = ap (lhs_used_of) (sym (v_FunLhs.rolls-Nested s m f n p ps)) ∙ fold-roll-FunLhs Used lhs_used_step (FunLhs-F.Nested s m f n p ps)

pub lhs_vars_prefix : (s : Span) (v : Var) (ps : List ArgPattern) → lhs_vars_of (v_FunLhs.Prefix s v ps) ≡ joined (map arg_vars_of ps)
unfolding lhs_vars_of
lhs_vars_prefix s v ps = ap (lhs_vars_of) (sym (v_FunLhs.rolls-Prefix s v ps)) ∙ fold-roll-FunLhs Bound lhs_vars_step (FunLhs-F.Prefix s v ps)

pub lhs_vars_infix : (s : Span) (a : PatOperand) (ns : List NextPattern) (op : VarOp) (b : PatOperand) (ms : List NextPattern) → lhs_vars_of (v_FunLhs.Infix s a ns op b ms) ≡ (operand_vars_of a ++ joined (map next_vars_of ns)) ++ (operand_vars_of b ++ joined (map next_vars_of ms))
unfolding lhs_vars_of
lhs_vars_infix s a ns op b ms = ap (lhs_vars_of) (sym (v_FunLhs.rolls-Infix s a ns op b ms)) ∙ fold-roll-FunLhs Bound lhs_vars_step (FunLhs-F.Infix s a ns op b ms)

pub lhs_vars_nested : (s : Span) (m : Span) (f : FunLhs) (n : Span) (p : ArgPattern) (ps : List ArgPattern) → lhs_vars_of (v_FunLhs.Nested s m f n p ps) ≡ (lhs_vars_of f) ++ (arg_vars_of p ++ joined (map arg_vars_of ps))
unfolding lhs_vars_of
lhs_vars_nested s m f n p ps = ap (lhs_vars_of) (sym (v_FunLhs.rolls-Nested s m f n p ps)) ∙ fold-roll-FunLhs Bound lhs_vars_step (FunLhs-F.Nested s m f n p ps)

pub lhs_prefix_tree : (c : Context) (o : Occurrence) (bs : Bound) (s : Span) (v : Var) (ps : List ArgPattern) → (lhs_out c (v_FunLhs.Prefix s v ps) (o, bs)).tree ≡ left.Prefix s o (trees bs (map (arg_pattern_out c) ps))
unfolding lhs_out
lhs_prefix_tree c o bs s v ps = ap (λ (g : Walk (Occurrence × Bound) (made_lhs.FunLhs)). (g (o, bs)).tree) (ap (lhs_out c) (sym (v_FunLhs.rolls-Prefix s v ps)) ∙ fold-roll-FunLhs (Walk (Occurrence × Bound) (made_lhs.FunLhs)) (lhs_step c) (FunLhs-F.Prefix s v ps))

pub lhs_prefix_misuses : (c : Context) (o : Occurrence) (bs : Bound) (s : Span) (v : Var) (ps : List ArgPattern) → (lhs_out c (v_FunLhs.Prefix s v ps) (o, bs)).misuses ≡ all_misuses bs (map (arg_pattern_out c) ps)
unfolding lhs_out
lhs_prefix_misuses c o bs s v ps = ap (λ (g : Walk (Occurrence × Bound) (made_lhs.FunLhs)). (g (o, bs)).misuses) (ap (lhs_out c) (sym (v_FunLhs.rolls-Prefix s v ps)) ∙ fold-roll-FunLhs (Walk (Occurrence × Bound) (made_lhs.FunLhs)) (lhs_step c) (FunLhs-F.Prefix s v ps))

pub lhs_infix_tree : (c : Context) (o : Occurrence) (bs : Bound) (s : Span) (a : PatOperand) (ns : List NextPattern) (op : VarOp) (b : PatOperand) (ms : List NextPattern) → (lhs_out c (v_FunLhs.Infix s a ns op b ms) (o, bs)).tree ≡ left.Infix s (side c bs a ns).tree o (side c bs b ms).tree
unfolding lhs_out
lhs_infix_tree c o bs s a ns op b ms = ap (λ (g : Walk (Occurrence × Bound) (made_lhs.FunLhs)). (g (o, bs)).tree) (ap (lhs_out c) (sym (v_FunLhs.rolls-Infix s a ns op b ms)) ∙ fold-roll-FunLhs (Walk (Occurrence × Bound) (made_lhs.FunLhs)) (lhs_step c) (FunLhs-F.Infix s a ns op b ms))

pub lhs_infix_misuses : (c : Context) (o : Occurrence) (bs : Bound) (s : Span) (a : PatOperand) (ns : List NextPattern) (op : VarOp) (b : PatOperand) (ms : List NextPattern) → (lhs_out c (v_FunLhs.Infix s a ns op b ms) (o, bs)).misuses ≡ (side c bs a ns).misuses ++ (side c bs b ms).misuses
unfolding lhs_out
lhs_infix_misuses c o bs s a ns op b ms = ap (λ (g : Walk (Occurrence × Bound) (made_lhs.FunLhs)). (g (o, bs)).misuses) (ap (lhs_out c) (sym (v_FunLhs.rolls-Infix s a ns op b ms)) ∙ fold-roll-FunLhs (Walk (Occurrence × Bound) (made_lhs.FunLhs)) (lhs_step c) (FunLhs-F.Infix s a ns op b ms))

pub lhs_nested_tree : (c : Context) (o : Occurrence) (bs : Bound) (s : Span) (m : Span) (f : FunLhs) (n : Span) (p : ArgPattern) (ps : List ArgPattern) → (lhs_out c (v_FunLhs.Nested s m f n p ps) (o, bs)).tree ≡ left.Nested s ((lhs_out c f) (o, bs)).tree ((arg_pattern_out c p bs).tree ∷ trees bs (map (arg_pattern_out c) ps))
unfolding lhs_out
lhs_nested_tree c o bs s m f n p ps = ap (λ (g : Walk (Occurrence × Bound) (made_lhs.FunLhs)). (g (o, bs)).tree) (ap (lhs_out c) (sym (v_FunLhs.rolls-Nested s m f n p ps)) ∙ fold-roll-FunLhs (Walk (Occurrence × Bound) (made_lhs.FunLhs)) (lhs_step c) (FunLhs-F.Nested s m f n p ps))

pub lhs_nested_misuses : (c : Context) (o : Occurrence) (bs : Bound) (s : Span) (m : Span) (f : FunLhs) (n : Span) (p : ArgPattern) (ps : List ArgPattern) → (lhs_out c (v_FunLhs.Nested s m f n p ps) (o, bs)).misuses ≡ ((lhs_out c f) (o, bs)).misuses ++ ((arg_pattern_out c p bs).misuses ++ all_misuses bs (map (arg_pattern_out c) ps))
unfolding lhs_out
lhs_nested_misuses c o bs s m f n p ps = ap (λ (g : Walk (Occurrence × Bound) (made_lhs.FunLhs)). (g (o, bs)).misuses) (ap (lhs_out c) (sym (v_FunLhs.rolls-Nested s m f n p ps)) ∙ fold-roll-FunLhs (Walk (Occurrence × Bound) (made_lhs.FunLhs)) (lhs_step c) (FunLhs-F.Nested s m f n p ps))
