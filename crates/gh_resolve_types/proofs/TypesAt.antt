-- Types, variant by variant.
use Rattle.std.proofs.Common.{◌≡◌, ℕ, suc, ◌+◌, length, List, [], ◌∷◌, ◌++◌, map, sym, ap, ◌∙◌}
use Rattle.gh_base.specs.declared.place.Span.{Span}
use Rattle.gh_tree.specs.declared.names.Name.{Name}
use Rattle.gh_tree.specs.declared.types.ArgType.{ArgType, fold-roll-ArgType}
use Rattle.gh_tree.specs.declared.types.ArgType.TheVariants as v_ArgType
use Rattle.gh_tree.specs.declared.types.Arrow.{Arrow, out-Arrow, fold_out-Arrow}
use Rattle.gh_tree.specs.declared.types.BType.{BType, out-BType, fold_out-BType}
use Rattle.gh_tree.specs.declared.types.TypeExpr.{TypeExpr, out-TypeExpr, fold_out-TypeExpr}
use Rattle.gh_tree.specs.declared.types.TypePart.{TypePart, out-TypePart, fold_out-TypePart}
use Rattle.gh_tree.specs.declared.types.ArgType.TheOpen.{ArgType-F}
use Rattle.gh_program.specs.declared.types.ArgType as made_arg
use Rattle.gh_program.specs.declared.types.ArgType.TheVariants as made
use Rattle.gh_program.specs.declared.types.BType as made_btype
use Rattle.gh_program.specs.declared.types.BType.{roll-BType}
use Rattle.gh_program.specs.declared.types.TypeExpr as made_type
use Rattle.gh_program.specs.declared.types.TypeExpr.{roll-TypeExpr}
use Rattle.gh_resolve_names.specs.declared.context.Context.{Context}
use Rattle.gh_resolve_names.specs.Misuses.{Walk, trees, all_misuses}
use Rattle.gh_resolve_names.specs.Standing.{Bound, type_use, variable_use}
use Rattle.gh_resolve_names.specs.Written.{used_name}
use Rattle.gh_resolve_types.specs.Types.{Applied, unless_arrow, arg_type_out, arrow_out, btype_out, type_out, type_part_out, arg_type_step, arrow_step, btype_step, type_step, type_part_step}

pub arg_type_con_tree : (c : Context) (bs : Bound) (k : ℕ) (n : Name) → (arg_type_out c (v_ArgType.Con n) (bs, k)).tree ≡ made.Con (type_use c k (used_name n)).tree
unfolding arg_type_out arrow_out btype_out type_out type_part_out
arg_type_con_tree c bs k n = ap (λ (g : Walk Applied (made_arg.ArgType)). (g (bs, k)).tree) (ap (arg_type_out c) (sym (v_ArgType.rolls-Con n)) ∙ fold-roll-ArgType (Walk Applied (made_arg.ArgType)) (Walk Applied (made_btype.BType)) (Walk Applied (made_btype.BType)) (Walk Applied (made_type.TypeExpr)) (Walk Applied (made_type.TypeExpr)) (arg_type_step c) (arrow_step c) (btype_step c) (type_step c) (type_part_step c) (ArgType-F.Con n))

pub arg_type_con_misuses : (c : Context) (bs : Bound) (k : ℕ) (n : Name) → (arg_type_out c (v_ArgType.Con n) (bs, k)).misuses ≡ (type_use c k (used_name n)).misuses
unfolding arg_type_out arrow_out btype_out type_out type_part_out
arg_type_con_misuses c bs k n = ap (λ (g : Walk Applied (made_arg.ArgType)). (g (bs, k)).misuses) (ap (arg_type_out c) (sym (v_ArgType.rolls-Con n)) ∙ fold-roll-ArgType (Walk Applied (made_arg.ArgType)) (Walk Applied (made_btype.BType)) (Walk Applied (made_btype.BType)) (Walk Applied (made_type.TypeExpr)) (Walk Applied (made_type.TypeExpr)) (arg_type_step c) (arrow_step c) (btype_step c) (type_step c) (type_part_step c) (ArgType-F.Con n))

pub arg_type_var_tree : (c : Context) (bs : Bound) (k : ℕ) (n : Name) → (arg_type_out c (v_ArgType.Var n) (bs, k)).tree ≡ made.Var (variable_use c bs (used_name n)).tree
unfolding arg_type_out arrow_out btype_out type_out type_part_out
arg_type_var_tree c bs k n = ap (λ (g : Walk Applied (made_arg.ArgType)). (g (bs, k)).tree) (ap (arg_type_out c) (sym (v_ArgType.rolls-Var n)) ∙ fold-roll-ArgType (Walk Applied (made_arg.ArgType)) (Walk Applied (made_btype.BType)) (Walk Applied (made_btype.BType)) (Walk Applied (made_type.TypeExpr)) (Walk Applied (made_type.TypeExpr)) (arg_type_step c) (arrow_step c) (btype_step c) (type_step c) (type_part_step c) (ArgType-F.Var n))

pub arg_type_var_misuses : (c : Context) (bs : Bound) (k : ℕ) (n : Name) → (arg_type_out c (v_ArgType.Var n) (bs, k)).misuses ≡ (variable_use c bs (used_name n)).misuses
unfolding arg_type_out arrow_out btype_out type_out type_part_out
arg_type_var_misuses c bs k n = ap (λ (g : Walk Applied (made_arg.ArgType)). (g (bs, k)).misuses) (ap (arg_type_out c) (sym (v_ArgType.rolls-Var n)) ∙ fold-roll-ArgType (Walk Applied (made_arg.ArgType)) (Walk Applied (made_btype.BType)) (Walk Applied (made_btype.BType)) (Walk Applied (made_type.TypeExpr)) (Walk Applied (made_type.TypeExpr)) (arg_type_step c) (arrow_step c) (btype_step c) (type_step c) (type_part_step c) (ArgType-F.Var n))

pub arg_type_unit_tree : (c : Context) (bs : Bound) (k : ℕ) (s : Span) (a : Span) (b : Span) → (arg_type_out c (v_ArgType.Unit s a b) (bs, k)).tree ≡ made.Unit s
unfolding arg_type_out arrow_out btype_out type_out type_part_out
arg_type_unit_tree c bs k s a b = ap (λ (g : Walk Applied (made_arg.ArgType)). (g (bs, k)).tree) (ap (arg_type_out c) (sym (v_ArgType.rolls-Unit s a b)) ∙ fold-roll-ArgType (Walk Applied (made_arg.ArgType)) (Walk Applied (made_btype.BType)) (Walk Applied (made_btype.BType)) (Walk Applied (made_type.TypeExpr)) (Walk Applied (made_type.TypeExpr)) (arg_type_step c) (arrow_step c) (btype_step c) (type_step c) (type_part_step c) (ArgType-F.Unit s a b))

pub arg_type_unit_misuses : (c : Context) (bs : Bound) (k : ℕ) (s : Span) (a : Span) (b : Span) → (arg_type_out c (v_ArgType.Unit s a b) (bs, k)).misuses ≡ []
unfolding arg_type_out arrow_out btype_out type_out type_part_out
arg_type_unit_misuses c bs k s a b = ap (λ (g : Walk Applied (made_arg.ArgType)). (g (bs, k)).misuses) (ap (arg_type_out c) (sym (v_ArgType.rolls-Unit s a b)) ∙ fold-roll-ArgType (Walk Applied (made_arg.ArgType)) (Walk Applied (made_btype.BType)) (Walk Applied (made_btype.BType)) (Walk Applied (made_type.TypeExpr)) (Walk Applied (made_type.TypeExpr)) (arg_type_step c) (arrow_step c) (btype_step c) (type_step c) (type_part_step c) (ArgType-F.Unit s a b))

pub arg_type_nolist_tree : (c : Context) (bs : Bound) (k : ℕ) (s : Span) (a : Span) (b : Span) → (arg_type_out c (v_ArgType.NoList s a b) (bs, k)).tree ≡ made.NoList s
unfolding arg_type_out arrow_out btype_out type_out type_part_out
arg_type_nolist_tree c bs k s a b = ap (λ (g : Walk Applied (made_arg.ArgType)). (g (bs, k)).tree) (ap (arg_type_out c) (sym (v_ArgType.rolls-NoList s a b)) ∙ fold-roll-ArgType (Walk Applied (made_arg.ArgType)) (Walk Applied (made_btype.BType)) (Walk Applied (made_btype.BType)) (Walk Applied (made_type.TypeExpr)) (Walk Applied (made_type.TypeExpr)) (arg_type_step c) (arrow_step c) (btype_step c) (type_step c) (type_part_step c) (ArgType-F.NoList s a b))

pub arg_type_nolist_misuses : (c : Context) (bs : Bound) (k : ℕ) (s : Span) (a : Span) (b : Span) → (arg_type_out c (v_ArgType.NoList s a b) (bs, k)).misuses ≡ []
unfolding arg_type_out arrow_out btype_out type_out type_part_out
arg_type_nolist_misuses c bs k s a b = ap (λ (g : Walk Applied (made_arg.ArgType)). (g (bs, k)).misuses) (ap (arg_type_out c) (sym (v_ArgType.rolls-NoList s a b)) ∙ fold-roll-ArgType (Walk Applied (made_arg.ArgType)) (Walk Applied (made_btype.BType)) (Walk Applied (made_btype.BType)) (Walk Applied (made_type.TypeExpr)) (Walk Applied (made_type.TypeExpr)) (arg_type_step c) (arrow_step c) (btype_step c) (type_step c) (type_part_step c) (ArgType-F.NoList s a b))

pub arg_type_noarrow_tree : (c : Context) (bs : Bound) (k : ℕ) (s : Span) (a : Span) (d : Span) (b : Span) → (arg_type_out c (v_ArgType.NoArrow s a d b) (bs, k)).tree ≡ made.NoArrow s
unfolding arg_type_out arrow_out btype_out type_out type_part_out
arg_type_noarrow_tree c bs k s a d b = ap (λ (g : Walk Applied (made_arg.ArgType)). (g (bs, k)).tree) (ap (arg_type_out c) (sym (v_ArgType.rolls-NoArrow s a d b)) ∙ fold-roll-ArgType (Walk Applied (made_arg.ArgType)) (Walk Applied (made_btype.BType)) (Walk Applied (made_btype.BType)) (Walk Applied (made_type.TypeExpr)) (Walk Applied (made_type.TypeExpr)) (arg_type_step c) (arrow_step c) (btype_step c) (type_step c) (type_part_step c) (ArgType-F.NoArrow s a d b))

pub arg_type_noarrow_misuses : (c : Context) (bs : Bound) (k : ℕ) (s : Span) (a : Span) (d : Span) (b : Span) → (arg_type_out c (v_ArgType.NoArrow s a d b) (bs, k)).misuses ≡ []
unfolding arg_type_out arrow_out btype_out type_out type_part_out
arg_type_noarrow_misuses c bs k s a d b = ap (λ (g : Walk Applied (made_arg.ArgType)). (g (bs, k)).misuses) (ap (arg_type_out c) (sym (v_ArgType.rolls-NoArrow s a d b)) ∙ fold-roll-ArgType (Walk Applied (made_arg.ArgType)) (Walk Applied (made_btype.BType)) (Walk Applied (made_btype.BType)) (Walk Applied (made_type.TypeExpr)) (Walk Applied (made_type.TypeExpr)) (arg_type_step c) (arrow_step c) (btype_step c) (type_step c) (type_part_step c) (ArgType-F.NoArrow s a d b))

pub arg_type_notuple_tree : (c : Context) (bs : Bound) (k : ℕ) (s : Span) (a : Span) (ms : List Span) (b : Span) → (arg_type_out c (v_ArgType.NoTuple s a ms b) (bs, k)).tree ≡ made.NoTuple s (suc (length ms))
unfolding arg_type_out arrow_out btype_out type_out type_part_out
arg_type_notuple_tree c bs k s a ms b = ap (λ (g : Walk Applied (made_arg.ArgType)). (g (bs, k)).tree) (ap (arg_type_out c) (sym (v_ArgType.rolls-NoTuple s a ms b)) ∙ fold-roll-ArgType (Walk Applied (made_arg.ArgType)) (Walk Applied (made_btype.BType)) (Walk Applied (made_btype.BType)) (Walk Applied (made_type.TypeExpr)) (Walk Applied (made_type.TypeExpr)) (arg_type_step c) (arrow_step c) (btype_step c) (type_step c) (type_part_step c) (ArgType-F.NoTuple s a ms b))

pub arg_type_notuple_misuses : (c : Context) (bs : Bound) (k : ℕ) (s : Span) (a : Span) (ms : List Span) (b : Span) → (arg_type_out c (v_ArgType.NoTuple s a ms b) (bs, k)).misuses ≡ []
unfolding arg_type_out arrow_out btype_out type_out type_part_out
arg_type_notuple_misuses c bs k s a ms b = ap (λ (g : Walk Applied (made_arg.ArgType)). (g (bs, k)).misuses) (ap (arg_type_out c) (sym (v_ArgType.rolls-NoTuple s a ms b)) ∙ fold-roll-ArgType (Walk Applied (made_arg.ArgType)) (Walk Applied (made_btype.BType)) (Walk Applied (made_btype.BType)) (Walk Applied (made_type.TypeExpr)) (Walk Applied (made_type.TypeExpr)) (arg_type_step c) (arrow_step c) (btype_step c) (type_step c) (type_part_step c) (ArgType-F.NoTuple s a ms b))

pub arg_type_paren_tree : (c : Context) (bs : Bound) (k : ℕ) (s : Span) (a : Span) (t : TypeExpr) (b : Span) → (arg_type_out c (v_ArgType.Paren s a t b) (bs, k)).tree ≡ made.Paren s ((type_out c t) (bs, k)).tree
unfolding arg_type_out arrow_out btype_out type_out type_part_out
arg_type_paren_tree c bs k s a t b = ap (λ (g : Walk Applied (made_arg.ArgType)). (g (bs, k)).tree) (ap (arg_type_out c) (sym (v_ArgType.rolls-Paren s a t b)) ∙ fold-roll-ArgType (Walk Applied (made_arg.ArgType)) (Walk Applied (made_btype.BType)) (Walk Applied (made_btype.BType)) (Walk Applied (made_type.TypeExpr)) (Walk Applied (made_type.TypeExpr)) (arg_type_step c) (arrow_step c) (btype_step c) (type_step c) (type_part_step c) (ArgType-F.Paren s a t b))

pub arg_type_paren_misuses : (c : Context) (bs : Bound) (k : ℕ) (s : Span) (a : Span) (t : TypeExpr) (b : Span) → (arg_type_out c (v_ArgType.Paren s a t b) (bs, k)).misuses ≡ ((type_out c t) (bs, k)).misuses
unfolding arg_type_out arrow_out btype_out type_out type_part_out
arg_type_paren_misuses c bs k s a t b = ap (λ (g : Walk Applied (made_arg.ArgType)). (g (bs, k)).misuses) (ap (arg_type_out c) (sym (v_ArgType.rolls-Paren s a t b)) ∙ fold-roll-ArgType (Walk Applied (made_arg.ArgType)) (Walk Applied (made_btype.BType)) (Walk Applied (made_btype.BType)) (Walk Applied (made_type.TypeExpr)) (Walk Applied (made_type.TypeExpr)) (arg_type_step c) (arrow_step c) (btype_step c) (type_step c) (type_part_step c) (ArgType-F.Paren s a t b))

pub arg_type_tuple_tree : (c : Context) (bs : Bound) (k : ℕ) (s : Span) (a : Span) (t : TypeExpr) (ts : List TypePart) (b : Span) → (arg_type_out c (v_ArgType.Tuple s a t ts b) (bs, k)).tree ≡ made.Tuple s (((type_out c t) (bs, 0)).tree ∷ trees (bs, 0) (map (type_part_out c) ts))
unfolding arg_type_out arrow_out btype_out type_out type_part_out
arg_type_tuple_tree c bs k s a t ts b = ap (λ (g : Walk Applied (made_arg.ArgType)). (g (bs, k)).tree) (ap (arg_type_out c) (sym (v_ArgType.rolls-Tuple s a t ts b)) ∙ fold-roll-ArgType (Walk Applied (made_arg.ArgType)) (Walk Applied (made_btype.BType)) (Walk Applied (made_btype.BType)) (Walk Applied (made_type.TypeExpr)) (Walk Applied (made_type.TypeExpr)) (arg_type_step c) (arrow_step c) (btype_step c) (type_step c) (type_part_step c) (ArgType-F.Tuple s a t ts b))

pub arg_type_tuple_misuses : (c : Context) (bs : Bound) (k : ℕ) (s : Span) (a : Span) (t : TypeExpr) (ts : List TypePart) (b : Span) → (arg_type_out c (v_ArgType.Tuple s a t ts b) (bs, k)).misuses ≡ ((type_out c t) (bs, 0)).misuses ++ all_misuses (bs, 0) (map (type_part_out c) ts)
unfolding arg_type_out arrow_out btype_out type_out type_part_out
arg_type_tuple_misuses c bs k s a t ts b = ap (λ (g : Walk Applied (made_arg.ArgType)). (g (bs, k)).misuses) (ap (arg_type_out c) (sym (v_ArgType.rolls-Tuple s a t ts b)) ∙ fold-roll-ArgType (Walk Applied (made_arg.ArgType)) (Walk Applied (made_btype.BType)) (Walk Applied (made_btype.BType)) (Walk Applied (made_type.TypeExpr)) (Walk Applied (made_type.TypeExpr)) (arg_type_step c) (arrow_step c) (btype_step c) (type_step c) (type_part_step c) (ArgType-F.Tuple s a t ts b))

pub arg_type_list_tree : (c : Context) (bs : Bound) (k : ℕ) (s : Span) (a : Span) (t : TypeExpr) (b : Span) → (arg_type_out c (v_ArgType.List s a t b) (bs, k)).tree ≡ made.List s ((type_out c t) (bs, 0)).tree
unfolding arg_type_out arrow_out btype_out type_out type_part_out
arg_type_list_tree c bs k s a t b = ap (λ (g : Walk Applied (made_arg.ArgType)). (g (bs, k)).tree) (ap (arg_type_out c) (sym (v_ArgType.rolls-List s a t b)) ∙ fold-roll-ArgType (Walk Applied (made_arg.ArgType)) (Walk Applied (made_btype.BType)) (Walk Applied (made_btype.BType)) (Walk Applied (made_type.TypeExpr)) (Walk Applied (made_type.TypeExpr)) (arg_type_step c) (arrow_step c) (btype_step c) (type_step c) (type_part_step c) (ArgType-F.List s a t b))

pub arg_type_list_misuses : (c : Context) (bs : Bound) (k : ℕ) (s : Span) (a : Span) (t : TypeExpr) (b : Span) → (arg_type_out c (v_ArgType.List s a t b) (bs, k)).misuses ≡ ((type_out c t) (bs, 0)).misuses
unfolding arg_type_out arrow_out btype_out type_out type_part_out
arg_type_list_misuses c bs k s a t b = ap (λ (g : Walk Applied (made_arg.ArgType)). (g (bs, k)).misuses) (ap (arg_type_out c) (sym (v_ArgType.rolls-List s a t b)) ∙ fold-roll-ArgType (Walk Applied (made_arg.ArgType)) (Walk Applied (made_btype.BType)) (Walk Applied (made_btype.BType)) (Walk Applied (made_type.TypeExpr)) (Walk Applied (made_type.TypeExpr)) (arg_type_step c) (arrow_step c) (btype_step c) (type_step c) (type_part_step c) (ArgType-F.List s a t b))

pub arrow_at_tree : (c : Context) (bs : Bound) (k : ℕ) (x : Arrow) → (arrow_out c x (bs, k)).tree ≡ ((btype_out c (out-Arrow x).to) (bs, k)).tree
unfolding arg_type_out arrow_out btype_out type_out type_part_out
arrow_at_tree c bs k x = ap (λ (g : Walk Applied (made_btype.BType)). (g (bs, k)).tree) (fold_out-Arrow (Walk Applied (made_arg.ArgType)) (Walk Applied (made_btype.BType)) (Walk Applied (made_btype.BType)) (Walk Applied (made_type.TypeExpr)) (Walk Applied (made_type.TypeExpr)) (arg_type_step c) (arrow_step c) (btype_step c) (type_step c) (type_part_step c) x)

pub arrow_at_misuses : (c : Context) (bs : Bound) (k : ℕ) (x : Arrow) → (arrow_out c x (bs, k)).misuses ≡ ((btype_out c (out-Arrow x).to) (bs, k)).misuses
unfolding arg_type_out arrow_out btype_out type_out type_part_out
arrow_at_misuses c bs k x = ap (λ (g : Walk Applied (made_btype.BType)). (g (bs, k)).misuses) (fold_out-Arrow (Walk Applied (made_arg.ArgType)) (Walk Applied (made_btype.BType)) (Walk Applied (made_btype.BType)) (Walk Applied (made_type.TypeExpr)) (Walk Applied (made_type.TypeExpr)) (arg_type_step c) (arrow_step c) (btype_step c) (type_step c) (type_part_step c) x)

pub btype_at_tree : (c : Context) (bs : Bound) (k : ℕ) (x : BType) → (btype_out c x (bs, k)).tree ≡ roll-BType (record { span = (out-BType x).span; head = ((arg_type_out c (out-BType x).head) (bs, length (map (arg_type_out c) (out-BType x).args) + k)).tree; args = trees (bs, 0) (map (arg_type_out c) (out-BType x).args) })
unfolding arg_type_out arrow_out btype_out type_out type_part_out
btype_at_tree c bs k x = ap (λ (g : Walk Applied (made_btype.BType)). (g (bs, k)).tree) (fold_out-BType (Walk Applied (made_arg.ArgType)) (Walk Applied (made_btype.BType)) (Walk Applied (made_btype.BType)) (Walk Applied (made_type.TypeExpr)) (Walk Applied (made_type.TypeExpr)) (arg_type_step c) (arrow_step c) (btype_step c) (type_step c) (type_part_step c) x)

pub btype_at_misuses : (c : Context) (bs : Bound) (k : ℕ) (x : BType) → (btype_out c x (bs, k)).misuses ≡ ((arg_type_out c (out-BType x).head) (bs, length (map (arg_type_out c) (out-BType x).args) + k)).misuses ++ all_misuses (bs, 0) (map (arg_type_out c) (out-BType x).args)
unfolding arg_type_out arrow_out btype_out type_out type_part_out
btype_at_misuses c bs k x = ap (λ (g : Walk Applied (made_btype.BType)). (g (bs, k)).misuses) (fold_out-BType (Walk Applied (made_arg.ArgType)) (Walk Applied (made_btype.BType)) (Walk Applied (made_btype.BType)) (Walk Applied (made_type.TypeExpr)) (Walk Applied (made_type.TypeExpr)) (arg_type_step c) (arrow_step c) (btype_step c) (type_step c) (type_part_step c) x)

pub type_at_tree : (c : Context) (bs : Bound) (k : ℕ) (x : TypeExpr) → (type_out c x (bs, k)).tree ≡ roll-TypeExpr (record { span = (out-TypeExpr x).span; first = ((btype_out c (out-TypeExpr x).first) (bs, unless_arrow (map (arrow_out c) (out-TypeExpr x).arrows) k)).tree; others = trees (bs, 0) (map (arrow_out c) (out-TypeExpr x).arrows) })
unfolding arg_type_out arrow_out btype_out type_out type_part_out
type_at_tree c bs k x = ap (λ (g : Walk Applied (made_type.TypeExpr)). (g (bs, k)).tree) (fold_out-TypeExpr (Walk Applied (made_arg.ArgType)) (Walk Applied (made_btype.BType)) (Walk Applied (made_btype.BType)) (Walk Applied (made_type.TypeExpr)) (Walk Applied (made_type.TypeExpr)) (arg_type_step c) (arrow_step c) (btype_step c) (type_step c) (type_part_step c) x)

pub type_at_misuses : (c : Context) (bs : Bound) (k : ℕ) (x : TypeExpr) → (type_out c x (bs, k)).misuses ≡ ((btype_out c (out-TypeExpr x).first) (bs, unless_arrow (map (arrow_out c) (out-TypeExpr x).arrows) k)).misuses ++ all_misuses (bs, 0) (map (arrow_out c) (out-TypeExpr x).arrows)
unfolding arg_type_out arrow_out btype_out type_out type_part_out
type_at_misuses c bs k x = ap (λ (g : Walk Applied (made_type.TypeExpr)). (g (bs, k)).misuses) (fold_out-TypeExpr (Walk Applied (made_arg.ArgType)) (Walk Applied (made_btype.BType)) (Walk Applied (made_btype.BType)) (Walk Applied (made_type.TypeExpr)) (Walk Applied (made_type.TypeExpr)) (arg_type_step c) (arrow_step c) (btype_step c) (type_step c) (type_part_step c) x)

pub type_part_at_tree : (c : Context) (bs : Bound) (k : ℕ) (x : TypePart) → (type_part_out c x (bs, k)).tree ≡ ((type_out c (out-TypePart x).part) (bs, k)).tree
unfolding arg_type_out arrow_out btype_out type_out type_part_out
type_part_at_tree c bs k x = ap (λ (g : Walk Applied (made_type.TypeExpr)). (g (bs, k)).tree) (fold_out-TypePart (Walk Applied (made_arg.ArgType)) (Walk Applied (made_btype.BType)) (Walk Applied (made_btype.BType)) (Walk Applied (made_type.TypeExpr)) (Walk Applied (made_type.TypeExpr)) (arg_type_step c) (arrow_step c) (btype_step c) (type_step c) (type_part_step c) x)

pub type_part_at_misuses : (c : Context) (bs : Bound) (k : ℕ) (x : TypePart) → (type_part_out c x (bs, k)).misuses ≡ ((type_out c (out-TypePart x).part) (bs, k)).misuses
unfolding arg_type_out arrow_out btype_out type_out type_part_out
type_part_at_misuses c bs k x = ap (λ (g : Walk Applied (made_type.TypeExpr)). (g (bs, k)).misuses) (fold_out-TypePart (Walk Applied (made_arg.ArgType)) (Walk Applied (made_btype.BType)) (Walk Applied (made_btype.BType)) (Walk Applied (made_type.TypeExpr)) (Walk Applied (made_type.TypeExpr)) (arg_type_step c) (arrow_step c) (btype_step c) (type_step c) (type_part_step c) x)
