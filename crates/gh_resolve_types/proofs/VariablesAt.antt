-- The variables of types, variant by variant.
use Rattle.std.proofs.Common.{◌≡◌, ◌+◌, List, [], ◌∷◌, ◌++◌, map, sym, ap, ◌∙◌}
use Rattle.gh_base.specs.declared.place.Span.{Span}
use Rattle.gh_tree.specs.declared.names.Name.{Name}
use Rattle.gh_tree.specs.declared.types.ArgType.{fold-roll-ArgType}
use Rattle.gh_tree.specs.declared.types.ArgType.TheVariants as v_ArgType
use Rattle.gh_tree.specs.declared.types.Arrow.{Arrow, out-Arrow, fold_out-Arrow}
use Rattle.gh_tree.specs.declared.types.BType.{BType, out-BType, fold_out-BType}
use Rattle.gh_tree.specs.declared.types.TypeExpr.{TypeExpr, out-TypeExpr, fold_out-TypeExpr}
use Rattle.gh_tree.specs.declared.types.TypePart.{TypePart, out-TypePart, fold_out-TypePart}
use Rattle.gh_tree.specs.declared.types.ArgType.TheOpen.{ArgType-F}
use Rattle.gh_resolve_names.specs.Misuses.{joined}
use Rattle.gh_resolve_names.specs.Standing.{Bound, binder}
use Rattle.gh_resolve_names.specs.Written.{used_name}
use Rattle.gh_resolve_types.specs.TypeVariables.{arg_vars_of, arrow_vars_of, btype_vars_of, type_vars_of, type_part_vars_of, arg_vars_step, arrow_vars_step, btype_vars_step, type_vars_step, type_part_vars_step}

pub arg_vars_con : (n : Name) → arg_vars_of (v_ArgType.Con n) ≡ []
unfolding arg_vars_of arrow_vars_of btype_vars_of type_vars_of type_part_vars_of
arg_vars_con n = ap (arg_vars_of) (sym (v_ArgType.rolls-Con n)) ∙ fold-roll-ArgType Bound Bound Bound Bound Bound arg_vars_step arrow_vars_step btype_vars_step type_vars_step type_part_vars_step (ArgType-F.Con n)

pub arg_vars_var : (n : Name) → arg_vars_of (v_ArgType.Var n) ≡ binder (used_name n) ∷ []
unfolding arg_vars_of arrow_vars_of btype_vars_of type_vars_of type_part_vars_of
arg_vars_var n = ap (arg_vars_of) (sym (v_ArgType.rolls-Var n)) ∙ fold-roll-ArgType Bound Bound Bound Bound Bound arg_vars_step arrow_vars_step btype_vars_step type_vars_step type_part_vars_step (ArgType-F.Var n)

pub arg_vars_unit : (s : Span) (a : Span) (b : Span) → arg_vars_of (v_ArgType.Unit s a b) ≡ []
unfolding arg_vars_of arrow_vars_of btype_vars_of type_vars_of type_part_vars_of
arg_vars_unit s a b = ap (arg_vars_of) (sym (v_ArgType.rolls-Unit s a b)) ∙ fold-roll-ArgType Bound Bound Bound Bound Bound arg_vars_step arrow_vars_step btype_vars_step type_vars_step type_part_vars_step (ArgType-F.Unit s a b)

pub arg_vars_nolist : (s : Span) (a : Span) (b : Span) → arg_vars_of (v_ArgType.NoList s a b) ≡ []
unfolding arg_vars_of arrow_vars_of btype_vars_of type_vars_of type_part_vars_of
arg_vars_nolist s a b = ap (arg_vars_of) (sym (v_ArgType.rolls-NoList s a b)) ∙ fold-roll-ArgType Bound Bound Bound Bound Bound arg_vars_step arrow_vars_step btype_vars_step type_vars_step type_part_vars_step (ArgType-F.NoList s a b)

pub arg_vars_noarrow : (s : Span) (a : Span) (d : Span) (b : Span) → arg_vars_of (v_ArgType.NoArrow s a d b) ≡ []
unfolding arg_vars_of arrow_vars_of btype_vars_of type_vars_of type_part_vars_of
arg_vars_noarrow s a d b = ap (arg_vars_of) (sym (v_ArgType.rolls-NoArrow s a d b)) ∙ fold-roll-ArgType Bound Bound Bound Bound Bound arg_vars_step arrow_vars_step btype_vars_step type_vars_step type_part_vars_step (ArgType-F.NoArrow s a d b)

pub arg_vars_notuple : (s : Span) (a : Span) (ms : List Span) (b : Span) → arg_vars_of (v_ArgType.NoTuple s a ms b) ≡ []
unfolding arg_vars_of arrow_vars_of btype_vars_of type_vars_of type_part_vars_of
arg_vars_notuple s a ms b = ap (arg_vars_of) (sym (v_ArgType.rolls-NoTuple s a ms b)) ∙ fold-roll-ArgType Bound Bound Bound Bound Bound arg_vars_step arrow_vars_step btype_vars_step type_vars_step type_part_vars_step (ArgType-F.NoTuple s a ms b)

pub arg_vars_paren : (s : Span) (a : Span) (t : TypeExpr) (b : Span) → arg_vars_of (v_ArgType.Paren s a t b) ≡ (type_vars_of t)
unfolding arg_vars_of arrow_vars_of btype_vars_of type_vars_of type_part_vars_of
arg_vars_paren s a t b = ap (arg_vars_of) (sym (v_ArgType.rolls-Paren s a t b)) ∙ fold-roll-ArgType Bound Bound Bound Bound Bound arg_vars_step arrow_vars_step btype_vars_step type_vars_step type_part_vars_step (ArgType-F.Paren s a t b)

pub arg_vars_tuple : (s : Span) (a : Span) (t : TypeExpr) (ts : List TypePart) (b : Span) → arg_vars_of (v_ArgType.Tuple s a t ts b) ≡ (type_vars_of t) ++ joined (map (type_part_vars_of) ts)
unfolding arg_vars_of arrow_vars_of btype_vars_of type_vars_of type_part_vars_of
arg_vars_tuple s a t ts b = ap (arg_vars_of) (sym (v_ArgType.rolls-Tuple s a t ts b)) ∙ fold-roll-ArgType Bound Bound Bound Bound Bound arg_vars_step arrow_vars_step btype_vars_step type_vars_step type_part_vars_step (ArgType-F.Tuple s a t ts b)

pub arg_vars_list : (s : Span) (a : Span) (t : TypeExpr) (b : Span) → arg_vars_of (v_ArgType.List s a t b) ≡ (type_vars_of t)
unfolding arg_vars_of arrow_vars_of btype_vars_of type_vars_of type_part_vars_of
arg_vars_list s a t b = ap (arg_vars_of) (sym (v_ArgType.rolls-List s a t b)) ∙ fold-roll-ArgType Bound Bound Bound Bound Bound arg_vars_step arrow_vars_step btype_vars_step type_vars_step type_part_vars_step (ArgType-F.List s a t b)

pub arrow_vars_at : (x : Arrow) → arrow_vars_of x ≡ (btype_vars_of (out-Arrow x).to)
unfolding arg_vars_of arrow_vars_of btype_vars_of type_vars_of type_part_vars_of
arrow_vars_at x = fold_out-Arrow Bound Bound Bound Bound Bound arg_vars_step arrow_vars_step btype_vars_step type_vars_step type_part_vars_step x

pub btype_vars_at : (x : BType) → btype_vars_of x ≡ (arg_vars_of (out-BType x).head) ++ joined (map (arg_vars_of) (out-BType x).args)
unfolding arg_vars_of arrow_vars_of btype_vars_of type_vars_of type_part_vars_of
btype_vars_at x = fold_out-BType Bound Bound Bound Bound Bound arg_vars_step arrow_vars_step btype_vars_step type_vars_step type_part_vars_step x

pub type_vars_at : (x : TypeExpr) → type_vars_of x ≡ (btype_vars_of (out-TypeExpr x).first) ++ joined (map (arrow_vars_of) (out-TypeExpr x).arrows)
unfolding arg_vars_of arrow_vars_of btype_vars_of type_vars_of type_part_vars_of
type_vars_at x = fold_out-TypeExpr Bound Bound Bound Bound Bound arg_vars_step arrow_vars_step btype_vars_step type_vars_step type_part_vars_step x

pub type_part_vars_at : (x : TypePart) → type_part_vars_of x ≡ (type_vars_of (out-TypePart x).part)
unfolding arg_vars_of arrow_vars_of btype_vars_of type_vars_of type_part_vars_of
type_part_vars_at x = fold_out-TypePart Bound Bound Bound Bound Bound arg_vars_step arrow_vars_step btype_vars_step type_vars_step type_part_vars_step x
