-- Sameness of types, node by node.
use Rattle.std.proofs.Common.{◌≡◌, Bool, ◌&&◌, List, length, map, sym, ap, ◌∙◌}
use Rattle.gh_base.specs.declared.place.Span.{Span}
use Rattle.gh_tree.specs.declared.names.Name.{Name}
use Rattle.gh_tree.specs.declared.types.ArgType.{ArgType, out-ArgType, out-roll-ArgType, fold-roll-ArgType}
use Rattle.gh_tree.specs.declared.types.ArgType.TheVariants as v_ArgType
use Rattle.gh_tree.specs.declared.types.Arrow.{Arrow, out-Arrow, fold_out-Arrow}
use Rattle.gh_tree.specs.declared.types.BType.{BType, out-BType, fold_out-BType}
use Rattle.gh_tree.specs.declared.types.TypeExpr.{TypeExpr, out-TypeExpr, fold_out-TypeExpr}
use Rattle.gh_tree.specs.declared.types.TypePart.{TypePart, out-TypePart, fold_out-TypePart}
use Rattle.gh_tree.specs.declared.types.ArgType.TheOpen.{ArgType-F}
use Rattle.gh_limits.specs.SameTypes.{same_arg_type, same_arrow, same_btype, same_type, same_type_part, arg_type_step, arrow_step, btype_step, type_step, type_part_step, shape, all_same, is_con, is_var, is_unit, is_no_list, is_no_arrow, is_no_tuple, is_paren, is_tuple, is_list}

pub shape_con : (x0 : Name) → shape (v_ArgType.Con x0) ≡ ArgType-F.Con x0
shape_con x0 = ap out-ArgType (sym (v_ArgType.rolls-Con x0)) ∙ out-roll-ArgType (ArgType-F.Con x0)

pub arg_type_con : (x0 : Name) (y : ArgType) → same_arg_type (v_ArgType.Con x0) y ≡ is_con x0 (shape y)
unfolding same_arg_type same_arrow same_btype same_type same_type_part
arg_type_con x0 y = ap (λ (f : ArgType → Bool). f y) (ap same_arg_type (sym (v_ArgType.rolls-Con x0)) ∙ fold-roll-ArgType (ArgType → Bool) (Arrow → Bool) (BType → Bool) (TypeExpr → Bool) (TypePart → Bool) arg_type_step arrow_step btype_step type_step type_part_step (ArgType-F.Con x0))

pub shape_var : (x0 : Name) → shape (v_ArgType.Var x0) ≡ ArgType-F.Var x0
shape_var x0 = ap out-ArgType (sym (v_ArgType.rolls-Var x0)) ∙ out-roll-ArgType (ArgType-F.Var x0)

pub arg_type_var : (x0 : Name) (y : ArgType) → same_arg_type (v_ArgType.Var x0) y ≡ is_var x0 (shape y)
unfolding same_arg_type same_arrow same_btype same_type same_type_part
arg_type_var x0 y = ap (λ (f : ArgType → Bool). f y) (ap same_arg_type (sym (v_ArgType.rolls-Var x0)) ∙ fold-roll-ArgType (ArgType → Bool) (Arrow → Bool) (BType → Bool) (TypeExpr → Bool) (TypePart → Bool) arg_type_step arrow_step btype_step type_step type_part_step (ArgType-F.Var x0))

pub shape_unit : (x0 : Span) (x1 : Span) (x2 : Span) → shape (v_ArgType.Unit x0 x1 x2) ≡ ArgType-F.Unit x0 x1 x2
shape_unit x0 x1 x2 = ap out-ArgType (sym (v_ArgType.rolls-Unit x0 x1 x2)) ∙ out-roll-ArgType (ArgType-F.Unit x0 x1 x2)

pub arg_type_unit : (x0 : Span) (x1 : Span) (x2 : Span) (y : ArgType) → same_arg_type (v_ArgType.Unit x0 x1 x2) y ≡ is_unit (shape y)
unfolding same_arg_type same_arrow same_btype same_type same_type_part
arg_type_unit x0 x1 x2 y = ap (λ (f : ArgType → Bool). f y) (ap same_arg_type (sym (v_ArgType.rolls-Unit x0 x1 x2)) ∙ fold-roll-ArgType (ArgType → Bool) (Arrow → Bool) (BType → Bool) (TypeExpr → Bool) (TypePart → Bool) arg_type_step arrow_step btype_step type_step type_part_step (ArgType-F.Unit x0 x1 x2))

pub shape_no_list : (x0 : Span) (x1 : Span) (x2 : Span) → shape (v_ArgType.NoList x0 x1 x2) ≡ ArgType-F.NoList x0 x1 x2
shape_no_list x0 x1 x2 = ap out-ArgType (sym (v_ArgType.rolls-NoList x0 x1 x2)) ∙ out-roll-ArgType (ArgType-F.NoList x0 x1 x2)

pub arg_type_no_list : (x0 : Span) (x1 : Span) (x2 : Span) (y : ArgType) → same_arg_type (v_ArgType.NoList x0 x1 x2) y ≡ is_no_list (shape y)
unfolding same_arg_type same_arrow same_btype same_type same_type_part
arg_type_no_list x0 x1 x2 y = ap (λ (f : ArgType → Bool). f y) (ap same_arg_type (sym (v_ArgType.rolls-NoList x0 x1 x2)) ∙ fold-roll-ArgType (ArgType → Bool) (Arrow → Bool) (BType → Bool) (TypeExpr → Bool) (TypePart → Bool) arg_type_step arrow_step btype_step type_step type_part_step (ArgType-F.NoList x0 x1 x2))

pub shape_no_arrow : (x0 : Span) (x1 : Span) (x2 : Span) (x3 : Span) → shape (v_ArgType.NoArrow x0 x1 x2 x3) ≡ ArgType-F.NoArrow x0 x1 x2 x3
shape_no_arrow x0 x1 x2 x3 = ap out-ArgType (sym (v_ArgType.rolls-NoArrow x0 x1 x2 x3)) ∙ out-roll-ArgType (ArgType-F.NoArrow x0 x1 x2 x3)

pub arg_type_no_arrow : (x0 : Span) (x1 : Span) (x2 : Span) (x3 : Span) (y : ArgType) → same_arg_type (v_ArgType.NoArrow x0 x1 x2 x3) y ≡ is_no_arrow (shape y)
unfolding same_arg_type same_arrow same_btype same_type same_type_part
arg_type_no_arrow x0 x1 x2 x3 y = ap (λ (f : ArgType → Bool). f y) (ap same_arg_type (sym (v_ArgType.rolls-NoArrow x0 x1 x2 x3)) ∙ fold-roll-ArgType (ArgType → Bool) (Arrow → Bool) (BType → Bool) (TypeExpr → Bool) (TypePart → Bool) arg_type_step arrow_step btype_step type_step type_part_step (ArgType-F.NoArrow x0 x1 x2 x3))

pub shape_no_tuple : (x0 : Span) (x1 : Span) (x2 : List Span) (x3 : Span) → shape (v_ArgType.NoTuple x0 x1 x2 x3) ≡ ArgType-F.NoTuple x0 x1 x2 x3
shape_no_tuple x0 x1 x2 x3 = ap out-ArgType (sym (v_ArgType.rolls-NoTuple x0 x1 x2 x3)) ∙ out-roll-ArgType (ArgType-F.NoTuple x0 x1 x2 x3)

pub arg_type_no_tuple : (x0 : Span) (x1 : Span) (x2 : List Span) (x3 : Span) (y : ArgType) → same_arg_type (v_ArgType.NoTuple x0 x1 x2 x3) y ≡ is_no_tuple (length x2) (shape y)
unfolding same_arg_type same_arrow same_btype same_type same_type_part
arg_type_no_tuple x0 x1 x2 x3 y = ap (λ (f : ArgType → Bool). f y) (ap same_arg_type (sym (v_ArgType.rolls-NoTuple x0 x1 x2 x3)) ∙ fold-roll-ArgType (ArgType → Bool) (Arrow → Bool) (BType → Bool) (TypeExpr → Bool) (TypePart → Bool) arg_type_step arrow_step btype_step type_step type_part_step (ArgType-F.NoTuple x0 x1 x2 x3))

pub shape_paren : (x0 : Span) (x1 : Span) (x2 : TypeExpr) (x3 : Span) → shape (v_ArgType.Paren x0 x1 x2 x3) ≡ ArgType-F.Paren x0 x1 x2 x3
shape_paren x0 x1 x2 x3 = ap out-ArgType (sym (v_ArgType.rolls-Paren x0 x1 x2 x3)) ∙ out-roll-ArgType (ArgType-F.Paren x0 x1 x2 x3)

pub arg_type_paren : (x0 : Span) (x1 : Span) (x2 : TypeExpr) (x3 : Span) (y : ArgType) → same_arg_type (v_ArgType.Paren x0 x1 x2 x3) y ≡ is_paren (same_type x2) (shape y)
unfolding same_arg_type same_arrow same_btype same_type same_type_part
arg_type_paren x0 x1 x2 x3 y = ap (λ (f : ArgType → Bool). f y) (ap same_arg_type (sym (v_ArgType.rolls-Paren x0 x1 x2 x3)) ∙ fold-roll-ArgType (ArgType → Bool) (Arrow → Bool) (BType → Bool) (TypeExpr → Bool) (TypePart → Bool) arg_type_step arrow_step btype_step type_step type_part_step (ArgType-F.Paren x0 x1 x2 x3))

pub shape_tuple : (x0 : Span) (x1 : Span) (x2 : TypeExpr) (x3 : List TypePart) (x4 : Span) → shape (v_ArgType.Tuple x0 x1 x2 x3 x4) ≡ ArgType-F.Tuple x0 x1 x2 x3 x4
shape_tuple x0 x1 x2 x3 x4 = ap out-ArgType (sym (v_ArgType.rolls-Tuple x0 x1 x2 x3 x4)) ∙ out-roll-ArgType (ArgType-F.Tuple x0 x1 x2 x3 x4)

pub arg_type_tuple : (x0 : Span) (x1 : Span) (x2 : TypeExpr) (x3 : List TypePart) (x4 : Span) (y : ArgType) → same_arg_type (v_ArgType.Tuple x0 x1 x2 x3 x4) y ≡ is_tuple (same_type x2) (map same_type_part x3) (shape y)
unfolding same_arg_type same_arrow same_btype same_type same_type_part
arg_type_tuple x0 x1 x2 x3 x4 y = ap (λ (f : ArgType → Bool). f y) (ap same_arg_type (sym (v_ArgType.rolls-Tuple x0 x1 x2 x3 x4)) ∙ fold-roll-ArgType (ArgType → Bool) (Arrow → Bool) (BType → Bool) (TypeExpr → Bool) (TypePart → Bool) arg_type_step arrow_step btype_step type_step type_part_step (ArgType-F.Tuple x0 x1 x2 x3 x4))

pub shape_list : (x0 : Span) (x1 : Span) (x2 : TypeExpr) (x3 : Span) → shape (v_ArgType.List x0 x1 x2 x3) ≡ ArgType-F.List x0 x1 x2 x3
shape_list x0 x1 x2 x3 = ap out-ArgType (sym (v_ArgType.rolls-List x0 x1 x2 x3)) ∙ out-roll-ArgType (ArgType-F.List x0 x1 x2 x3)

pub arg_type_list : (x0 : Span) (x1 : Span) (x2 : TypeExpr) (x3 : Span) (y : ArgType) → same_arg_type (v_ArgType.List x0 x1 x2 x3) y ≡ is_list (same_type x2) (shape y)
unfolding same_arg_type same_arrow same_btype same_type same_type_part
arg_type_list x0 x1 x2 x3 y = ap (λ (f : ArgType → Bool). f y) (ap same_arg_type (sym (v_ArgType.rolls-List x0 x1 x2 x3)) ∙ fold-roll-ArgType (ArgType → Bool) (Arrow → Bool) (BType → Bool) (TypeExpr → Bool) (TypePart → Bool) arg_type_step arrow_step btype_step type_step type_part_step (ArgType-F.List x0 x1 x2 x3))

pub arrow_at : (x y : Arrow) → same_arrow x y ≡ same_btype (out-Arrow x).to (out-Arrow y).to
unfolding same_arg_type same_arrow same_btype same_type same_type_part
arrow_at x y = ap (λ (f : Arrow → Bool). f y) (fold_out-Arrow (ArgType → Bool) (Arrow → Bool) (BType → Bool) (TypeExpr → Bool) (TypePart → Bool) arg_type_step arrow_step btype_step type_step type_part_step x)

pub btype_at : (x y : BType) → same_btype x y ≡ same_arg_type (out-BType x).head (out-BType y).head && all_same (map same_arg_type (out-BType x).args) (out-BType y).args
unfolding same_arg_type same_arrow same_btype same_type same_type_part
btype_at x y = ap (λ (f : BType → Bool). f y) (fold_out-BType (ArgType → Bool) (Arrow → Bool) (BType → Bool) (TypeExpr → Bool) (TypePart → Bool) arg_type_step arrow_step btype_step type_step type_part_step x)

pub type_at : (x y : TypeExpr) → same_type x y ≡ same_btype (out-TypeExpr x).first (out-TypeExpr y).first && all_same (map same_arrow (out-TypeExpr x).arrows) (out-TypeExpr y).arrows
unfolding same_arg_type same_arrow same_btype same_type same_type_part
type_at x y = ap (λ (f : TypeExpr → Bool). f y) (fold_out-TypeExpr (ArgType → Bool) (Arrow → Bool) (BType → Bool) (TypeExpr → Bool) (TypePart → Bool) arg_type_step arrow_step btype_step type_step type_part_step x)

pub type_part_at : (x y : TypePart) → same_type_part x y ≡ same_type (out-TypePart x).part (out-TypePart y).part
unfolding same_arg_type same_arrow same_btype same_type same_type_part
type_part_at x y = ap (λ (f : TypePart → Bool). f y) (fold_out-TypePart (ArgType → Bool) (Arrow → Bool) (BType → Bool) (TypeExpr → Bool) (TypePart → Bool) arg_type_step arrow_step btype_step type_step type_part_step x)
