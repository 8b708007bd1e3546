-- Two types with the same tokens: they differ in nothing but the places of these.
use Rattle.std.specs.Prelude.{ℕ, Bool, true, false, ◌&&◌, ◌==◌, List, [], ◌∷◌, length, Option, Some, None}
use Rattle.gh_base.specs.declared.names.NameId.{NameId}
use Rattle.gh_tree.specs.declared.names.Name.{Name}
use Rattle.gh_tree.specs.declared.types.ArgType.{ArgType, out-ArgType, fold-ArgType}
use Rattle.gh_tree.specs.declared.types.Arrow.{Arrow, out-Arrow, fold-Arrow}
use Rattle.gh_tree.specs.declared.types.BType.{BType, out-BType, fold-BType}
use Rattle.gh_tree.specs.declared.types.TypeExpr.{TypeExpr, out-TypeExpr, fold-TypeExpr}
use Rattle.gh_tree.specs.declared.types.TypePart.{TypePart, out-TypePart, fold-TypePart}
use Rattle.gh_tree.specs.declared.types.ArgType.TheOpen.{ArgType-F, Arrow-F, BType-F, TypeExpr-F, TypePart-F}

abbrev pub same_qualifier : Option NameId → Option NameId → Bool
same_qualifier None None = true
same_qualifier (Some m) (Some n) = m.0 == n.0
same_qualifier _ _ = false

abbrev pub same_name : Name → Name → Bool
same_name x y = same_qualifier x.qualifier y.qualifier && (x.id.0 == y.id.0)

-- as many of both, and each is the same as its like
abbrev pub all_same : {A : Type 0} → List (A → Bool) → List A → Bool
all_same [] [] = true
all_same (f ∷ fs) (x ∷ xs) = f x && all_same fs xs
all_same _ _ = false

-- an argument type, by its parts
abbrev pub Shape : Type 0
Shape = ArgType-F ArgType Arrow BType TypeExpr TypePart

abbrev pub shape : ArgType → Shape
shape = out-ArgType

abbrev pub is_con : Name → Shape → Bool
is_con x (ArgType-F.Con y) = same_name x y
is_con _ _ = false

abbrev pub is_var : Name → Shape → Bool
is_var x (ArgType-F.Var y) = same_name x y
is_var _ _ = false

abbrev pub is_unit : Shape → Bool
is_unit (ArgType-F.Unit x0 x1 x2) = true
is_unit _ = false

abbrev pub is_no_list : Shape → Bool
is_no_list (ArgType-F.NoList x0 x1 x2) = true
is_no_list _ = false

abbrev pub is_no_arrow : Shape → Bool
is_no_arrow (ArgType-F.NoArrow x0 x1 x2 x3) = true
is_no_arrow _ = false

abbrev pub is_no_tuple : ℕ → Shape → Bool
is_no_tuple commas (ArgType-F.NoTuple x0 x1 x2 x3) = commas == length x2
is_no_tuple _ _ = false

abbrev pub is_paren : (TypeExpr → Bool) → Shape → Bool
is_paren f (ArgType-F.Paren x0 x1 x2 x3) = f x2
is_paren _ _ = false

abbrev pub is_tuple : (TypeExpr → Bool) → List (TypePart → Bool) → Shape → Bool
is_tuple f fs (ArgType-F.Tuple x0 x1 x2 x3 x4) = f x2 && all_same fs x3
is_tuple _ _ _ = false

abbrev pub is_list : (TypeExpr → Bool) → Shape → Bool
is_list f (ArgType-F.List x0 x1 x2 x3) = f x2
is_list _ _ = false

abbrev pub arg_type_step : ArgType-F (ArgType → Bool) (Arrow → Bool) (BType → Bool) (TypeExpr → Bool) (TypePart → Bool) → ArgType → Bool
arg_type_step (ArgType-F.Con x0) y = is_con x0 (out-ArgType y)
arg_type_step (ArgType-F.Var x0) y = is_var x0 (out-ArgType y)
arg_type_step (ArgType-F.Unit x0 x1 x2) y = is_unit (out-ArgType y)
arg_type_step (ArgType-F.NoList x0 x1 x2) y = is_no_list (out-ArgType y)
arg_type_step (ArgType-F.NoArrow x0 x1 x2 x3) y = is_no_arrow (out-ArgType y)
arg_type_step (ArgType-F.NoTuple x0 x1 x2 x3) y = is_no_tuple (length x2) (out-ArgType y)
arg_type_step (ArgType-F.Paren x0 x1 x2 x3) y = is_paren x2 (out-ArgType y)
arg_type_step (ArgType-F.Tuple x0 x1 x2 x3 x4) y = is_tuple x2 x3 (out-ArgType y)
arg_type_step (ArgType-F.List x0 x1 x2 x3) y = is_list x2 (out-ArgType y)

abbrev pub arrow_step : Arrow-F (ArgType → Bool) (Arrow → Bool) (BType → Bool) (TypeExpr → Bool) (TypePart → Bool) → Arrow → Bool
arrow_step x y = x.to (out-Arrow y).to

abbrev pub btype_step : BType-F (ArgType → Bool) (Arrow → Bool) (BType → Bool) (TypeExpr → Bool) (TypePart → Bool) → BType → Bool
btype_step x y = x.head (out-BType y).head && all_same x.args (out-BType y).args

abbrev pub type_step : TypeExpr-F (ArgType → Bool) (Arrow → Bool) (BType → Bool) (TypeExpr → Bool) (TypePart → Bool) → TypeExpr → Bool
type_step x y = x.first (out-TypeExpr y).first && all_same x.arrows (out-TypeExpr y).arrows

abbrev pub type_part_step : TypePart-F (ArgType → Bool) (Arrow → Bool) (BType → Bool) (TypeExpr → Bool) (TypePart → Bool) → TypePart → Bool
type_part_step x y = x.part (out-TypePart y).part

unfoldable pub same_arg_type : ArgType → ArgType → Bool
same_arg_type = fold-ArgType (ArgType → Bool) (Arrow → Bool) (BType → Bool) (TypeExpr → Bool) (TypePart → Bool) arg_type_step arrow_step btype_step type_step type_part_step

unfoldable pub same_arrow : Arrow → Arrow → Bool
same_arrow = fold-Arrow (ArgType → Bool) (Arrow → Bool) (BType → Bool) (TypeExpr → Bool) (TypePart → Bool) arg_type_step arrow_step btype_step type_step type_part_step

unfoldable pub same_btype : BType → BType → Bool
same_btype = fold-BType (ArgType → Bool) (Arrow → Bool) (BType → Bool) (TypeExpr → Bool) (TypePart → Bool) arg_type_step arrow_step btype_step type_step type_part_step

unfoldable pub same_type : TypeExpr → TypeExpr → Bool
same_type = fold-TypeExpr (ArgType → Bool) (Arrow → Bool) (BType → Bool) (TypeExpr → Bool) (TypePart → Bool) arg_type_step arrow_step btype_step type_step type_part_step

unfoldable pub same_type_part : TypePart → TypePart → Bool
same_type_part = fold-TypePart (ArgType → Bool) (Arrow → Bool) (BType → Bool) (TypeExpr → Bool) (TypePart → Bool) arg_type_step arrow_step btype_step type_step type_part_step
