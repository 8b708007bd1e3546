-- The variables of a type, as binders, in their order and each as often as it stands there.
use Rattle.std.specs.Prelude.{List, [], ◌∷◌, ◌++◌}
use Rattle.gh_tree.specs.declared.types.ArgType.{ArgType, fold-ArgType}
use Rattle.gh_tree.specs.declared.types.Arrow.{Arrow, fold-Arrow}
use Rattle.gh_tree.specs.declared.types.BType.{BType, fold-BType}
use Rattle.gh_tree.specs.declared.types.TypeExpr.{TypeExpr, fold-TypeExpr}
use Rattle.gh_tree.specs.declared.types.TypePart.{TypePart, fold-TypePart}
use Rattle.gh_tree.specs.declared.types.ArgType.TheOpen.{ArgType-F, Arrow-F, BType-F, TypeExpr-F, TypePart-F}
use Rattle.gh_resolve_names.specs.Misuses.{joined}
use Rattle.gh_resolve_names.specs.Standing.{Bound, binder}
use Rattle.gh_resolve_names.specs.Written.{used_name}

abbrev pub arg_vars_step : ArgType-F Bound Bound Bound Bound Bound → Bound
arg_vars_step (ArgType-F.Con n) = []
arg_vars_step (ArgType-F.Var n) = binder (used_name n) ∷ []
arg_vars_step (ArgType-F.Unit s a b) = []
arg_vars_step (ArgType-F.NoList s a b) = []
arg_vars_step (ArgType-F.NoArrow s a d b) = []
arg_vars_step (ArgType-F.NoTuple s a ms b) = []
arg_vars_step (ArgType-F.Paren s a t b) = t
arg_vars_step (ArgType-F.Tuple s a t ts b) = t ++ joined ts
arg_vars_step (ArgType-F.List s a t b) = t

abbrev pub arrow_vars_step : Arrow-F Bound Bound Bound Bound Bound → Bound
arrow_vars_step x = x.to

abbrev pub btype_vars_step : BType-F Bound Bound Bound Bound Bound → Bound
btype_vars_step x = x.head ++ joined x.args

abbrev pub type_vars_step : TypeExpr-F Bound Bound Bound Bound Bound → Bound
type_vars_step x = x.first ++ joined x.arrows

abbrev pub type_part_vars_step : TypePart-F Bound Bound Bound Bound Bound → Bound
type_part_vars_step x = x.part

unfoldable pub arg_vars_of : ArgType → Bound
arg_vars_of = fold-ArgType Bound Bound Bound Bound Bound arg_vars_step arrow_vars_step btype_vars_step type_vars_step type_part_vars_step

unfoldable pub arrow_vars_of : Arrow → Bound
arrow_vars_of = fold-Arrow Bound Bound Bound Bound Bound arg_vars_step arrow_vars_step btype_vars_step type_vars_step type_part_vars_step

unfoldable pub btype_vars_of : BType → Bound
btype_vars_of = fold-BType Bound Bound Bound Bound Bound arg_vars_step arrow_vars_step btype_vars_step type_vars_step type_part_vars_step

unfoldable pub type_vars_of : TypeExpr → Bound
type_vars_of = fold-TypeExpr Bound Bound Bound Bound Bound arg_vars_step arrow_vars_step btype_vars_step type_vars_step type_part_vars_step

unfoldable pub type_part_vars_of : TypePart → Bound
type_part_vars_of = fold-TypePart Bound Bound Bound Bound Bound arg_vars_step arrow_vars_step btype_vars_step type_vars_step type_part_vars_step
