-- Types by their parts.
use Rattle.std.proofs.Common.{◌≡◌, ◌&&◌, ◌∷◌, ◌++◌, map, sym, ap, ◌∙◌}
use Rattle.gh_tree.specs.declared.symbol.Kind.TheVariants as k
use Rattle.gh_tree.specs.declared.types.ArgType.{ArgType, roll-ArgType, out-ArgType, roll-out-ArgType}
use Rattle.gh_tree.specs.declared.types.ArgType.TheVariants as v_ArgType
use Rattle.gh_tree.specs.declared.types.ArgType.TheOpen.{ArgType-F}
use Rattle.gh_tree.specs.declared.types.Arrow.{Arrow, out-Arrow, roll-out-Arrow}
use Rattle.gh_tree.specs.declared.types.BType.{BType, out-BType, roll-out-BType}
use Rattle.gh_tree.specs.declared.types.TypeExpr.{TypeExpr, out-TypeExpr, roll-out-TypeExpr}
use Rattle.gh_tree.specs.Syms.{at}
use Rattle.gh_tree.specs.Print.{Print, print, spanned, flat_all, good_all}
use Rattle.gh_tree.specs.Print as printed
use Rattle.gh_tree.proofs.CompleteTypes.{Layer, layer}
use Rattle.gh_tree.proofs.Printed.{printed_arg_type_con, printed_arg_type_var, printed_arg_type_unit, printed_arg_type_no_list, printed_arg_type_no_arrow, printed_arg_type_no_tuple, printed_arg_type_paren, printed_arg_type_tuple, printed_arg_type_list, printed_arrow, printed_btype, printed_type_expr}

layer_printed : (y : Layer) → printed.arg_type (roll-ArgType y) ≡ layer y
unfolding layer
layer_printed (ArgType-F.Con x0) = ap printed.arg_type (v_ArgType.rolls-Con x0) ∙ printed_arg_type_con x0
layer_printed (ArgType-F.Var x0) = ap printed.arg_type (v_ArgType.rolls-Var x0) ∙ printed_arg_type_var x0
layer_printed (ArgType-F.Unit x0 x1 x2) = ap printed.arg_type (v_ArgType.rolls-Unit x0 x1 x2) ∙ printed_arg_type_unit x0 x1 x2
layer_printed (ArgType-F.NoList x0 x1 x2) = ap printed.arg_type (v_ArgType.rolls-NoList x0 x1 x2) ∙ printed_arg_type_no_list x0 x1 x2
layer_printed (ArgType-F.NoArrow x0 x1 x2 x3) = ap printed.arg_type (v_ArgType.rolls-NoArrow x0 x1 x2 x3) ∙ printed_arg_type_no_arrow x0 x1 x2 x3
layer_printed (ArgType-F.NoTuple x0 x1 x2 x3) = ap printed.arg_type (v_ArgType.rolls-NoTuple x0 x1 x2 x3) ∙ printed_arg_type_no_tuple x0 x1 x2 x3
layer_printed (ArgType-F.Paren x0 x1 x2 x3) = ap printed.arg_type (v_ArgType.rolls-Paren x0 x1 x2 x3) ∙ printed_arg_type_paren x0 x1 x2 x3
layer_printed (ArgType-F.Tuple x0 x1 x2 x3 x4) = ap printed.arg_type (v_ArgType.rolls-Tuple x0 x1 x2 x3 x4) ∙ printed_arg_type_tuple x0 x1 x2 x3 x4
layer_printed (ArgType-F.List x0 x1 x2 x3) = ap printed.arg_type (v_ArgType.rolls-List x0 x1 x2 x3) ∙ printed_arg_type_list x0 x1 x2 x3

pub arg_at : (x : ArgType) → printed.arg_type x ≡ layer (out-ArgType x)
arg_at x = ap printed.arg_type (sym (roll-out-ArgType x)) ∙ layer_printed (out-ArgType x)

pub arrow_at : (x : Arrow) → printed.arrow x ≡ print (at k.Arrow (out-Arrow x).mark ∷ (printed.btype (out-Arrow x).to).flat) (printed.btype (out-Arrow x).to).good
arrow_at x = ap printed.arrow (sym (roll-out-Arrow x)) ∙ printed_arrow (out-Arrow x).mark (out-Arrow x).to

pub btype_at : (x : BType) → printed.btype x ≡ spanned (out-BType x).span ((printed.arg_type (out-BType x).head).flat ++ flat_all (map printed.arg_type (out-BType x).args)) ((printed.arg_type (out-BType x).head).good && good_all (map printed.arg_type (out-BType x).args))
btype_at x = ap printed.btype (sym (roll-out-BType x)) ∙ printed_btype (out-BType x).span (out-BType x).head (out-BType x).args

pub type_at : (x : TypeExpr) → printed.type_expr x ≡ spanned (out-TypeExpr x).span ((printed.btype (out-TypeExpr x).first).flat ++ flat_all (map printed.arrow (out-TypeExpr x).arrows)) ((printed.btype (out-TypeExpr x).first).good && good_all (map printed.arrow (out-TypeExpr x).arrows))
type_at x = ap printed.type_expr (sym (roll-out-TypeExpr x)) ∙ printed_type_expr (out-TypeExpr x).span (out-TypeExpr x).first (out-TypeExpr x).arrows
