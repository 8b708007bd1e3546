-- Types have no brace and no `;`.
use Rattle.std.proofs.Common.{◌≡◌, subst, refl}
use Rattle.gh_tree.specs.declared.types.ArgType.{ArgType, map-ArgType, roll-ArgType, fold-roll-ArgType, ind-ArgType}
use Rattle.gh_tree.specs.declared.types.Arrow.{Arrow, map-Arrow, roll-Arrow, fold-roll-Arrow}
use Rattle.gh_tree.specs.declared.types.BType.{BType, map-BType, roll-BType, fold-roll-BType, ind-BType}
use Rattle.gh_tree.specs.declared.types.TypeExpr.{TypeExpr, map-TypeExpr, roll-TypeExpr, fold-roll-TypeExpr, ind-TypeExpr}
use Rattle.gh_tree.specs.declared.types.TypePart.{TypePart, map-TypePart, roll-TypePart, fold-roll-TypePart}
use Rattle.gh_tree.specs.declared.types.ArgType.TheOpen.{ArgType-F, Arrow-F, BType-F, TypeExpr-F, TypePart-F}
use Rattle.gh_tree.specs.Print.{Print, arg_type, arg_type_step, arrow, arrow_step, btype, btype_step, type_expr, type_expr_step, type_part, type_part_step}
use Rattle.gh_tree.proofs.Braces.{Bare, BareNode, bare_by, tree, bare_none, bare_token, bare_append, bare_nodes}
use Rattle.gh_tree.proofs.BareNames.{bare_commas}

-- a layer of trees, and one of trees with their facts
abbrev types_trees : (Type 0 → Type 0 → Type 0 → Type 0 → Type 0 → Type 0) → Type 0
types_trees F = F ArgType Arrow BType TypeExpr TypePart

abbrev types_nodes : (Type 0 → Type 0 → Type 0 → Type 0 → Type 0 → Type 0) → Type 0
types_nodes F = F (BareNode arg_type) (BareNode arrow) (BareNode btype) (BareNode type_expr) (BareNode type_part)

abbrev arg_type_trees : types_nodes ArgType-F → types_trees ArgType-F
arg_type_trees y = map-ArgType (BareNode arg_type) (BareNode arrow) (BareNode btype) (BareNode type_expr) (BareNode type_part) ArgType Arrow BType TypeExpr TypePart tree tree tree tree tree y

abbrev arg_type_prints : types_trees ArgType-F → Print
arg_type_prints x = arg_type_step (map-ArgType ArgType Arrow BType TypeExpr TypePart Print Print Print Print Print arg_type arrow btype type_expr type_part x)

arg_type_rolled : (x : types_trees ArgType-F) → arg_type (roll-ArgType x) ≡ arg_type_prints x
unfolding arg_type arrow btype type_expr type_part
arg_type_rolled x = fold-roll-ArgType Print Print Print Print Print arg_type_step arrow_step btype_step type_expr_step type_part_step x

arg_type_step_bare : (y : types_nodes ArgType-F) → Bare (arg_type_prints (arg_type_trees y)).flat
arg_type_step_bare (ArgType-F.Con x0) = bare_token refl bare_none
arg_type_step_bare (ArgType-F.Var x0) = bare_token refl bare_none
arg_type_step_bare (ArgType-F.Unit x0 x1 x2) = bare_token refl (bare_token refl bare_none)
arg_type_step_bare (ArgType-F.NoList x0 x1 x2) = bare_token refl (bare_token refl bare_none)
arg_type_step_bare (ArgType-F.NoArrow x0 x1 x2 x3) = bare_token refl (bare_token refl (bare_token refl bare_none))
arg_type_step_bare (ArgType-F.NoTuple x0 x1 x2 x3) = bare_token refl (bare_append (bare_commas x2) (bare_token refl bare_none))
arg_type_step_bare (ArgType-F.Paren x0 x1 x2 x3) = bare_token refl (bare_append x2.1 (bare_token refl bare_none))
arg_type_step_bare (ArgType-F.Tuple x0 x1 x2 x3 x4) = bare_token refl (bare_append x2.1 (bare_append (bare_nodes type_part x3) (bare_token refl bare_none)))
arg_type_step_bare (ArgType-F.List x0 x1 x2 x3) = bare_token refl (bare_append x2.1 (bare_token refl bare_none))

arg_type_layer : (x : types_trees ArgType-F) (y : types_nodes ArgType-F) → arg_type_trees y ≡ x → Bare (arg_type (roll-ArgType x)).flat
arg_type_layer x y is = subst (λ z. Bare (arg_type (roll-ArgType z)).flat) is (bare_by (arg_type_rolled (arg_type_trees y)) (arg_type_step_bare y))

abbrev arrow_trees : types_nodes Arrow-F → types_trees Arrow-F
arrow_trees y = map-Arrow (BareNode arg_type) (BareNode arrow) (BareNode btype) (BareNode type_expr) (BareNode type_part) ArgType Arrow BType TypeExpr TypePart tree tree tree tree tree y

abbrev arrow_prints : types_trees Arrow-F → Print
arrow_prints x = arrow_step (map-Arrow ArgType Arrow BType TypeExpr TypePart Print Print Print Print Print arg_type arrow btype type_expr type_part x)

arrow_rolled : (x : types_trees Arrow-F) → arrow (roll-Arrow x) ≡ arrow_prints x
unfolding arg_type arrow btype type_expr type_part
arrow_rolled x = fold-roll-Arrow Print Print Print Print Print arg_type_step arrow_step btype_step type_expr_step type_part_step x

arrow_step_bare : (y : types_nodes Arrow-F) → Bare (arrow_prints (arrow_trees y)).flat
arrow_step_bare y = bare_token refl y.to.1

arrow_layer : (x : types_trees Arrow-F) (y : types_nodes Arrow-F) → arrow_trees y ≡ x → Bare (arrow (roll-Arrow x)).flat
arrow_layer x y is = subst (λ z. Bare (arrow (roll-Arrow z)).flat) is (bare_by (arrow_rolled (arrow_trees y)) (arrow_step_bare y))

abbrev btype_trees : types_nodes BType-F → types_trees BType-F
btype_trees y = map-BType (BareNode arg_type) (BareNode arrow) (BareNode btype) (BareNode type_expr) (BareNode type_part) ArgType Arrow BType TypeExpr TypePart tree tree tree tree tree y

abbrev btype_prints : types_trees BType-F → Print
btype_prints x = btype_step (map-BType ArgType Arrow BType TypeExpr TypePart Print Print Print Print Print arg_type arrow btype type_expr type_part x)

btype_rolled : (x : types_trees BType-F) → btype (roll-BType x) ≡ btype_prints x
unfolding arg_type arrow btype type_expr type_part
btype_rolled x = fold-roll-BType Print Print Print Print Print arg_type_step arrow_step btype_step type_expr_step type_part_step x

btype_step_bare : (y : types_nodes BType-F) → Bare (btype_prints (btype_trees y)).flat
btype_step_bare y = bare_append y.head.1 (bare_nodes arg_type y.args)

btype_layer : (x : types_trees BType-F) (y : types_nodes BType-F) → btype_trees y ≡ x → Bare (btype (roll-BType x)).flat
btype_layer x y is = subst (λ z. Bare (btype (roll-BType z)).flat) is (bare_by (btype_rolled (btype_trees y)) (btype_step_bare y))

abbrev type_expr_trees : types_nodes TypeExpr-F → types_trees TypeExpr-F
type_expr_trees y = map-TypeExpr (BareNode arg_type) (BareNode arrow) (BareNode btype) (BareNode type_expr) (BareNode type_part) ArgType Arrow BType TypeExpr TypePart tree tree tree tree tree y

abbrev type_expr_prints : types_trees TypeExpr-F → Print
type_expr_prints x = type_expr_step (map-TypeExpr ArgType Arrow BType TypeExpr TypePart Print Print Print Print Print arg_type arrow btype type_expr type_part x)

type_expr_rolled : (x : types_trees TypeExpr-F) → type_expr (roll-TypeExpr x) ≡ type_expr_prints x
unfolding arg_type arrow btype type_expr type_part
type_expr_rolled x = fold-roll-TypeExpr Print Print Print Print Print arg_type_step arrow_step btype_step type_expr_step type_part_step x

type_expr_step_bare : (y : types_nodes TypeExpr-F) → Bare (type_expr_prints (type_expr_trees y)).flat
type_expr_step_bare y = bare_append y.first.1 (bare_nodes arrow y.arrows)

type_expr_layer : (x : types_trees TypeExpr-F) (y : types_nodes TypeExpr-F) → type_expr_trees y ≡ x → Bare (type_expr (roll-TypeExpr x)).flat
type_expr_layer x y is = subst (λ z. Bare (type_expr (roll-TypeExpr z)).flat) is (bare_by (type_expr_rolled (type_expr_trees y)) (type_expr_step_bare y))

abbrev type_part_trees : types_nodes TypePart-F → types_trees TypePart-F
type_part_trees y = map-TypePart (BareNode arg_type) (BareNode arrow) (BareNode btype) (BareNode type_expr) (BareNode type_part) ArgType Arrow BType TypeExpr TypePart tree tree tree tree tree y

abbrev type_part_prints : types_trees TypePart-F → Print
type_part_prints x = type_part_step (map-TypePart ArgType Arrow BType TypeExpr TypePart Print Print Print Print Print arg_type arrow btype type_expr type_part x)

type_part_rolled : (x : types_trees TypePart-F) → type_part (roll-TypePart x) ≡ type_part_prints x
unfolding arg_type arrow btype type_expr type_part
type_part_rolled x = fold-roll-TypePart Print Print Print Print Print arg_type_step arrow_step btype_step type_expr_step type_part_step x

type_part_step_bare : (y : types_nodes TypePart-F) → Bare (type_part_prints (type_part_trees y)).flat
type_part_step_bare y = bare_token refl y.part.1

type_part_layer : (x : types_trees TypePart-F) (y : types_nodes TypePart-F) → type_part_trees y ≡ x → Bare (type_part (roll-TypePart x)).flat
type_part_layer x y is = subst (λ z. Bare (type_part (roll-TypePart z)).flat) is (bare_by (type_part_rolled (type_part_trees y)) (type_part_step_bare y))

pub bare_arg_type : (x : ArgType) → Bare (arg_type x).flat
bare_arg_type = ind-ArgType (λ x. Bare (arg_type x).flat) (λ x. Bare (arrow x).flat) (λ x. Bare (btype x).flat) (λ x. Bare (type_expr x).flat) (λ x. Bare (type_part x).flat) arg_type_layer arrow_layer btype_layer type_expr_layer type_part_layer

pub bare_btype : (x : BType) → Bare (btype x).flat
bare_btype = ind-BType (λ x. Bare (arg_type x).flat) (λ x. Bare (arrow x).flat) (λ x. Bare (btype x).flat) (λ x. Bare (type_expr x).flat) (λ x. Bare (type_part x).flat) arg_type_layer arrow_layer btype_layer type_expr_layer type_part_layer

pub bare_type_expr : (x : TypeExpr) → Bare (type_expr x).flat
bare_type_expr = ind-TypeExpr (λ x. Bare (arg_type x).flat) (λ x. Bare (arrow x).flat) (λ x. Bare (btype x).flat) (λ x. Bare (type_expr x).flat) (λ x. Bare (type_part x).flat) arg_type_layer arrow_layer btype_layer type_expr_layer type_part_layer
