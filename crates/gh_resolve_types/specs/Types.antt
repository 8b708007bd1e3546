-- Types with their names resolved, production by production: the same type without its marks, where the name of a type is the
-- one origin in scope, and a variable is its innermost binder. A type that is applied is told by how many arguments, also through
-- parentheses, since a synonym has at least as many arguments as parameters (Haskell 98 Report, 4.2.2).
use Rattle.std.specs.Prelude.{ℕ, suc, ◌+◌, length, List, [], ◌∷◌, ◌++◌}
use Rattle.gh_tree.specs.declared.types.ArgType.{ArgType, fold-ArgType}
use Rattle.gh_tree.specs.declared.types.Arrow.{Arrow, fold-Arrow}
use Rattle.gh_tree.specs.declared.types.BType.{BType, fold-BType}
use Rattle.gh_tree.specs.declared.types.TypeExpr.{TypeExpr, fold-TypeExpr}
use Rattle.gh_tree.specs.declared.types.TypePart.{TypePart, fold-TypePart}
use Rattle.gh_tree.specs.declared.types.ArgType.TheOpen.{ArgType-F, Arrow-F, BType-F, TypeExpr-F, TypePart-F}
use Rattle.gh_program.specs.declared.types.ArgType as made_arg
use Rattle.gh_program.specs.declared.types.ArgType.TheVariants as made
use Rattle.gh_program.specs.declared.types.BType as made_btype
use Rattle.gh_program.specs.declared.types.BType.{roll-BType}
use Rattle.gh_program.specs.declared.types.TypeExpr as made_type
use Rattle.gh_program.specs.declared.types.TypeExpr.{roll-TypeExpr}
use Rattle.gh_resolve_names.specs.declared.context.Context.{Context}
use Rattle.gh_resolve_names.specs.Misuses.{Out, Walk, trees, all_misuses}
use Rattle.gh_resolve_names.specs.Standing.{Bound, type_use, variable_use}
use Rattle.gh_resolve_names.specs.Written.{used_name}
use Rattle.gh_resolve_types.specs.TypeVariables.{type_vars_of}

-- the type variables in scope, and how many arguments stand behind a part
abbrev pub Applied : Type 0
Applied = Bound × ℕ

-- what stands before an arrow is not applied to what stands behind the whole
abbrev pub unless_arrow : {X : Type 0} → List X → ℕ → ℕ
unless_arrow [] k = k
unless_arrow (a ∷ more) k = 0

abbrev pub arg_type_step : Context → ArgType-F (Walk Applied (made_arg.ArgType)) (Walk Applied (made_btype.BType)) (Walk Applied (made_btype.BType)) (Walk Applied (made_type.TypeExpr)) (Walk Applied (made_type.TypeExpr)) → Walk Applied (made_arg.ArgType)
arg_type_step c (ArgType-F.Con n) = λ l. record { tree = made.Con (type_use c l.1 (used_name n)).tree; misuses = (type_use c l.1 (used_name n)).misuses }
arg_type_step c (ArgType-F.Var n) = λ l. record { tree = made.Var (variable_use c l.0 (used_name n)).tree; misuses = (variable_use c l.0 (used_name n)).misuses }
arg_type_step c (ArgType-F.Unit s a b) = λ l. record { tree = made.Unit s; misuses = [] }
arg_type_step c (ArgType-F.NoList s a b) = λ l. record { tree = made.NoList s; misuses = [] }
arg_type_step c (ArgType-F.NoArrow s a d b) = λ l. record { tree = made.NoArrow s; misuses = [] }
arg_type_step c (ArgType-F.NoTuple s a ms b) = λ l. record { tree = made.NoTuple s (suc (length ms)); misuses = [] }
arg_type_step c (ArgType-F.Paren s a t b) = λ l. record { tree = made.Paren s (t l).tree; misuses = (t l).misuses }
arg_type_step c (ArgType-F.Tuple s a t ts b) = λ l. record { tree = made.Tuple s ((t (l.0, 0)).tree ∷ trees (l.0, 0) ts); misuses = (t (l.0, 0)).misuses ++ all_misuses (l.0, 0) ts }
arg_type_step c (ArgType-F.List s a t b) = λ l. record { tree = made.List s (t (l.0, 0)).tree; misuses = (t (l.0, 0)).misuses }

abbrev pub arrow_step : Context → Arrow-F (Walk Applied (made_arg.ArgType)) (Walk Applied (made_btype.BType)) (Walk Applied (made_btype.BType)) (Walk Applied (made_type.TypeExpr)) (Walk Applied (made_type.TypeExpr)) → Walk Applied (made_btype.BType)
arrow_step c x = λ l. record { tree = (x.to l).tree; misuses = (x.to l).misuses }

abbrev pub btype_step : Context → BType-F (Walk Applied (made_arg.ArgType)) (Walk Applied (made_btype.BType)) (Walk Applied (made_btype.BType)) (Walk Applied (made_type.TypeExpr)) (Walk Applied (made_type.TypeExpr)) → Walk Applied (made_btype.BType)
btype_step c x = λ l. record { tree = roll-BType (record { span = x.span; head = (x.head (l.0, length x.args + l.1)).tree; args = trees (l.0, 0) x.args }); misuses = (x.head (l.0, length x.args + l.1)).misuses ++ all_misuses (l.0, 0) x.args }

abbrev pub type_step : Context → TypeExpr-F (Walk Applied (made_arg.ArgType)) (Walk Applied (made_btype.BType)) (Walk Applied (made_btype.BType)) (Walk Applied (made_type.TypeExpr)) (Walk Applied (made_type.TypeExpr)) → Walk Applied (made_type.TypeExpr)
type_step c x = λ l. record { tree = roll-TypeExpr (record { span = x.span; first = (x.first (l.0, unless_arrow x.arrows l.1)).tree; others = trees (l.0, 0) x.arrows }); misuses = (x.first (l.0, unless_arrow x.arrows l.1)).misuses ++ all_misuses (l.0, 0) x.arrows }

abbrev pub type_part_step : Context → TypePart-F (Walk Applied (made_arg.ArgType)) (Walk Applied (made_btype.BType)) (Walk Applied (made_btype.BType)) (Walk Applied (made_type.TypeExpr)) (Walk Applied (made_type.TypeExpr)) → Walk Applied (made_type.TypeExpr)
type_part_step c x = λ l. record { tree = (x.part l).tree; misuses = (x.part l).misuses }

unfoldable pub arg_type_out : Context → ArgType → Walk Applied (made_arg.ArgType)
arg_type_out c = fold-ArgType (Walk Applied (made_arg.ArgType)) (Walk Applied (made_btype.BType)) (Walk Applied (made_btype.BType)) (Walk Applied (made_type.TypeExpr)) (Walk Applied (made_type.TypeExpr)) (arg_type_step c) (arrow_step c) (btype_step c) (type_step c) (type_part_step c)

unfoldable pub arrow_out : Context → Arrow → Walk Applied (made_btype.BType)
arrow_out c = fold-Arrow (Walk Applied (made_arg.ArgType)) (Walk Applied (made_btype.BType)) (Walk Applied (made_btype.BType)) (Walk Applied (made_type.TypeExpr)) (Walk Applied (made_type.TypeExpr)) (arg_type_step c) (arrow_step c) (btype_step c) (type_step c) (type_part_step c)

unfoldable pub btype_out : Context → BType → Walk Applied (made_btype.BType)
btype_out c = fold-BType (Walk Applied (made_arg.ArgType)) (Walk Applied (made_btype.BType)) (Walk Applied (made_btype.BType)) (Walk Applied (made_type.TypeExpr)) (Walk Applied (made_type.TypeExpr)) (arg_type_step c) (arrow_step c) (btype_step c) (type_step c) (type_part_step c)

unfoldable pub type_out : Context → TypeExpr → Walk Applied (made_type.TypeExpr)
type_out c = fold-TypeExpr (Walk Applied (made_arg.ArgType)) (Walk Applied (made_btype.BType)) (Walk Applied (made_btype.BType)) (Walk Applied (made_type.TypeExpr)) (Walk Applied (made_type.TypeExpr)) (arg_type_step c) (arrow_step c) (btype_step c) (type_step c) (type_part_step c)

unfoldable pub type_part_out : Context → TypePart → Walk Applied (made_type.TypeExpr)
type_part_out c = fold-TypePart (Walk Applied (made_arg.ArgType)) (Walk Applied (made_btype.BType)) (Walk Applied (made_btype.BType)) (Walk Applied (made_type.TypeExpr)) (Walk Applied (made_type.TypeExpr)) (arg_type_step c) (arrow_step c) (btype_step c) (type_step c) (type_part_step c)

-- A type all of whose variables are its own: that of a signature or an annotation.
abbrev pub own_type : Context → TypeExpr → Out (made_type.TypeExpr)
own_type c t = type_out c t (type_vars_of t, 0)
