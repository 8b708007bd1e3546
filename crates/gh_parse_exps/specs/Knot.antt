-- What the rules of expressions and declarations are read by: the readers of what stands inside, at one level less.
use Rattle.gh_tree.specs.declared.types.TypeExpr.{TypeExpr}
use Rattle.gh_tree.specs.declared.patterns.ArgPattern.{ArgPattern}
use Rattle.gh_tree.specs.declared.expressions.Exp.{Exp}
use Rattle.gh_tree.specs.declared.expressions.Decls.{Decls}
use Rattle.gh_tree.specs.Read.{Read}
use Rattle.gh_parse_lefts.specs.declared.sides.Left.{Left}

pub record Knot : Type 0 where
  pub exp : Read Exp
  pub decls : Read Decls
  pub typ : Read TypeExpr
  pub arg : Read ArgPattern
  pub left : Read Left
