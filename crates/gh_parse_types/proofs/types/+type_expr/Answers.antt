use Rattle.std.proofs.Common.{◌≡◌, ap, arith}
use Rattle.gh_tree.specs.ReadTypes.{type_expr}
use Rattle.gh_tree.proofs.Steps.{deeper}
use Rattle.gh_parse_types.proofs.types.+type_expr.Goals as goal

pub returns-then-depth-eq0 : goal.returns-then-depth-eq0
unfolding type_expr
returns-then-depth-eq0 t c = let none : c.args.depth ≡ 0 = omega arith in ap (λ n. type_expr n c.args.tokens.now) none

pub returns : goal.returns
unfolding type_expr
returns t c = rw (deeper (λ n. type_expr n c.args.tokens.now) c.args.depth (omega arith)) c.whole.ensures
