use Rattle.std.proofs.Common.{ap, [], ◌∷◌, Some}
use Rattle.gh_core_lint.specs.declared.types.Node.{Node}
use Rattle.gh_core_lint.specs.Types.{type_at}
use Rattle.gh_core_lint.proofs.scope.bind_lam.Goals as goal

pub returns-clause-bound : goal.returns-clause-bound
returns-clause-bound c =
    ((c.args.x, Some c.in_ok-share.field-0) ∷ [], c.in_ok-bind.ensures, ap (λ (n : Node). (c.args.x, Some (type_at n)) ∷ []) c.in_ok-share.ensures)
