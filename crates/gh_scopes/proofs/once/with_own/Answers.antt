use Rattle.std.proofs.Common.{ap, ◌∙◌, arith}
use Rattle.gh_scopes.specs.Found.{with_entries}
use Rattle.gh_scopes.specs.Imports.{own_given, given_origin}
use Rattle.std.proofs.Common.{false}
use Rattle.gh_scopes.proofs.Entered.{entered_step}
use Rattle.gh_scopes.proofs.once.with_own.Goals as goal

pub loop-definition-preserved : goal.loop-definition-preserved
loop-definition-preserved c =
    entered_step (own_given c.args.home) c.args.it c.args.definitions.now c.loop-definition.definition-index _ c.loop-definition.it c.in_ok-it.it (omega arith) c.loop-definition.invariant
    (c.in_ok-it.ensures ∙ ap (λ o. with_entries c.loop-definition.it (given_origin false c.args.home o)) c.own_origin.ensures)
