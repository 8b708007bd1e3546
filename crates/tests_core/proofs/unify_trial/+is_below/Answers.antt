use Rattle.std.proofs.Common.{sym, ◌∙◌}
use Rattle.gh_unify.proofs.Drawn.{below_app}
use Rattle.tests_core.proofs.unify_trial.+is_below.Goals as goal

pub returns-else-not-is_below : goal.returns-else-not-is_below
returns-else-not-is_below t c h =
    below_app c.args.count c.args.term.now c.in-App.head c.in-App.arg (sym c.get.ensures ∙ c.in-App.is) (c.is_below.ensures c.if-not-is_below.false) (c.is_below-in-App.ensures h)
