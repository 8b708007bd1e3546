use Rattle.std.proofs.Common.{None, ap, ◌∙◌, arith}
use Rattle.gh_scopes.specs.Found.{with_entry, entry}
use Rattle.gh_scopes.specs.Imports.{own_entry}
use Rattle.gh_scopes.proofs.Entered.{entered_one}
use Rattle.gh_scopes.proofs.once.own_alone.Goals as goal

pub loop-definition-preserved : goal.loop-definition-preserved
loop-definition-preserved c =
    entered_one (own_entry c.args.home) c.args.definitions.now c.loop-definition.definition-index _ c.loop-definition.it c.in_ok-it.it (omega arith) c.loop-definition.invariant
    (c.in_ok-it.ensures ∙ ap (with_entry c.loop-definition.it) (c.entry.ensures ∙ ap (entry None) c.own_origin.ensures))
