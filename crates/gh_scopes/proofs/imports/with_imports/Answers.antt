use Rattle.std.proofs.Common.{ap, ◌∙◌, arith}
use Rattle.gh_scopes.specs.Found.{with_entries}
use Rattle.gh_scopes.specs.Imports.{import_gives}
use Rattle.gh_scopes.proofs.Entered.{entered_step}
use Rattle.gh_scopes.proofs.imports.with_imports.Goals as goal

pub loop-import-preserved : goal.loop-import-preserved
loop-import-preserved c =
    let f = import_gives c.args.owners.now.summaries.now c.args.exports.now in
    entered_step f c.args.it c.args.imports.now c.loop-import.import-index c.import-item.result c.loop-import.it c.in_ok-it.it (omega arith) c.loop-import.invariant
    (c.in_ok-it.ensures ∙ ap (λ i. with_entries c.loop-import.it (f i)) c.import-item.is)
