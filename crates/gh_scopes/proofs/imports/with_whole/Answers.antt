use Rattle.std.proofs.Common.{arith}
use Rattle.gh_scopes.specs.Imports.{given}
use Rattle.gh_scopes.proofs.Entered.{entered_step}
use Rattle.gh_scopes.proofs.imports.with_whole.Goals as goal

pub loop-entry-preserved : goal.loop-entry-preserved
loop-entry-preserved c =
    entered_step (given c.args.import.now.qualified c.args.import.now.qualifier) c.args.it c.args.entries.now c.loop-entry.entry-index _ c.loop-entry.it c.in_ok-it.it (omega arith) c.loop-entry.invariant c.in_ok-it.ensures
