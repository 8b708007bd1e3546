use Rattle.std.proofs.Common.{arith}
use Rattle.gh_scopes.specs.Imports.{wanted_from}
use Rattle.gh_scopes.proofs.Entered.{entered_step, chosen_up}
use Rattle.gh_scopes.proofs.imports.with_chosen.Goals as goal

pub loop-entry-preserved : goal.loop-entry-preserved
loop-entry-preserved c =
    entered_step (wanted_from c.args.import.now c.args.hiding c.args.origins.now) c.args.it c.args.entries.now c.loop-entry.entry-index _ c.loop-entry.it c.in_ok-it.it (omega arith) c.loop-entry.invariant
    (chosen_up _ _ _ _ _ _ _ c.in_ok-it.ensures (c.is_wanted-wanted.ensures c.args.origins.now c.in_ok-set.ensures))
