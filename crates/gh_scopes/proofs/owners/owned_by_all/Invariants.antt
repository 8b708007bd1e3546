use Rattle.std.proofs.Common.{take}
use Rattle.gh_scopes.specs.Tables.{IsOwners}
use Rattle.gh_scopes.proofs.owners.owned_by_all.Given as goal

abbrev pub invariant-loop-summary : goal.invariant-loop-summary
invariant-loop-summary l = IsOwners l.table (take l.summary-index l.summaries)
