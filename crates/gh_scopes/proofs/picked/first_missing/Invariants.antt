use Rattle.std.proofs.Common.{◌≡◌, drop}
use Rattle.gh_scopes.specs.Graph.{first_some}
use Rattle.gh_scopes.specs.Imports.{missing}
use Rattle.gh_scopes.proofs.picked.first_missing.Given as goal

abbrev pub invariant-loop-one : goal.invariant-loop-one
invariant-loop-one l = first_some (missing l.hiding l.owners.summaries.now l.table) l.listed ≡ first_some (missing l.hiding l.owners.summaries.now l.table) (drop l.one-index l.listed)
