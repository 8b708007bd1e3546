use Rattle.std.proofs.Common.{◌≡◌, drop}
use Rattle.gh_scopes.specs.Graph.{first_some}
use Rattle.gh_scopes.specs.Imports.{bad_part}
use Rattle.gh_scopes.proofs.picked.first_bad_of.Given as goal

abbrev pub invariant-loop-name : goal.invariant-loop-name
invariant-loop-name l = first_some (bad_part l.owners.summaries.now l.table l.owner) l.names ≡ first_some (bad_part l.owners.summaries.now l.table l.owner) (drop l.name-index l.names)
