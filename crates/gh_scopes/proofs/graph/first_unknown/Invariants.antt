use Rattle.std.proofs.Common.{◌≡◌, drop}
use Rattle.gh_scopes.specs.Graph.{first_some}
use Rattle.gh_scopes.specs.Graph.{unknown_in}
use Rattle.gh_scopes.proofs.graph.first_unknown.Given as goal

abbrev pub invariant-loop-summary : goal.invariant-loop-summary
invariant-loop-summary l = first_some (unknown_in l.summaries) l.summaries ≡ first_some (unknown_in l.summaries) (drop l.summary-index l.summaries)
