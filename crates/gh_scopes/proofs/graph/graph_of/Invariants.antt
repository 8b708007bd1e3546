use Rattle.std.proofs.Common.{◌≡◌, map, take}
use Rattle.gh_scopes.specs.Graph.{imported_files}
use Rattle.gh_scopes.proofs.graph.graph_of.Given as goal

abbrev pub invariant-loop-summary : goal.invariant-loop-summary
invariant-loop-summary l = l.graph ≡ map (imported_files l.summaries) (take l.summary-index l.summaries)
