use Rattle.std.proofs.Common.{◌≡◌, drop}
use Rattle.gh_scopes.specs.Graph.{first_cycle}
use Rattle.gh_scopes.proofs.graph.first_cycle.Given as goal

abbrev pub invariant-loop-file : goal.invariant-loop-file
invariant-loop-file l = first_cycle l.summaries l.graph 0 l.summaries ≡ first_cycle l.summaries l.graph l.file (drop l.file l.summaries)
