use Rattle.std.proofs.Common.{◌≡◌, [], take, drop}
use Rattle.gh_scopes.specs.Graph.{first_double}
use Rattle.gh_scopes.proofs.graph.first_double.Given as goal

abbrev pub invariant-loop-at : goal.invariant-loop-at
invariant-loop-at l = first_double [] l.summaries ≡ first_double (take l.at l.summaries) (drop l.at l.summaries)
