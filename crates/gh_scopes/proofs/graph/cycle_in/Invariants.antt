use Rattle.std.proofs.Common.{◌≡◌, drop}
use Rattle.gh_scopes.specs.Graph.{first_some, cycle_at}
use Rattle.gh_scopes.proofs.graph.cycle_in.Given as goal

abbrev pub invariant-loop-import : goal.invariant-loop-import
invariant-loop-import l = first_some (cycle_at l.summaries l.graph l.file) l.imports ≡ first_some (cycle_at l.summaries l.graph l.file) (drop l.import-index l.imports)
