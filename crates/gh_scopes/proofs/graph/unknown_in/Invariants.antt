use Rattle.std.proofs.Common.{◌≡◌, drop}
use Rattle.gh_scopes.specs.Graph.{first_some}
use Rattle.gh_scopes.specs.Graph.{unknown_at}
use Rattle.gh_scopes.proofs.graph.unknown_in.Given as goal

abbrev pub invariant-loop-import : goal.invariant-loop-import
invariant-loop-import l = first_some (unknown_at l.summaries) l.imports ≡ first_some (unknown_at l.summaries) (drop l.import-index l.imports)
