use Rattle.std.proofs.Common.{◌≡◌, ◌++◌, map, take}
use Rattle.gh_scopes.specs.Graph.{name_at}
use Rattle.gh_scopes.proofs.graph.put_names.Given as goal

abbrev pub invariant-loop-file : goal.invariant-loop-file
invariant-loop-file l = l.names ≡ l.initial.names ++ map (name_at l.summaries) (take l.file-index l.files)
