use Rattle.std.proofs.Common.{◌≡◌, [], drop}
use Rattle.gh_scopes.specs.Graph.{files_from}
use Rattle.gh_scopes.proofs.graph.imported_files.Given as goal

abbrev pub invariant-loop-import : goal.invariant-loop-import
invariant-loop-import l = files_from l.summaries [] l.imports ≡ files_from l.summaries l.files (drop l.import-index l.imports)
