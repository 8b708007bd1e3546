use Rattle.std.proofs.Common.{◌≡◌, drop}
use Rattle.gh_scopes.specs.Graph.{first_some}
use Rattle.gh_scopes.specs.Imports.{import_fault}
use Rattle.gh_scopes.proofs.imports.imports_fault.Given as goal

abbrev pub invariant-loop-import : goal.invariant-loop-import
invariant-loop-import l = first_some (import_fault l.owners.summaries.now l.exports) l.imports ≡ first_some (import_fault l.owners.summaries.now l.exports) (drop l.import-index l.imports)
