use Rattle.std.proofs.Common.{◌≡◌, take}
use Rattle.std.specs.List.{flat_map}
use Rattle.gh_scopes.specs.Found.{with_entries}
use Rattle.gh_scopes.specs.Imports.{import_gives}
use Rattle.gh_scopes.proofs.imports.with_imports.Given as goal

abbrev pub invariant-loop-import : goal.invariant-loop-import
invariant-loop-import l = l.it ≡ with_entries l.initial.it (flat_map (import_gives l.owners.summaries.now l.exports) (take l.import-index l.imports))
