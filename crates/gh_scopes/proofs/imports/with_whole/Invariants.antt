use Rattle.std.proofs.Common.{◌≡◌, take}
use Rattle.std.specs.List.{flat_map}
use Rattle.gh_scopes.specs.Found.{with_entries}
use Rattle.gh_scopes.specs.Imports.{given}
use Rattle.gh_scopes.proofs.imports.with_whole.Given as goal

abbrev pub invariant-loop-entry : goal.invariant-loop-entry
invariant-loop-entry l = l.it ≡ with_entries l.initial.it (flat_map (given l.import.qualified l.import.qualifier) (take l.entry-index l.entries))
