use Rattle.std.proofs.Common.{◌≡◌, take}
use Rattle.std.specs.List.{flat_map}
use Rattle.gh_scopes.specs.Found.{with_entries}
use Rattle.gh_scopes.specs.Imports.{wanted_from}
use Rattle.gh_scopes.proofs.imports.with_chosen.Given as goal

abbrev pub invariant-loop-entry : goal.invariant-loop-entry
invariant-loop-entry l = l.it ≡ with_entries l.initial.it (flat_map (wanted_from l.import l.hiding l.origins) (take l.entry-index l.entries))
