use Rattle.std.proofs.Common.{◌≡◌, take}
use Rattle.std.specs.List.{flat_map}
use Rattle.gh_scopes.specs.Imports.{picked}
use Rattle.gh_scopes.proofs.picked.picked.Given as goal

abbrev pub invariant-loop-one : goal.invariant-loop-one
invariant-loop-one l = l.list ≡ flat_map (picked l.hiding l.owners.summaries.now l.table) (take l.one-index l.listed)
