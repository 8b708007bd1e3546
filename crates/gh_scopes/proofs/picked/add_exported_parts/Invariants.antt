use Rattle.std.proofs.Common.{◌≡◌, ◌++◌, take}
use Rattle.std.specs.List.{flat_map}
use Rattle.gh_scopes.specs.Imports.{exported_part}
use Rattle.gh_scopes.proofs.picked.add_exported_parts.Given as goal

abbrev pub invariant-loop-name : goal.invariant-loop-name
invariant-loop-name l = l.list ≡ l.initial.list ++ flat_map (exported_part l.table l.owner) (take l.name-index l.names)
