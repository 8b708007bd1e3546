use Rattle.std.proofs.Common.{◌≡◌, ◌++◌, take}
use Rattle.std.specs.List.{flat_map}
use Rattle.gh_scopes.specs.Imports.{listed_part}
use Rattle.gh_scopes.proofs.picked.add_listed_parts.Given as goal

abbrev pub invariant-loop-name : goal.invariant-loop-name
invariant-loop-name l = l.list ≡ l.initial.list ++ flat_map (listed_part l.owners.summaries.now l.table l.owner) (take l.name-index l.names)
