use Rattle.std.proofs.Common.{◌≡◌, ◌++◌, [], take, unwrap_or}
use Rattle.std.specs.HashMap.{get}
use Rattle.std.specs.List.{flat_map}
use Rattle.gh_scopes.specs.Keys.{Key, same_key}
use Rattle.gh_scopes.specs.Imports.{owned}
use Rattle.gh_scopes.proofs.owners.own_definitions.Given as goal

abbrev pub invariant-loop-definition : goal.invariant-loop-definition
invariant-loop-definition l = (k : Key) → unwrap_or (get same_key l.table k) [] ≡ unwrap_or (get same_key l.initial.table k) [] ++ flat_map (owned k l.home) (take l.definition-index l.definitions)
