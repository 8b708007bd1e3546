use Rattle.std.proofs.Common.{◌≡◌, map, take}
use Rattle.gh_scopes.specs.Found.{once}
use Rattle.gh_scopes.specs.Imports.{own_entry}
use Rattle.gh_scopes.proofs.once.own_alone.Given as goal

abbrev pub invariant-loop-definition : goal.invariant-loop-definition
invariant-loop-definition l = l.it ≡ once (map (own_entry l.home) (take l.definition-index l.definitions))
