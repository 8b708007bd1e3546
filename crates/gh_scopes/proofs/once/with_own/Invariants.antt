use Rattle.std.proofs.Common.{◌≡◌, take}
use Rattle.std.specs.List.{flat_map}
use Rattle.gh_scopes.specs.Found.{with_entries}
use Rattle.gh_scopes.specs.Imports.{own_given}
use Rattle.gh_scopes.proofs.once.with_own.Given as goal

abbrev pub invariant-loop-definition : goal.invariant-loop-definition
invariant-loop-definition l = l.it ≡ with_entries l.initial.it (flat_map (own_given l.home) (take l.definition-index l.definitions))
