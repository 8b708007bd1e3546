use Rattle.std.proofs.Common.{◌≡◌, drop, map}
use Rattle.gh_scopes.specs.Imports.{is_one_of, constructor_of}
use Rattle.gh_scopes.proofs.owners.is_among.Given as goal

abbrev pub invariant-loop-name : goal.invariant-loop-name
invariant-loop-name l = is_one_of (map (constructor_of l.owner) l.names) l.origin ≡ is_one_of (map (constructor_of l.owner) (drop l.name-index l.names)) l.origin
