use Rattle.std.proofs.Common.{◌≡◌, [], take, unwrap_or}
use Rattle.std.specs.HashMap.{get}
use Rattle.std.specs.List.{flat_map}
use Rattle.gh_base.specs.declared.names.NameId.{NameId}
use Rattle.gh_scopes.specs.Keys.{same_key, qualifier_key}
use Rattle.gh_scopes.specs.Exports.{exported_by}
use Rattle.gh_scopes.proofs.by_qualifier.table_of.Given as goal

abbrev pub invariant-loop-one : goal.invariant-loop-one
invariant-loop-one l = (q : NameId) → unwrap_or (get same_key l.table (qualifier_key q)) [] ≡ flat_map (exported_by l.once q) (take l.one-index l.entries)
