use Rattle.std.proofs.Common.{◌≡◌, ◌||◌, take}
use Rattle.std.specs.HashSet.{contains}
use Rattle.std.specs.List.{list_any}
use Rattle.gh_base.specs.declared.names.NameId.{NameId}
use Rattle.gh_scopes.specs.Keys.{same_key, qualifier_key}
use Rattle.gh_scopes.specs.Exports.{has_qualifier}
use Rattle.gh_scopes.proofs.qualifiers.put_imports.Given as goal

abbrev pub invariant-loop-import : goal.invariant-loop-import
invariant-loop-import l = (q : NameId) → contains same_key l.set (qualifier_key q) ≡ (contains same_key l.initial.set (qualifier_key q) || list_any (has_qualifier q) (take l.import-index l.imports))
