use Rattle.std.proofs.Common.{◌≡◌, ◌++◌, take}
use Rattle.gh_scopes.proofs.table.with_all.Given as goal

abbrev pub invariant-loop-entry : goal.invariant-loop-entry
invariant-loop-entry l = l.table ≡ l.initial.table ++ take l.entry-index l.entries
