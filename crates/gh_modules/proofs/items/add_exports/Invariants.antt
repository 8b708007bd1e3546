use Rattle.std.proofs.Common.{◌≡◌, ◌++◌, map, take}
use Rattle.gh_modules.specs.Summaries.{next_export}
use Rattle.gh_modules.proofs.items.add_exports.Given as goal

abbrev pub invariant-loop-next : goal.invariant-loop-next
invariant-loop-next l = l.list ≡ l.initial.list ++ map next_export (take l.next-index l.exports)
