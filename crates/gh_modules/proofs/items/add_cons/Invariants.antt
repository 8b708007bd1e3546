use Rattle.std.proofs.Common.{◌≡◌, ◌++◌, map, take}
use Rattle.gh_modules.specs.Summaries.{next_con}
use Rattle.gh_modules.proofs.items.add_cons.Given as goal

abbrev pub invariant-loop-next : goal.invariant-loop-next
invariant-loop-next l = l.list ≡ l.initial.list ++ map next_con (take l.next-index l.cons)
