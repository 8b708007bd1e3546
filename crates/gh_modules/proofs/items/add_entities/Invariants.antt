use Rattle.std.proofs.Common.{◌≡◌, ◌++◌, map, take}
use Rattle.gh_modules.specs.Summaries.{next_entity}
use Rattle.gh_modules.proofs.items.add_entities.Given as goal

abbrev pub invariant-loop-next : goal.invariant-loop-next
invariant-loop-next l = l.list ≡ l.initial.list ++ map next_entity (take l.next-index l.entities)
