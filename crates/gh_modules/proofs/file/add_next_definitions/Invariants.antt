use Rattle.std.proofs.Common.{◌≡◌, ◌++◌, take}
use Rattle.std.specs.List.{flat_map}
use Rattle.gh_modules.specs.Summaries.{definitions_in, item_at}
use Rattle.gh_modules.proofs.file.add_next_definitions.Given as goal

abbrev pub invariant-loop-next : goal.invariant-loop-next
invariant-loop-next l = l.list ≡ l.initial.list ++ flat_map (λ x. definitions_in (item_at x)) (take l.next-index l.items)
