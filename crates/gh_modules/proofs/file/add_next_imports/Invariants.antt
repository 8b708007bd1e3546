use Rattle.std.proofs.Common.{◌≡◌, ◌++◌, take}
use Rattle.std.specs.List.{flat_map}
use Rattle.gh_modules.specs.Summaries.{imports_in, item_at}
use Rattle.gh_modules.proofs.file.add_next_imports.Given as goal

abbrev pub invariant-loop-next : goal.invariant-loop-next
invariant-loop-next l = l.list ≡ l.initial.list ++ flat_map (λ x. imports_in (item_at x)) (take l.next-index l.items)
