use Rattle.std.proofs.Common.{◌≡◌, ◌++◌, take}
use Rattle.std.specs.List.{flat_map}
use Rattle.gh_declarations.specs.Tops.{item_at, failures_in_item}
use Rattle.gh_declarations.proofs.first.add_next_items.Given as goal

abbrev pub invariant-loop-next : goal.invariant-loop-next
invariant-loop-next l = l.failures ≡ l.initial.failures ++ flat_map (λ x. failures_in_item (item_at x)) (take l.next-index l.items)
