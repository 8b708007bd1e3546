use Rattle.std.proofs.Common.{◌≡◌, map, take}
use Rattle.gh_kernel.specs.Erase.{erased, erased_binding, erased_body, erased_pair, erased_row}
use Rattle.gh_kernel.proofs.erasing.+erase.Given as goal

abbrev pub invariant-erase_groups-loop-binding : goal.invariant-erase_groups-loop-binding
invariant-erase_groups-loop-binding g l = (l.made ≡ l.initial.made) × (l.members ≡ map erased_binding (take l.binding-index l.binding-items))

abbrev pub invariant-erase_bodies-loop-guard : goal.invariant-erase_bodies-loop-guard
invariant-erase_bodies-loop-guard g l = l.made ≡ map erased_body (take l.guard-index l.bodies)

abbrev pub invariant-erase_groups-loop-group : goal.invariant-erase_groups-loop-group
invariant-erase_groups-loop-group g l = l.made ≡ map (map erased_binding) (take l.group-index l.groups)

abbrev pub invariant-erase_pairs-loop-function : goal.invariant-erase_pairs-loop-function
invariant-erase_pairs-loop-function g l = l.made ≡ map erased_pair (take l.function-index l.pairs)

abbrev pub invariant-erase_rows-loop-row : goal.invariant-erase_rows-loop-row
invariant-erase_rows-loop-row g l = l.made ≡ map erased_row (take l.row-index l.rows)

abbrev pub invariant-erase_terms-loop-term : goal.invariant-erase_terms-loop-term
invariant-erase_terms-loop-term g l = l.made ≡ map erased (take l.term-index l.terms)
