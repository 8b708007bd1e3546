use Rattle.std.proofs.Common.{◌≡◌, ℕ, ◌<◌, Some, slice_get, get_or}
use Rattle.gh_groups.proofs.check.is_group_ok.Given as goal

abbrev pub invariant-loop-number : goal.invariant-loop-number
invariant-loop-number l = (k v : ℕ) → k < l.number-index → slice_get l.group k ≡ Some v → (v < l.count) × (get_or l.places v 0 ≡ l.place)
