use Rattle.std.proofs.Common.{◌≡◌, ℕ, ◌<◌, ◌≤◌, Some, slice_get, get_or}
use Rattle.gh_groups.proofs.check.are_edges_ok.Given as goal

abbrev pub invariant-loop-edge : goal.invariant-loop-edge
invariant-loop-edge l = (k a b : ℕ) → k < l.edge-index → slice_get l.edges k ≡ Some (a, b) → get_or l.places b 0 ≤ get_or l.places a 0
