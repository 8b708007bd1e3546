use Rattle.std.proofs.Common.{◌≡◌, ℕ, List, ◌<◌, Some, slice_get}
use Rattle.gh_groups.specs.Plans.{GroupOk}
use Rattle.gh_groups.proofs.check.are_groups_ok.Given as goal

abbrev pub invariant-loop-place : goal.invariant-loop-place
invariant-loop-place l = (p : ℕ) (g : List ℕ) → p < l.place → slice_get l.groups p ≡ Some g → GroupOk l.count l.places p g
