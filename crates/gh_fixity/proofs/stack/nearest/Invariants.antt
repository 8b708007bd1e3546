use Rattle.std.proofs.Common.{◌≡◌, ◌≤◌, ◌<◌, ℕ, Some}
use Rattle.gh_fixity.specs.Arrangement.{level_at}
use Rattle.gh_fixity.proofs.stack.nearest.Given as goal

abbrev pub invariant-loop-place : goal.invariant-loop-place
invariant-loop-place l = (p : ℕ) → l.place ≤ p → p < l.right → level_at l.items p ≡ Some l.level → ⊥
