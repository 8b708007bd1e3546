use Rattle.std.proofs.Common.{ℕ, suc, ◌<◌, get_or}
use Rattle.gh_groups.proofs.check.ascends.Given as goal

abbrev pub invariant-loop-at : goal.invariant-loop-at
invariant-loop-at l = (k : ℕ) → suc k < l.at → get_or l.group k 0 < get_or l.group (suc k) 0
