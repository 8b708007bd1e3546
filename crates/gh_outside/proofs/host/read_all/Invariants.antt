use Rattle.std.proofs.Common.{◌≤◌, ◌+◌, length}
use Rattle.gh_outside.proofs.host.read_all.Given as goal

abbrev pub invariant-loop-left : goal.invariant-loop-left
invariant-loop-left g l = length l.out + l.left ≤ l.fn.most

abbrev pub decreases-loop-left : goal.decreases-loop-left
decreases-loop-left g l = l.left
