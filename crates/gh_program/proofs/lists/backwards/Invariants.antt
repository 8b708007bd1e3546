use Rattle.std.proofs.Common.{◌≡◌, ◌++◌, reverse, length}
use Rattle.gh_program.proofs.lists.backwards.Given as goal

-- what has been moved, and then what waits from its last to its first, is the whole list from its last to its first
abbrev pub invariant-loop-node : goal.invariant-loop-node
invariant-loop-node g l = reverse l.fn.list ≡ l.turned ++ reverse l.waiting

abbrev pub decreases-loop-node : goal.decreases-loop-node
decreases-loop-node g l = length l.waiting
