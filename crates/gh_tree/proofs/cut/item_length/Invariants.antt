use Rattle.std.proofs.Common.{◌≡◌, ◌+◌, ◌≤◌, drop}
use Rattle.gh_tree.specs.Cut.{item_size}
use Rattle.gh_tree.proofs.cut.item_length.Given as goal

abbrev pub invariant-loop-i : goal.invariant-loop-i
invariant-loop-i l = (item_size l.syms 0 ≡ l.i + item_size (drop l.i l.syms) l.depth) × (l.depth ≤ l.i)
