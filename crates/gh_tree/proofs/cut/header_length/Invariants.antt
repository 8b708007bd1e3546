use Rattle.std.proofs.Common.{◌≡◌, ◌+◌, drop}
use Rattle.gh_tree.specs.Cut.{header_size}
use Rattle.gh_tree.proofs.cut.header_length.Given as goal

abbrev pub invariant-loop-i : goal.invariant-loop-i
invariant-loop-i l = header_size l.syms ≡ l.i + header_size (drop l.i l.syms)
