use Rattle.std.proofs.Common.{◌≡◌, take}
use Rattle.gh_kernel.proofs.copies.copy_kinds.Given as goal

abbrev pub invariant-loop-variable : goal.invariant-loop-variable
invariant-loop-variable l = l.copy ≡ take l.variable-index l.kinds
