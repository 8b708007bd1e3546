use Rattle.std.proofs.Common.{◌≤◌, length, drop}
use Rattle.gh_machine.specs.Keys.{IsTable}
use Rattle.gh_machine.proofs.table.table.Given as goal

abbrev pub invariant-loop-left : goal.invariant-loop-left
invariant-loop-left l = (l.left ≤ length l.defs) × IsTable (drop l.left l.defs) l.table

abbrev pub decreases-loop-left : goal.decreases-loop-left
decreases-loop-left l = l.left
