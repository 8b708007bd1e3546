use Rattle.std.proofs.Common.{◌≤◌}
use Rattle.gh_groups.specs.Plans.{IsWindow}
use Rattle.gh_groups.proofs.check.window.Given as goal

abbrev pub invariant-lower : goal.invariant-lower
invariant-lower l = record { low : l.low ≤ l.place; is : IsWindow l.groups l.low l.place }

abbrev pub decreases-lower : goal.decreases-lower
decreases-lower l = l.low
