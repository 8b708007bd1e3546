use Rattle.std.proofs.Common.{◌-◌}
use Rattle.gh_kind_unify.specs.Faults.{AreBounds}
use Rattle.gh_kind_unify.proofs.least.first_failing.Given as goal

abbrev pub invariant-halves : goal.invariant-halves
invariant-halves l = AreBounds l.count l.rules l.bounds

abbrev pub decreases-halves : goal.decreases-halves
decreases-halves l = l.bounds.failing - l.bounds.met
