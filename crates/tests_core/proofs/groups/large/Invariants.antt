use Rattle.gh_groups.specs.Grouping.{AreBelow}
use Rattle.tests_core.proofs.groups.large.Given as goal

abbrev pub invariant-loop-at : goal.invariant-loop-at
invariant-loop-at l = AreBelow l.count l.edges

abbrev pub invariant-loop : goal.invariant-loop
invariant-loop l = AreBelow l.count l.edges
