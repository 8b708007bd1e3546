use Rattle.gh_groups.specs.Grouping.{AreBelow}
use Rattle.tests_core.proofs.groups.small.Given as goal

abbrev pub invariant-loop-from : goal.invariant-loop-from
invariant-loop-from l = AreBelow 4 l.edges

abbrev pub invariant-loop-to : goal.invariant-loop-to
invariant-loop-to l = AreBelow 4 l.edges
