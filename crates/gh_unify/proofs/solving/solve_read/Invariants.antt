use Rattle.gh_unify.specs.Steps.{Goes}
use Rattle.gh_unify.specs.Tables.{open_in}
use Rattle.gh_unify.proofs.solving.solve_read.Given as goal

abbrev pub invariant-loop-found : goal.invariant-loop-found
invariant-loop-found l = Goes l.fn.table.items l.kept.items l.fn.left l.fn.right l.a l.b

abbrev pub decreases-loop-found : goal.decreases-loop-found
decreases-loop-found l = open_in l.kept.items
