use Rattle.std.proofs.Common.{◌+◌}
use Rattle.gh_kind_unify.specs.Cells.{weight}
use Rattle.gh_kind_unify.specs.Settling.{Settling, weights}
use Rattle.gh_kind_unify.proofs.settling.settle_all.Given as goal

abbrev pub invariant-next : goal.invariant-next
invariant-next l = Settling l.fn.cells l.fn.rules.items l.cells l.todo.items

abbrev pub decreases-next : goal.decreases-next
decreases-next l = weight l.cells + weights l.todo.items
