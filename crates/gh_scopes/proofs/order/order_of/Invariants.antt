use Rattle.std.proofs.Common.{◌≡◌, ◌-◌, length}
use Rattle.gh_scopes.specs.Order.{order_of, taken_from}
use Rattle.gh_scopes.proofs.order.order_of.Given as goal

abbrev pub invariant-loop-turn : goal.invariant-loop-turn
invariant-loop-turn l = order_of l.graph ≡ taken_from l.graph (length l.graph - l.turn) l.done
