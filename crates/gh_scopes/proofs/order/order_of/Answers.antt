use Rattle.std.proofs.Common.{◌+◌, ◌-◌, length, ap, ◌∙◌, arith}
use Rattle.gh_scopes.specs.Order.{with_ready, first_ready}
use Rattle.gh_scopes.proofs.Loops.{taken_more}
use Rattle.gh_scopes.proofs.order.order_of.Goals as goal

pub loop-turn-preserved : goal.loop-turn-preserved
loop-turn-preserved c =
    taken_more c.args.graph.now (length c.args.graph.now - c.loop-turn.turn) (length c.args.graph.now - (c.loop-turn.turn + 1)) c.loop-turn.done c.take.new.done _ (omega arith) c.loop-turn.invariant
    (c.in_ok-take.ensures ∙ ap (with_ready c.loop-turn.done) (c.first_ready-file.ensures ∙ ap (λ d. first_ready d 0 c.args.graph.now) c.as_slice.ensures))
