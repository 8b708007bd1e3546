use Rattle.std.proofs.Common.{arith}
use Rattle.gh_scopes.proofs.Walks.{further_layer}
use Rattle.gh_scopes.proofs.graph.next_layer.Goals as goal

pub returns : goal.returns
returns c = further_layer c.args.graph.now c.args.layer.now c.loop-file.next (omega arith) (λ a lt. c.loop-file.invariant.1 a (omega arith))
