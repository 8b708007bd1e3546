use Rattle.std.proofs.Common.{length-append, arith}
use Rattle.gh_scopes.specs.Layers.{here}
use Rattle.gh_scopes.proofs.Walks.{base_layer, layer_push}
use Rattle.gh_scopes.proofs.graph.first_layer.Goals as goal

pub loop-file-preserved : goal.loop-file-preserved
loop-file-preserved c = rw c.in_ok-push.ensures.ok
    (simp length-append (omega arith), layer_push c.loop-file.file c.loop-file.layer (here c.args.to) c.here.result c.loop-file.invariant.0 c.loop-file.invariant.1 c.here.ensures)

pub returns : goal.returns
returns c = base_layer c.args.to c.args.count c.loop-file.layer c.requires (omega arith) (λ a lt. c.loop-file.invariant.1 a (omega arith))
