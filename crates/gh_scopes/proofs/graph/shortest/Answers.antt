use Rattle.std.proofs.Common.{◌+◌, ◌-◌, length, sym, ap, ◌∙◌, arith}
use Rattle.std.specs.Option.{option_copied}
use Rattle.gh_scopes.proofs.Loops.{shortest_here, shortest_more}
use Rattle.gh_scopes.proofs.Walks.{layer_here}
use Rattle.gh_scopes.proofs.graph.shortest.Goals as goal

pub returns-in-Some : goal.returns-in-Some
returns-in-Some c = λ g to are.
    shortest_here g to (length c.args.layers.now - c.loop-layer.layer-index) (length c.args.layers.now - (c.loop-layer.layer-index + 1)) c.loop-layer.layer-index c.args.file _ _ (omega arith)
    (c.loop-layer.invariant g to are)
    (sym (layer_here g to c.args.layers.now c.loop-layer.layer-index c.layer-item.result c.args.file (omega arith) c.layer-item.is are) ∙ sym c.walk_from.ensures ∙ ap option_copied c.in-Some.is)

pub loop-layer-preserved : goal.loop-layer-preserved
loop-layer-preserved c = λ g to are.
    shortest_more g to (length c.args.layers.now - c.loop-layer.layer-index) (length c.args.layers.now - (c.loop-layer.layer-index + 1)) c.loop-layer.layer-index c.args.file _ (omega arith)
    (c.loop-layer.invariant g to are)
    (sym (layer_here g to c.args.layers.now c.loop-layer.layer-index c.layer-item.result c.args.file (omega arith) c.layer-item.is are) ∙ sym c.walk_from.ensures ∙ ap option_copied c.in_default.is)
