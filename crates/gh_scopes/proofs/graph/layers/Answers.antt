use Rattle.std.proofs.Common.{◌≡◌, ◌+◌, suc, length, length-append, subst, sym, ap, ◌∙◌, arith}
use Rattle.gh_scopes.specs.Graph.{walk}
use Rattle.gh_scopes.specs.Layers.{AreLayers}
use Rattle.gh_scopes.proofs.Walks.{layers_push}
use Rattle.gh_scopes.proofs.graph.layers.Goals as goal

pub loop-many-preserved : goal.loop-many-preserved
loop-many-preserved c =
    let l = c.loop-many in
    let up : suc l.many ≡ l.many + 1 = omega arith in
    record {
      many = ap length c.in_ok-push.ensures.items ∙ length-append _ _ ∙ ap (λ n. n + 1) l.invariant.many;
      are = subst (AreLayers c.args.graph.now c.args.to (l.many + 1)) (sym c.in_ok-push.ensures.items)
          (layers_push c.args.graph.now c.args.to l.many l.layers.items l.layer l.invariant.many l.invariant.are l.invariant.next);
      next = λ a. c.in_ok-next.ensures c.args.to l.many l.invariant.next a ∙ ap (λ n. walk c.args.graph.now c.args.to n a) up;
    }

pub returns : goal.returns
returns c =
    let all : c.loop-many.many ≡ length c.args.graph.now = omega arith in
    (c.loop-many.invariant.many ∙ all, subst (λ n. AreLayers c.args.graph.now c.args.to n c.loop-many.layers.items) all c.loop-many.invariant.are)
