use Rattle.gh_kind_unify.proofs.Ordering.{edges_arrow}
use Rattle.gh_kind_unify.proofs.order.arrow_edges.Goals as goal

pub returns-clause-edges : goal.returns-clause-edges
returns-clause-edges c =
    let other = c.requires.other in
    edges_arrow c.args.cells.now c.args.v c.args.a c.args.b c.args.edges.now c.push.new.self c.push-2.new.self c.requires.arrow other.0 other.1
    c.requires.edges c.in_ok-push.ensures.ok c.in_ok-push-2.ensures.ok
