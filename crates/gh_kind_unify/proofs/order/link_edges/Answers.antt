use Rattle.gh_kind_unify.proofs.Ordering.{edges_link}
use Rattle.gh_kind_unify.proofs.order.link_edges.Goals as goal

pub returns-clause-edges : goal.returns-clause-edges
returns-clause-edges c =
    edges_link c.args.cells.now c.args.v c.args.w c.args.edges.now c.push.new.self c.requires.tidy c.requires.within c.requires.link c.requires.edges
    c.in_ok-push.ensures.ok
