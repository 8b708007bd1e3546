use Rattle.std.proofs.Common.{length}
use Rattle.gh_groups.specs.Grouping.{AreBelow}
use Rattle.gh_kind_unify.specs.Orders.{AreEdges}
use Rattle.gh_kind_unify.proofs.order.edges.Given as goal

abbrev pub invariant-loop-v : goal.invariant-loop-v
invariant-loop-v l = record {
  edges : AreEdges l.cells l.v l.edges;
  below : AreBelow (length l.cells) l.edges;
}
