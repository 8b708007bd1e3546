use Rattle.std.proofs.Common.{◌≡◌, subst, length}
use Rattle.gh_groups.specs.Grouping.{AreBelow}
use Rattle.gh_kind_unify.specs.Orders.{AreEdges, HasOther, IsEndless, singles}
use Rattle.gh_kind_unify.proofs.Places.{none_found, some_found}
use Rattle.gh_kind_unify.proofs.Ordering.{endless_other}
use Rattle.gh_kind_unify.proofs.order.order.Goals as goal

pub returns-in_default-2 : goal.returns-in_default-2
returns-in_default-2 c =
    let cells = c.args.cells.now in
    let other = none_found c.in_ok-order.field-0 (HasOther c.as_slice.result.now) (λ order. c.as_slice.result.now ≡ singles order.items) c.in_default-2.is
    c.in_ok-order.ensures in
    let edges = some_found c.in_ok-edges.field-0 c.in-Some.edges (IsEndless cells) (λ edges. AreEdges cells (length cells) edges × AreBelow (length cells) edges)
    c.in-Some.is c.in_ok-edges.ensures in
    endless_other cells c.in-Some.edges c.in_ok-groups.groups c.requires.tidy edges.0 c.in_ok-groups.ensures (subst HasOther c.as_slice.ensures other)
