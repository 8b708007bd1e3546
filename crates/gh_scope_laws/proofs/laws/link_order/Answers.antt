use Rattle.gh_scope_laws.proofs.LinkOrders.{has_link_order, no_link_order, one_link_order}
use Rattle.gh_scope_laws.proofs.laws.link_order.Goals as goal

pub returns : goal.returns
returns c = record { is_there = has_link_order; nowhere_else = no_link_order; no_other = one_link_order }
