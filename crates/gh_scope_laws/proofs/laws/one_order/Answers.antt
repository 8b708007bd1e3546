use Rattle.gh_scope_laws.proofs.OneOrder.{one_order}
use Rattle.gh_scope_laws.proofs.AnOrder.{is_order}
use Rattle.gh_scope_laws.proofs.laws.one_order.Goals as goal

pub returns : goal.returns
returns c = record { is_one = is_order; no_other = one_order }
