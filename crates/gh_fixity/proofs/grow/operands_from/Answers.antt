use Rattle.gh_fixity.specs.Built.{op_nodes, no_operands}
use Rattle.std.proofs.Common.{reverse}
use Rattle.gh_fixity.proofs.Growing.{if_ok, from_grown}
use Rattle.gh_fixity.proofs.grow.operands_from.Goals as goal

pub returns-in_ok-waiting-in-Some : goal.returns-in_ok-waiting-in-Some
returns-in_ok-waiting-in-Some c =
    if_ok c.grow.result
    (λ node h items. from_grown op_nodes items no_operands c.args.parts c.in_ok-waiting-in-Some.waiting (reverse c.grow.new.waiting) c.args.tree c.in-Some.tree node
    c.in-Some.is c.in_ok-waiting-in-Some.ensures (h items))
    c.grow.ensures
