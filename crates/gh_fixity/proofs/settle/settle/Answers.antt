use Rattle.std.proofs.Common.{ap, sym, ◌∙◌}
use Rattle.gh_fixity.specs.Arrangement.{tree_in}
use Rattle.gh_fixity.specs.Settle.{settled_by}
use Rattle.gh_fixity.proofs.Settling.{tree_verdict, fault_settles}
use Rattle.gh_fixity.proofs.settle.settle.Goals as goal

pub returns-in-Ok : goal.returns-in-Ok
returns-in-Ok c =
    c.with_root.ensures c.args.items.now
    ∙ sym (ap (settled_by c.args.items.now c.args.root) (tree_verdict c.args.items.now (tree_in c.args.items.now c.in-Ok.tree) c.in-Ok.ensures.tree))

pub returns-in-Err : goal.returns-in-Err
returns-in-Err c = fault_settles c.args.items.now c.args.root c.in-Err.fault c.clashed.result c.in-Err.ensures.settled c.clashed.ensures
