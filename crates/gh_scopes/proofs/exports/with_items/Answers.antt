use Rattle.std.proofs.Common.{arith}
use Rattle.gh_scopes.specs.Exports.{nothing}
use Rattle.gh_scopes.proofs.Loops.{items_more}
use Rattle.gh_scopes.proofs.exports.with_items.Goals as goal

pub loop-one-preserved : goal.loop-one-preserved
loop-one-preserved c =
    items_more c.args.owners.now.summaries.now c.args.qualifiers.now.summary.now c.args.modules.now.once.now nothing c.args.listed.now c.loop-one.one-index c.one-item.result c.loop-one.given c.in_ok-given.given
    (omega arith) c.one-item.is c.loop-one.invariant c.in_ok-given.ensures
