use Rattle.gh_unify.proofs.Levels.{lowered, lowered_not}
use Rattle.gh_unify.proofs.unifier.lower.Goals as goal

pub returns-then-holds : goal.returns-then-holds
returns-then-holds c =
    lowered c.args.kept.now c.args.number c.args.var c.args.least c.min.result c.index-kept-number.result c.holds.result c.requires c.holds.ensures c.if-holds.true c.min.ensures

pub returns : goal.returns
returns c =
    lowered_not c.args.kept.now c.args.number c.args.var c.args.least c.holds.result c.holds.ensures c.if-holds.false
