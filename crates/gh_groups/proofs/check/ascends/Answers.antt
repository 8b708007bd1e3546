use Rattle.std.proofs.Common.{arith}
use Rattle.gh_groups.proofs.Checks.{ascends_from}
use Rattle.gh_groups.proofs.check.ascends.Goals as goal

pub returns : goal.returns
returns c = λ t. ascends_from c.args.group.now (λ k l. c.loop-at.invariant k (omega arith))
