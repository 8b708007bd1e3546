use Rattle.std.proofs.Common.{subst, arith}
use Rattle.gh_scopes.specs.Gives.{Gives}
use Rattle.gh_scopes.specs.Linking.{with_file}
use Rattle.gh_scopes.proofs.Loops.{linked_fails}
use Rattle.gh_scopes.proofs.linking.along.Goals as goal

pub returns-in-Err : goal.returns-in-Err
returns-in-Err c =
    linked_fails c.args.owners.now.summaries.now c.loop-file.progress c.args.order.now c.loop-file.file-index 0 _ c.in-Err.fault (omega arith) c.loop-file.invariant
    (subst (Gives (with_file c.args.owners.now.summaries.now c.loop-file.progress _)) c.in-Err.is c.with_file.ensures)
