use Rattle.gh_kind_unify.proofs.Going.{goes_applies}
use Rattle.gh_kind_unify.proofs.settling.settle_applies.Goals as goal

pub returns : goal.returns
returns c =
    goes_applies c.args.cells.now c.find-root.new.cells c.applies.new.cells c.args.f c.find-root.result c.args.x c.args.r c.applies.result
    c.find-root.ensures.alike c.find-root.ensures.value c.applies.ensures
