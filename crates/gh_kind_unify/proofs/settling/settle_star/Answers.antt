use Rattle.gh_kind_unify.proofs.Going.{goes_star}
use Rattle.gh_kind_unify.proofs.settling.settle_star.Goals as goal

pub returns : goal.returns
returns c =
    goes_star c.args.cells.now c.find-root.new.cells c.is_star.new.cells c.args.v c.find-root.result c.is_star.result
    c.find-root.ensures.alike c.find-root.ensures.value c.is_star.ensures
