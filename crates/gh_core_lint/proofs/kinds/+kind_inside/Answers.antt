use Rattle.gh_core_lint.proofs.Kinding.{param_found, param_missed}
use Rattle.gh_core_lint.proofs.kinds.+kind_inside.Goals as goal

pub returns-in_ok-copy_kind-in-Params : goal.returns-in_ok-copy_kind-in-Params
returns-in_ok-copy_kind-in-Params t c =
    param_found c.args.inner.now c.in-Params.kinds c.args.index c.index-kinds-kinds.result c.in_ok-copy_kind-in-Params.field-0 c.in-Params.is
    c.if-index-kinds.true c.in_ok-copy_kind-in-Params.ensures

pub returns-else-index-kinds : goal.returns-else-index-kinds
returns-else-index-kinds t c = param_missed c.args.inner.now c.in-Params.kinds c.args.index c.in-Params.is c.if-index-kinds.false
