use Rattle.std.proofs.Common.{◌∙◌, arith}
use Rattle.gh_core_lint.specs.Written.{numbered_from}
use Rattle.gh_core.proofs.Nameless.{nameless-Var}
use Rattle.gh_core_lint.proofs.Leveled.{var_bound}
use Rattle.gh_core_lint.proofs.written.write_bound.Goals as goal

pub returns-in_ok-narrow : goal.returns-in_ok-narrow
returns-in_ok-narrow c =
    let x = c.in_ok-narrow.field-0 in
    let is = c.in_ok-narrow.ensures in
    let at = c.in_ok-plus.ensures in
    let lt = c.if-index-depth.true in
    nameless-Var x (numbered_from c.args.base c.args.depth) ∙ var_bound c.args.base c.args.depth c.args.index x lt (omega arith)
