use Rattle.std.proofs.Common.{ap, ◌∙◌, arith}
use Rattle.gh_core.specs.SameType.{free}
use Rattle.gh_core_lint.specs.Written.{numbered_from}
use Rattle.gh_core.proofs.Nameless.{nameless-Var}
use Rattle.gh_core_lint.proofs.Leveled.{var_free}
use Rattle.gh_core_lint.proofs.written.write_free.Goals as goal

pub returns : goal.returns
returns c =
    let x = c.in_ok-narrow.field-0 in
    let is = c.in_ok-narrow.ensures in
    nameless-Var x (numbered_from c.args.base c.args.depth) ∙ var_free c.args.base c.args.depth x (let lt = c.requires in omega arith) ∙ ap free is
