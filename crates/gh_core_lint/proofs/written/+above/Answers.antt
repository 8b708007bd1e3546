use Rattle.std.proofs.Common.{sym, ap, subst, ◌∙◌, arith}
use Rattle.gh_core_lint.specs.Types.{type_at}
use Rattle.gh_core_lint.specs.Written.{AllBelow}
use Rattle.gh_core_lint.proofs.Leveled.{below_more}
use Rattle.gh_core_lint.proofs.Nodes.{at-App}
use Rattle.gh_core_lint.proofs.written.+above.Goals as goal

pub returns-in_ok-x-in-App : goal.returns-in_ok-x-in-App
returns-in_ok-x-in-App t c =
    let f = c.in-App.f in
    let x = c.in-App.x in
    let n = c.greater.result in
    let is = c.greater.ensures in
    subst (AllBelow n) (sym (ap type_at (sym c.get.ensures ∙ c.in-App.is) ∙ at-App f x)) (
      below_more c.in_ok-f-in-App.f n (type_at f) (omega arith) c.in_ok-f-in-App.ensures,
      below_more c.in_ok-x-in-App.x n (type_at x) (omega arith) c.in_ok-x-in-App.ensures,
    )
