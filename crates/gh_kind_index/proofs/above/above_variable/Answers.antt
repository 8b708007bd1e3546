use Rattle.std.proofs.Common.{ap, ◌∙◌, sym, cond, suc, ◌≡◌, ◌+◌, arith, IfOk}
use Rattle.gh_kind_index.specs.Binders.{names_of}
use Rattle.gh_kind_index.proofs.Finish.{if_ok}
use Rattle.gh_kind_index.proofs.Steps.{above_var}
use Rattle.gh_kind_index.proofs.above.above_variable.Goals as goal

pub returns-then-is_bound : goal.returns-then-is_bound
returns-then-is_bound c =
    sym (above_var (names_of c.args.round.now) c.args.x ∙ ap (λ b. cond b 0 (suc c.args.x)) (sym c.is_bound.ensures ∙ c.if-is_bound.true))

pub returns : goal.returns
returns c =
    let one : suc c.args.x ≡ c.args.x + 1 = omega arith in
    let is = above_var (names_of c.args.round.now) c.args.x ∙ ap (λ b. cond b 0 (suc c.args.x)) (sym c.is_bound.ensures ∙ c.if-is_bound.false) ∙ one in
    if_ok c.raised.result _ _ (λ l e. e ∙ sym is) c.raised.ensures
