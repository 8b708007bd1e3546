use Rattle.std.proofs.Common.{sym, ◌∙◌, subst}
use Rattle.gh_kind_unify.specs.declared.rules.Rule.TheVariants as rule
use Rattle.gh_kind_unify.specs.declared.settling.More.TheVariants as more
use Rattle.gh_kind_unify.specs.Settling.{Goes}
use Rattle.gh_kind_unify.proofs.Going.{join_free, join_star, join_arrow}
use Rattle.gh_kind_unify.proofs.settling.join.Goals as goal

pub returns-in-Free : goal.returns-in-Free
returns-in-Free c =
    subst (λ z. Goes c.args.cells.now z (rule.Same c.args.low c.args.high) more.Nothing) (sym c.put.ensures)
    (join_free c.args.cells.now c.args.low c.args.high c.requires.tidy c.requires.order c.requires.high (sym c.cell_at-gone.ensures ∙ c.in-Free.is))

pub returns-in-Star : goal.returns-in-Star
returns-in-Star c =
    subst (λ z. Goes c.args.cells.now z (rule.Same c.args.low c.args.high) (more.One (rule.Star c.args.low))) (sym c.put.ensures)
    (join_star c.args.cells.now c.args.low c.args.high c.requires.tidy c.requires.order c.requires.high (sym c.cell_at-gone.ensures ∙ c.in-Star.is))

pub returns-in-Arrow : goal.returns-in-Arrow
returns-in-Arrow c =
    subst (λ z. Goes c.args.cells.now z (rule.Same c.args.low c.args.high) (more.One (rule.Applies c.args.low c.in-Arrow.a c.in-Arrow.b))) (sym c.put.ensures)
    (join_arrow c.args.cells.now c.args.low c.args.high c.in-Arrow.a c.in-Arrow.b c.requires.tidy c.requires.order c.requires.high
    (sym c.cell_at-gone.ensures ∙ c.in-Arrow.is))
