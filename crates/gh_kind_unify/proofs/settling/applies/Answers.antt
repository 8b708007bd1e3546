use Rattle.std.proofs.Common.{sym, ◌∙◌, subst}
use Rattle.gh_kind_unify.specs.declared.rules.Rule.TheVariants as rule
use Rattle.gh_kind_unify.specs.declared.settling.More.TheVariants as more
use Rattle.gh_kind_unify.specs.Settling.{Goes}
use Rattle.gh_kind_unify.proofs.Going.{applies_free}
use Rattle.gh_kind_unify.proofs.settling.applies.Goals as goal

pub returns-in-Free : goal.returns-in-Free
returns-in-Free c =
    let below = c.requires.below in
    subst (λ z. Goes c.args.cells.now z (rule.Applies c.args.root c.args.x c.args.r) more.Nothing) (sym c.put.ensures)
    (applies_free c.args.cells.now c.args.root c.args.x c.args.r c.requires.tidy below.0 below.1 below.2 (sym c.cell_at.ensures ∙ c.in-Free.is))
