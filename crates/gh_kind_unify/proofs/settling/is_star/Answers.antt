use Rattle.std.proofs.Common.{sym, ◌∙◌, subst}
use Rattle.gh_kind_unify.specs.declared.rules.Rule.TheVariants as rule
use Rattle.gh_kind_unify.specs.declared.settling.More.TheVariants as more
use Rattle.gh_kind_unify.specs.Settling.{Goes}
use Rattle.gh_kind_unify.proofs.Going.{star_free}
use Rattle.gh_kind_unify.proofs.settling.is_star.Goals as goal

pub returns-in-Free : goal.returns-in-Free
returns-in-Free c =
    subst (λ z. Goes c.args.cells.now z (rule.Star c.args.root) more.Nothing) (sym c.put.ensures)
    (star_free c.args.cells.now c.args.root c.requires.tidy c.requires.root (sym c.cell_at.ensures ∙ c.in-Free.is))
