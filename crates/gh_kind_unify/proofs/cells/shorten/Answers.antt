use Rattle.std.proofs.Common.{sym, ◌∙◌}
use Rattle.gh_kind_unify.proofs.Holding.{shorter}
use Rattle.gh_kind_unify.proofs.cells.shorten.Goals as goal

pub returns-in-Link : goal.returns-in-Link
returns-in-Link c =
    shorter c.args.cells.now c.put.new.cells c.args.at c.args.up c.in-Link.top c.requires.tidy c.requires.at c.requires.link
    (sym c.cell_at.ensures ∙ c.in-Link.is) c.put.ensures
