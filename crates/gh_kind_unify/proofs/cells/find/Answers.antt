use Rattle.std.proofs.Common.{sym, ◌∙◌}
use Rattle.gh_kind_unify.proofs.Holding.{find_next}
use Rattle.gh_kind_unify.proofs.cells.find.Goals as goal

pub up-preserved : goal.up-preserved
up-preserved c =
    let k = c.up.invariant in
    let n = find_next c.args.cells.now c.up.cells c.shorten.new.cells c.args.from c.up.at c.in-Link.up k.alike k.within k.value
    (sym c.cell_at.ensures ∙ c.in-Link.is) c.shorten.ensures in
    record { alike = n.0; within = n.1; value = n.2 }
