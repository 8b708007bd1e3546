use Rattle.std.proofs.Common.{◌≡◌, drop}
use Rattle.gh_fixity.specs.Programs.{items_tops}
use Rattle.gh_fixity.proofs.all.declare_tops.Given as goal

abbrev pub invariant-loop-item : goal.invariant-loop-item
invariant-loop-item l = items_tops l.fn.tops l.items ≡ items_tops l.tops (drop l.item-index l.items)
