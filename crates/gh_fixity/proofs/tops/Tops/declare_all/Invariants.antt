use Rattle.std.proofs.Common.{◌≡◌, drop}
use Rattle.gh_fixity.specs.Fixities.{with_tops}
use Rattle.gh_fixity.proofs.tops.Tops.declare_all.Given as goal

abbrev pub invariant-loop-op : goal.invariant-loop-op
invariant-loop-op l = with_tops l.fixity l.fn.self l.ops ≡ with_tops l.fixity l.self (drop l.op-index l.ops)
