use Rattle.std.proofs.Common.{◌≡◌, drop}
use Rattle.gh_fixity.specs.Fixities.{with_locals}
use Rattle.gh_fixity.proofs.scope.bind_all.Given as goal

abbrev pub invariant-loop-op : goal.invariant-loop-op
invariant-loop-op l = with_locals l.fixity l.fn.locals l.ops ≡ with_locals l.fixity l.locals (drop l.op-index l.ops)
