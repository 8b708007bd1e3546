use Rattle.std.proofs.Common.{◌≡◌, drop}
use Rattle.gh_binders.proofs.binders.Binders.keep.Given as goal

abbrev pub invariant-loop-done : goal.invariant-loop-done
invariant-loop-done g l = l.self ≡ drop l.done l.initial.self
