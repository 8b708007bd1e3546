use Rattle.std.proofs.Common.{◌≡◌, ◌++◌, ◌-◌, drop, length}
use Rattle.gh_binders.proofs.binders.enter.Given as goal

abbrev pub invariant-loop-done : goal.invariant-loop-done
invariant-loop-done l = l.binders ≡ drop (length l.added - l.done) l.added ++ l.initial.binders
