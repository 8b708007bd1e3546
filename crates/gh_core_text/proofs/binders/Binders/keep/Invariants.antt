use Rattle.std.proofs.Common.{◌≡◌, ◌-◌, length}
use Rattle.std.specs.Prelude.{take}
use Rattle.gh_core_text.proofs.binders.Binders.keep.Given as goal

abbrev pub invariant-loop-done : goal.invariant-loop-done
invariant-loop-done l = l.self ≡ take (length l.initial.self - l.done) l.initial.self
