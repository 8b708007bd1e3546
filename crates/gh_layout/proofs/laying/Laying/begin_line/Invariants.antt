use Rattle.std.proofs.Common.{◌≡◌, length}
use Rattle.gh_layout.specs.Layout.{after_line}
use Rattle.gh_layout.proofs.laying.Laying.begin_line.Given as goal

abbrev pub invariant-loop-block : goal.invariant-loop-block
invariant-loop-block l = after_line l.column l.place l.initial.self ≡ after_line l.column l.place l.self

abbrev pub decreases-loop-block : goal.decreases-loop-block
decreases-loop-block l = length l.self.stack
