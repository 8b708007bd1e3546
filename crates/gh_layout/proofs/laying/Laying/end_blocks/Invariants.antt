use Rattle.std.proofs.Common.{◌≡◌, length}
use Rattle.gh_layout.specs.Layout.{blocks_ended}
use Rattle.gh_layout.proofs.laying.Laying.end_blocks.Given as goal

abbrev pub invariant-loop-block : goal.invariant-loop-block
invariant-loop-block l = blocks_ended l.ending l.place l.initial.self ≡ blocks_ended l.ending l.place l.self

abbrev pub decreases-loop-block : goal.decreases-loop-block
decreases-loop-block l = length l.self.stack
