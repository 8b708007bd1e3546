use Rattle.std.proofs.Common.{◌≡◌, length}
use Rattle.gh_layout.specs.Entries.{lowest, or_else}
use Rattle.gh_layout.proofs.layout.lowest_open.Given as goal

abbrev pub invariant-loop-entry : goal.invariant-loop-entry
invariant-loop-entry l = lowest l.initial.stack ≡ or_else (lowest l.stack) l.found

abbrev pub decreases-loop-entry : goal.decreases-loop-entry
decreases-loop-entry l = length l.stack
