use Rattle.std.proofs.Common.{◌↔◌, drop}
use Rattle.std.specs.Prelude.{Contains}
use Rattle.gh_outside.proofs.failing.is_listed.Given as goal

abbrev pub invariant-loop-at : goal.invariant-loop-at
invariant-loop-at l = Contains l.failing l.call ↔ Contains (drop l.at-index l.failing) l.call
