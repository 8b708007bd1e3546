use Rattle.std.proofs.Common.{take}
use Rattle.gh_scopes.specs.Tables.{IsPicked}
use Rattle.gh_scopes.proofs.picked.set_of.Given as goal

abbrev pub invariant-loop-origin : goal.invariant-loop-origin
invariant-loop-origin l = IsPicked l.set (take l.origin-index l.origins)
