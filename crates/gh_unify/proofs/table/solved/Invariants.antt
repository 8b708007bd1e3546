use Rattle.std.proofs.Common.{◌≡◌, take, map}
use Rattle.gh_unify.specs.Tables.{replaced}
use Rattle.gh_unify.proofs.table.solved.Given as goal

abbrev pub invariant-loop-variable : goal.invariant-loop-variable
invariant-loop-variable l = l.made.items ≡ map (replaced l.by) (take l.variable-index l.kept)
