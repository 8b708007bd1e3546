use Rattle.std.proofs.Common.{ℕ, ◌<◌}
use Rattle.gh_unify.specs.Steps.{Stays}
use Rattle.gh_unify.proofs.unifier.escape.Given as goal

abbrev pub invariant-loop-number : goal.invariant-loop-number
invariant-loop-number l = (v : ℕ) → v < l.number → Stays l.fn.kept v
