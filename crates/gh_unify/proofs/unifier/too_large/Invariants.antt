use Rattle.std.proofs.Common.{ℕ, ◌<◌, ◌≤◌}
use Rattle.gh_unify.specs.Types.{nodes}
use Rattle.gh_unify.specs.Kept.{eqs_of}
use Rattle.gh_unify.specs.Tables.{best}
use Rattle.gh_unify.proofs.unifier.too_large.Given as goal

abbrev pub invariant-loop-number : goal.invariant-loop-number
invariant-loop-number l = (v : ℕ) → v < l.number → nodes (best (eqs_of l.fn.kept) v) ≤ 1000
