use Rattle.std.proofs.Common.{◌≡◌, None}
use Rattle.gh_unify.specs.Kept.{eqs_of}
use Rattle.gh_unify.specs.Levels.{IsLeast, IsReached}
use Rattle.gh_unify.proofs.unifier.least_level.Given as goal

abbrev pub invariant-loop-number : goal.invariant-loop-number
invariant-loop-number l = record {
  least : IsLeast l.kept l.var l.number l.least;
  reached : eqs_of l.kept l.var ≡ None → IsReached l.kept l.var l.least;
}
