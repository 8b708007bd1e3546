use Rattle.std.proofs.Common.{◌≤◌, map, drop, length}
use Rattle.gh_core.specs.Typing.{paired}
use Rattle.gh_core_lint.specs.Bound.{Adds}
use Rattle.gh_core_lint.specs.Types.{type_at}
use Rattle.gh_core_lint.proofs.scope.bind_names.Given as goal

abbrev pub invariant-loop-left : goal.invariant-loop-left
invariant-loop-left l = record {
  within : l.left ≤ length l.names;
  bound : Adds (paired (drop l.left l.names) (drop l.left (map type_at l.types))) l.initial.vars l.vars;
}

abbrev pub decreases-loop-left : goal.decreases-loop-left
decreases-loop-left l = l.left
