use Rattle.std.proofs.Common.{◌≡◌, ◌≤◌, length, drop}
use Rattle.gh_core.specs.Typing.{arrow_kinds}
use Rattle.gh_core_lint.proofs.kinds.params_kind.Given as goal

abbrev pub invariant-loop-left : goal.invariant-loop-left
invariant-loop-left l = record {
  within : l.left ≤ length l.params;
  made : l.made ≡ arrow_kinds (drop l.left l.params);
}

abbrev pub decreases-loop-left : goal.decreases-loop-left
decreases-loop-left l = l.left
