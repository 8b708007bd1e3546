use Rattle.std.proofs.Common.{◌≡◌, map, take}
use Rattle.gh_core_lint.specs.Bound.{binder_of}
use Rattle.gh_core_lint.proofs.scope.binders_of.Given as goal

abbrev pub invariant-loop-name : goal.invariant-loop-name
invariant-loop-name l = l.names ≡ map binder_of (take l.name-index l.bindings)
