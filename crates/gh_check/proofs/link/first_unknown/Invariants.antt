use Rattle.std.proofs.Common.{◌≡◌, drop}
use Rattle.gh_check.specs.Scope.{first_unknown}
use Rattle.gh_check.proofs.link.first_unknown.Given as goal

abbrev pub invariant-loop-binding : goal.invariant-loop-binding
invariant-loop-binding l = first_unknown l.bindings l.bindings ≡ first_unknown l.bindings (drop l.binding-index l.bindings)
