use Rattle.std.proofs.Common.{◌≡◌, drop}
use Rattle.gh_check.specs.Scope.{first_in}
use Rattle.gh_check.proofs.link.first_in.Given as goal

abbrev pub invariant-loop-operand : goal.invariant-loop-operand
invariant-loop-operand l = first_in l.bindings l.operands ≡ first_in l.bindings (drop l.operand-index l.operands)
