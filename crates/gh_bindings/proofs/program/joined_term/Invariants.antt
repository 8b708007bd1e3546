use Rattle.std.proofs.Common.{◌≡◌, drop}
use Rattle.gh_bindings.specs.Core.{joined_term}
use Rattle.gh_bindings.proofs.program.joined_term.Given as goal

abbrev pub invariant-loop-at : goal.invariant-loop-at
invariant-loop-at l = l.term ≡ joined_term (drop l.at l.operands)
