use Rattle.std.proofs.Common.{◌≡◌, None, drop}
use Rattle.gh_declarations.specs.Tops.{first_of}
use Rattle.gh_declarations.proofs.first.first_of.Given as goal

abbrev pub invariant-loop-failure : goal.invariant-loop-failure
invariant-loop-failure l = first_of None l.failures ≡ first_of l.found (drop l.failure-index l.failures)
