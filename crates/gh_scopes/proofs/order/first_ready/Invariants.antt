use Rattle.std.proofs.Common.{◌≡◌, drop}
use Rattle.gh_scopes.specs.Order.{first_ready}
use Rattle.gh_scopes.proofs.order.first_ready.Given as goal

abbrev pub invariant-loop-file : goal.invariant-loop-file
invariant-loop-file l = first_ready l.done 0 l.graph ≡ first_ready l.done l.file (drop l.file l.graph)
