use Rattle.std.proofs.Common.{◌≡◌, true, replicate}
use Rattle.gh_struct_rep.proofs.injections.path_to.Given as goal

abbrev pub invariant-loop : goal.invariant-loop
invariant-loop l = l.path ≡ replicate l.counter true
