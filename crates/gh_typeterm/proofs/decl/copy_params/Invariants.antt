use Rattle.std.proofs.Common.{◌≡◌, take}
use Rattle.gh_typeterm.proofs.decl.copy_params.Given as goal

abbrev pub invariant-loop-kind : goal.invariant-loop-kind
invariant-loop-kind l = l.copy ≡ take l.kind-index l.params
