use Rattle.std.proofs.Common.{◌≡◌, take}
use Rattle.gh_typeterm.proofs.decl.copy_constructors.Given as goal

abbrev pub invariant-loop-con : goal.invariant-loop-con
invariant-loop-con l = l.copy ≡ take l.con-index l.constructors
