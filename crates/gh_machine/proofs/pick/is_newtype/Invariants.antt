use Rattle.std.proofs.Common.{◌≡◌, drop}
use Rattle.gh_core.specs.Reduce.{is_newtype}
use Rattle.gh_machine.proofs.pick.is_newtype.Given as goal

abbrev pub invariant-loop-newtype : goal.invariant-loop-newtype
invariant-loop-newtype l = is_newtype l.newtypes l.con ≡ is_newtype (drop l.newtype-index l.newtypes) l.con
