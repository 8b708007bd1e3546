use Rattle.std.proofs.Common.{◌≡◌, ◌++◌, map, take}
use Rattle.gh_core.specs.Erase.{constructor_name}
use Rattle.gh_core.proofs.erase.add_newtype.Given as goal

abbrev pub invariant-loop-con : goal.invariant-loop-con
invariant-loop-con l = l.made ≡ l.initial.made ++ map constructor_name (take l.con-index l.con-items)
