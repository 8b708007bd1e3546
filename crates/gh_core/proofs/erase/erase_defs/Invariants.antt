use Rattle.std.proofs.Common.{◌≡◌, map, take}
use Rattle.gh_core.specs.Erase.{erased_def}
use Rattle.gh_core.proofs.erase.erase_defs.Given as goal

abbrev pub invariant-loop-def : goal.invariant-loop-def
invariant-loop-def l = l.made ≡ map erased_def (take l.def-index l.defs)
