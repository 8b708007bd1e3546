use Rattle.std.proofs.Common.{◌≡◌, take}
use Rattle.gh_core.specs.Erase.{newtypes_of}
use Rattle.gh_core.proofs.erase.newtypes.Given as goal

abbrev pub invariant-loop-decl : goal.invariant-loop-decl
invariant-loop-decl l = l.made ≡ newtypes_of (take l.decl-index l.decls)
