use Rattle.std.proofs.Common.{◌≡◌, map, take}
use Rattle.gh_core.specs.Typing.{def_name}
use Rattle.gh_core_lint.proofs.tables.def_names.Given as goal

abbrev pub invariant-loop-def : goal.invariant-loop-def
invariant-loop-def l = l.names ≡ map def_name (take l.def-index l.defs)
