use Rattle.std.proofs.Common.{◌≡◌, map, take}
use Rattle.gh_core_lint.specs.Tables.{def_type}
use Rattle.gh_core_lint.specs.Types.{type_at}
use Rattle.gh_core_lint.proofs.tables.def_types.Given as goal

abbrev pub invariant-loop-def : goal.invariant-loop-def
invariant-loop-def l = map type_at l.types ≡ map def_type (take l.def-index l.defs)
