use Rattle.std.proofs.Common.{◌≡◌, map, take}
use Rattle.gh_core_lint.specs.Tables.{flat, pair_at}
use Rattle.gh_core_lint.proofs.tables.all_cons.Given as goal

abbrev pub invariant-loop-decl : goal.invariant-loop-decl
invariant-loop-decl l = map pair_at l.list ≡ flat (take l.decl-index l.decls)
