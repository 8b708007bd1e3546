use Rattle.std.proofs.Common.{◌≡◌, ◌++◌, map, take}
use Rattle.gh_core_lint.specs.Tables.{cons_with, pair_at}
use Rattle.gh_core_lint.proofs.tables.add_cons.Given as goal

abbrev pub invariant-loop-con : goal.invariant-loop-con
invariant-loop-con l = map pair_at l.list ≡ map pair_at l.initial.list ++ cons_with l.decl (take l.con-index l.con-items)
