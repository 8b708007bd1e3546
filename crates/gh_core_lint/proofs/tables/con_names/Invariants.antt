use Rattle.std.proofs.Common.{◌≡◌, map, take}
use Rattle.gh_core_lint.specs.Tables.{ref_name}
use Rattle.gh_core_lint.proofs.tables.con_names.Given as goal

abbrev pub invariant-loop-place : goal.invariant-loop-place
invariant-loop-place l = l.names ≡ map ref_name (take l.place l.cons)
