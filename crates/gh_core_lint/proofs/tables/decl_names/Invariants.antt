use Rattle.std.proofs.Common.{◌≡◌, map, take}
use Rattle.gh_core_lint.specs.Tables.{decl_name}
use Rattle.gh_core_lint.proofs.tables.decl_names.Given as goal

abbrev pub invariant-loop-decl : goal.invariant-loop-decl
invariant-loop-decl l = l.names ≡ map decl_name (take l.decl-index l.decls)
