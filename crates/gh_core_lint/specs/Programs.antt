-- The program of the tables.
use Rattle.std.specs.Prelude.{◌≡◌, map, Option, Some, None}
use Rattle.gh_core.specs.declared.terms.CoreProgram.{CoreProgram}
use Rattle.gh_core.specs.Typing.{Program, known, AreDifferent, NamesDiffer, all_cons, decl_origin, def_name}
use Rattle.gh_core_lint.specs.declared.known.Known.{Known}
use Rattle.gh_core_lint.specs.Tables.{zipped}
use Rattle.gh_core_lint.specs.Types.{type_at}

abbrev pub program_of : Known → Program
program_of k = record { decls = k.decls.now; globals = zipped k.globals (map type_at k.types) }

-- no name is doubled
abbrev pub AreApart : CoreProgram → Type 0
AreApart p = AreDifferent (map decl_origin p.decls) × AreDifferent (all_cons p.decls) × NamesDiffer (map def_name p.defs)

abbrev pub IsKnown : CoreProgram → Option Known → Type 0
IsKnown p None = AreApart p → ⊥
IsKnown p (Some k) = (program_of k ≡ known p) × AreApart p
