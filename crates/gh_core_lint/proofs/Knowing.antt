-- The tables of a program.
use Rattle.std.proofs.Common.{◌≡◌, List, [], ◌∷◌, map, length, Option, Some, None, refl, sym, ap, subst, ◌∙◌}
use Rattle.std.proofs.lemmas.List.{length-map}
use Rattle.gh_typeterm.specs.declared.decl.DeclCon.{DeclCon}
use Rattle.gh_typeterm.specs.declared.decl.DeclData.{DeclData}
use Rattle.gh_core.specs.declared.terms.CoreName.{CoreName}
use Rattle.gh_core.specs.declared.terms.CoreProgram.{CoreProgram}
use Rattle.gh_core.specs.declared.terms.Def.{Def}
use Rattle.gh_core.specs.Typing.{Program, known, NamesDiffer, all_cons, decl_origin, def_name}
use Rattle.gh_core_lint.specs.declared.types.Node.{Node}
use Rattle.gh_core_lint.specs.Programs.{AreApart}
use Rattle.gh_core_lint.specs.Tables.{IsIndex, decl_name, pair_name, pair_at, ref_name, flat, def_type, zipped}
use Rattle.gh_core_lint.specs.Types.{type_at}
use Rattle.gh_core_lint.proofs.Names.{to_names, to_origins, decl_names_are, con_names_are, globals_are}
use denote.Bor.{Bor}

-- a table that is there, and one that is not
pub index_is : (names index : List CoreName) (o : Option (List CoreName)) → IsIndex names o → o ≡ Some index → (index ≡ names) × NamesDiffer names
index_is names index o h e = subst (IsIndex names) e h

no_index : (names : List CoreName) (o : Option (List CoreName)) → IsIndex names o → o ≡ None → NamesDiffer names → ⊥
no_index names o h e = subst (IsIndex names) e h

pub refs_are : (cons : List (Bor DeclData × Bor DeclCon)) → map ref_name cons ≡ map pair_name (map pair_at cons)
refs_are [] = refl
refs_are (r ∷ rs) = ap (λ l. ref_name r ∷ l) (refs_are rs)

pub data_doubled : (p : CoreProgram) (names : List CoreName) (o : Option (List CoreName)) → names ≡ map decl_name p.decls → IsIndex names o → o ≡ None → AreApart p → ⊥
data_doubled p names o is h e a = no_index names o h e (subst NamesDiffer (decl_names_are p.decls ∙ sym is) (to_names (map decl_origin p.decls) a.0))

pub cons_doubled : (p : CoreProgram) (names : List CoreName) (o : Option (List CoreName)) → names ≡ map pair_name (flat p.decls) → IsIndex names o → o ≡ None → AreApart p → ⊥
cons_doubled p names o is h e a = no_index names o h e (subst NamesDiffer (con_names_are p.decls ∙ sym is) (to_names (all_cons p.decls) a.1))

pub many_are : (types : List Node) (defs : List Def) (globals : List CoreName) → map type_at types ≡ map def_type defs → globals ≡ map def_name defs → length types ≡ length globals
many_are types defs globals h g =
    sym (length-map types type_at) ∙ ap length h ∙ length-map defs def_type ∙ sym (length-map defs def_name) ∙ ap length (sym g)

pub known_made : (p : CoreProgram) (decls : List DeclData) (globals : List CoreName) (types : List Node) → decls ≡ p.decls → globals ≡ map def_name p.defs → map type_at types ≡ map def_type p.defs
    → ◌≡◌ {A = Program} (record { decls = decls; globals = zipped globals (map type_at types) }) (known p)
known_made p decls globals types d g t =
    let all = (λ i. zipped (g i) (t i)) ∙ globals_are p.defs in
    λ i. record { decls = d i; globals = all i }

pub apart_made : (p : CoreProgram) (datas cons globals : List CoreName) → datas ≡ map decl_name p.decls → cons ≡ map pair_name (flat p.decls) → globals ≡ map def_name p.defs
    → NamesDiffer datas → NamesDiffer cons → NamesDiffer globals → AreApart p
apart_made p datas cons globals d c g hd hc hg = (
  to_origins (map decl_origin p.decls) (subst NamesDiffer (d ∙ sym (decl_names_are p.decls)) hd),
  to_origins (all_cons p.decls) (subst NamesDiffer (c ∙ sym (con_names_are p.decls)) hc),
  subst NamesDiffer g hg,
)
