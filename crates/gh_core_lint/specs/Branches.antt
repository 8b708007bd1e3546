-- Alternatives and bindings as branches and bindings of the plain tree.
use Rattle.std.specs.Prelude.{◌≡◌, ℕ, List, map, Option, Some, None}
use Rattle.gh_base.specs.declared.place.Origin.{Origin}
use Rattle.gh_typeterm.specs.declared.decl.DeclCon.{DeclCon}
use Rattle.gh_typeterm.specs.declared.decl.DeclData.{DeclData}
use Rattle.gh_core.specs.declared.types.CoreType.{CoreType}
use Rattle.gh_core.specs.declared.terms.CoreTerm.{CoreTerm}
use Rattle.gh_core.specs.declared.terms.CoreAlt.{CoreAlt, fold-CoreAlt}
use Rattle.gh_core.specs.SameType.{Nameless}
use Rattle.gh_core.specs.Typing.{Branch, Code, Program, branch_step, code_step, code_of, con_of, IsData}
use Rattle.gh_core_lint.specs.declared.types.Node.{Node}
use Rattle.gh_core_lint.specs.Types.{type_at}
use denote.Bor.{Bor}

abbrev pub alt_code : CoreAlt → Branch
alt_code = fold-CoreAlt Branch Code branch_step code_step

abbrev pub binding_code : ℕ × CoreType × CoreTerm → ℕ × CoreType × Code
binding_code b = (b.0, b.1, code_of b.2)

-- the datatype and the constructor of a branch with the types of the scrutinee, or none
abbrev pub IsChosen : Program → Nameless → Origin → Option (Bor DeclData × Bor DeclCon × Bor (List Node)) → Type 0
IsChosen p s c None = (q : DeclData × DeclCon) (ts : List Nameless) → con_of p.decls c ≡ Some q → IsData p.decls s q.0 ts → ⊥
IsChosen p s c (Some e) = (con_of p.decls c ≡ Some (e.0.now, e.1.now)) × IsData p.decls s e.0.now (map type_at e.2.now)

abbrev pub tallied : Option ℕ → ℕ
tallied None = 0
tallied (Some n) = n
