-- The names of a program in tables.
use Rattle.std.specs.Prelude.{◌≡◌, cond, List, [], ◌∷◌, ◌++◌, Option, Some, None}
use Rattle.gh_typeterm.specs.declared.decl.DeclCon.{DeclCon}
use Rattle.gh_typeterm.specs.declared.decl.DeclData.{DeclData}
use Rattle.gh_core.specs.declared.terms.CoreName.{CoreName}
use Rattle.gh_core.specs.declared.terms.CoreName.TheVariants.{Plain}
use Rattle.gh_core.specs.Reduce.{same_name}
use Rattle.gh_core.specs.declared.terms.Def.{Def}
use Rattle.gh_core.specs.SameType.{Nameless}
use Rattle.gh_core.specs.Typing.{Globals, NamesDiffer, placed, type_of}
use denote.Bor.{Bor}

-- a table has these names, or one of them is doubled and there is none
abbrev pub IsIndex : List CoreName → Option (List CoreName) → Type 0
IsIndex names None = NamesDiffer names → ⊥
IsIndex names (Some index) = (index ≡ names) × NamesDiffer names

abbrev pub decl_name : DeclData → CoreName
decl_name d = Plain d.origin

-- the constructors of datatypes, each with its datatype
abbrev pub cons_with : DeclData → List DeclCon → List (DeclData × DeclCon)
cons_with d [] = []
cons_with d (c ∷ cs) = (d, c) ∷ cons_with d cs

abbrev pub flat : List DeclData → List (DeclData × DeclCon)
flat [] = []
flat (d ∷ ds) = cons_with d d.constructors ++ flat ds

abbrev pub pair_name : DeclData × DeclCon → CoreName
pair_name q = Plain q.1.origin

abbrev pub pair_at : Bor DeclData × Bor DeclCon → DeclData × DeclCon
pair_at r = (r.0.now, r.1.now)

abbrev pub ref_name : Bor DeclData × Bor DeclCon → CoreName
ref_name r = Plain r.1.now.origin

abbrev pub def_type : Def → Nameless
def_type d = placed [] (type_of d.ty)

abbrev pub zipped : List CoreName → List Nameless → Globals
zipped [] ts = []
zipped (n ∷ ns) [] = []
zipped (n ∷ ns) (t ∷ ts) = (n, t) ∷ zipped ns ts

-- the first item of a list with this name
abbrev pub find_by : {X : Type 0} → (X → CoreName) → List X → CoreName → Option X
find_by f [] n = None
find_by f (x ∷ xs) n = cond (same_name (f x) n) (Some x) (find_by f xs n)
