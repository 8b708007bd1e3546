-- Datatypes applied to types.
use Rattle.std.specs.Prelude.{◌≡◌, ◌++◌, List, [], ◌∷◌, map, Option, Some, None}
use Rattle.gh_base.specs.declared.place.Origin.{Origin}
use Rattle.gh_base.specs.declared.place.TyCon.{TyCon}
use Rattle.gh_base.specs.declared.place.TyCon.TheVariants as tycon
use Rattle.gh_typeterm.specs.declared.decl.DeclData.{DeclData}
use Rattle.gh_core.specs.SameType.{Nameless, bound, free, con, applied, forall, any}
use Rattle.gh_core.specs.Typing.{IsData, IsScrutinee, int_type, char_type}
use Rattle.gh_core_lint.specs.declared.types.Node.{Node}
use Rattle.gh_core_lint.specs.declared.data.Sort.{Sort}
use Rattle.gh_core_lint.specs.declared.data.Sort.TheVariants.{Data, Int, Char, Other}
use Rattle.gh_core_lint.specs.Types.{type_at}
use denote.Bor.{Bor}

-- what is applied in a type, and to what
abbrev pub head_of : Nameless → Nameless
head_of (bound i) = bound i
head_of (free l) = free l
head_of (con c) = con c
head_of (applied f x) = head_of f
head_of (forall k b) = forall k b
head_of (any k) = any k

abbrev pub args_of : Nameless → List Nameless
args_of (bound i) = []
args_of (free l) = []
args_of (con c) = []
args_of (applied f x) = args_of f ++ x ∷ []
args_of (forall k b) = []
args_of (any k) = []

abbrev pub con_name : TyCon → Option Origin
con_name (tycon.Named o) = Some o
con_name tycon.Arrow = None
con_name tycon.Int = None
con_name tycon.Char = None
con_name (tycon.ConOf o) = None

abbrev pub named_head : Nameless → Option Origin
named_head (bound i) = None
named_head (free l) = None
named_head (con c) = con_name c
named_head (applied f x) = None
named_head (forall k b) = None
named_head (any k) = None

-- the datatype of a type with the types for its parameters, or none where it has none
abbrev pub AreArguments : List DeclData → Nameless → Option (Bor DeclData × List Node) → Type 0
AreArguments decls s None = (d : DeclData) (ts : List Nameless) → IsData decls s d ts → ⊥
AreArguments decls s (Some e) = IsData decls s e.0.now (map type_at e.1)

-- what a scrutinee of a type is
abbrev pub IsSeen : List DeclData → Nameless → Sort → Type 0
IsSeen decls s (Data d ts) = IsData decls s d.now (map type_at ts)
IsSeen decls s Int = s ≡ int_type
IsSeen decls s Char = s ≡ char_type
IsSeen decls s Other = IsScrutinee decls s → ⊥
