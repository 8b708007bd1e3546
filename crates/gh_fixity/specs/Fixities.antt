-- The fixities that are in force at a place (Haskell 98 Report, 4.4.2): those of the names defined at the top of a module,
-- by what they are, and those of local names, by their number.
use Rattle.std.specs.Prelude.{ℕ, min, Bool, ◌==◌, ◌&&◌, nat_eq, cond, List, [], ◌∷◌, Option, Some, None}
use Rattle.gh_base.specs.declared.place.Origin.{Origin}
use Rattle.gh_base.specs.declared.place.Space.{Space}
use Rattle.gh_base.specs.declared.place.Space.TheVariants.{Values, Types}
use Rattle.gh_program.specs.declared.names.Occurrence.{Occurrence}
use Rattle.gh_program.specs.declared.names.Referent.{Referent}
use Rattle.gh_program.specs.declared.names.Referent.TheVariants as referent
use Rattle.gh_program.specs.declared.names.FixityWord.{FixityWord}
use Rattle.gh_program.specs.declared.names.FixityWord.TheVariants as word
use Rattle.gh_fixity.specs.declared.item.Side.{Side}
use Rattle.gh_fixity.specs.declared.item.Side.TheVariants.{Left, Right, Neither}
use Rattle.gh_fixity.specs.declared.item.Fixity.{Fixity}
use Rattle.gh_fixity.specs.Scopes.{Binds, item_of}

-- what tells the names at the top of modules apart: the module, the space, and the name
abbrev pub OriginKey : Type 0
OriginKey = ℕ × (ℕ × ℕ)

abbrev pub space_number : Space → ℕ
space_number Values = 0
space_number Types = 1

abbrev pub origin_key : Origin → OriginKey
origin_key a = (a.«module».0, (space_number a.space, a.name.0))

abbrev pub same_pair : ℕ × ℕ → ℕ × ℕ → Bool
same_pair x y = nat_eq x.0 y.0 && nat_eq x.1 y.1

abbrev pub same_key : OriginKey → OriginKey → Bool
same_key x y = nat_eq x.0 y.0 && same_pair x.1 y.1

-- the fixities of names at the top of modules, the last declaration first
abbrev pub TopFixities : Type 0
TopFixities = List (OriginKey × Fixity)

abbrev pub top_fixity : TopFixities → OriginKey → Option Fixity
top_fixity [] k = None
top_fixity (t ∷ ts) k = cond (same_key t.0 k) (Some t.1) (top_fixity ts k)

-- the fixities of local names, the nearest declaration first
abbrev pub LocalFixities : Type 0
LocalFixities = Binds Fixity

-- without a declaration
abbrev pub default_fixity : Fixity
default_fixity = record { side = Left; level = 9 }

abbrev pub colon_fixity : Fixity
colon_fixity = record { side = Right; level = 5 }

abbrev pub declared_or_default : Option Fixity → Fixity
declared_or_default None = default_fixity
declared_or_default (Some f) = f

abbrev pub referent_fixity : TopFixities → LocalFixities → Referent → Fixity
referent_fixity ts ls (referent.Top o) = declared_or_default (top_fixity ts (origin_key o))
referent_fixity ts ls (referent.Local n) = declared_or_default (item_of ls n)

-- the number of `:`, which always is the constructor of lists
abbrev pub colon : ℕ
colon = 23

-- the fixity of an operator: `:` is right-associative at level 5, and another has that of the declaration of what it stands for
abbrev pub fixity_of : TopFixities → LocalFixities → Occurrence → Fixity
fixity_of ts ls o = cond (o.name.0 == colon) colon_fixity (referent_fixity ts ls o.referent)

abbrev pub side_of : FixityWord → Side
side_of word.Left = Left
side_of word.Right = Right
side_of word.Neither = Neither

-- the greatest level is 9
abbrev pub level_of : ℕ → ℕ
level_of n = min n 9

abbrev pub written_fixity : FixityWord → ℕ → Fixity
written_fixity w n = record { side = side_of w; level = level_of n }

-- the local names of a fixity declaration
abbrev pub with_local : Fixity → LocalFixities → Referent → LocalFixities
with_local f ls (referent.Top o) = ls
with_local f ls (referent.Local n) = (n, f) ∷ ls

abbrev pub with_locals : Fixity → LocalFixities → List Occurrence → LocalFixities
with_locals f ls [] = ls
with_locals f ls (o ∷ os) = with_locals f (with_local f ls o.referent) os

-- its names at the top of a module
abbrev pub with_top : Fixity → TopFixities → Referent → TopFixities
with_top f ts (referent.Top o) = (origin_key o, f) ∷ ts
with_top f ts (referent.Local n) = ts

abbrev pub with_tops : Fixity → TopFixities → List Occurrence → TopFixities
with_tops f ts [] = ts
with_tops f ts (o ∷ os) = with_tops f (with_top f ts o.referent) os
