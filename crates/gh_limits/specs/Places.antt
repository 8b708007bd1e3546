-- What is counted, how many of it are allowed, and the order in which limits are told.
use Rattle.std.specs.Prelude.{ℕ, min, nat_lt, if◌then◌else◌, List, [], ◌∷◌, ◌++◌, Option, slice_get}
use Rattle.gh_base.specs.declared.refusal.Limit.{Limit}
use Rattle.gh_base.specs.declared.refusal.Limit.TheVariants.{Parameters, Dependencies, Constructors, Fields, Arguments, Bindings, Clauses}

-- so many of the things that a limit counts, at one place of a tree
pub record Count : Type 0 where
  pub which : Limit
  pub many : ℕ

abbrev pub count : Limit → ℕ → Count
count which many = record { which = which; many = many }

-- the limits in the order in which they are told
abbrev pub table : List Limit
table = Parameters ∷ Dependencies ∷ Constructors ∷ Fields ∷ Arguments ∷ Bindings ∷ Clauses ∷ []

-- how many are allowed
abbrev pub number_of : Limit → ℕ
number_of Parameters = 8
number_of Dependencies = 8
number_of Constructors = 128
number_of Fields = 16
number_of Arguments = 16
number_of Bindings = 64
number_of Clauses = 1000

-- where a limit stands in the table
abbrev pub place_of : Limit → ℕ
place_of Parameters = 0
place_of Dependencies = 1
place_of Constructors = 2
place_of Fields = 3
place_of Arguments = 4
place_of Bindings = 5
place_of Clauses = 6

-- the place of a limit that so many pass, and the table's end where they do not
unfoldable pub place : Limit → ℕ → ℕ
place which many = if nat_lt (number_of which) many then place_of which else 7

-- the place of the first limit in the table that some count passes
abbrev pub first_place : List Count → ℕ
first_place [] = 7
first_place (c ∷ cs) = min (place c.which c.many) (first_place cs)

-- the limit at a place of the table, and none at its end
abbrev pub limit_at : ℕ → Option Limit
limit_at place = slice_get table place

abbrev pub all_of : List (List Count) → List Count
all_of [] = []
all_of (c ∷ cs) = c ++ all_of cs
