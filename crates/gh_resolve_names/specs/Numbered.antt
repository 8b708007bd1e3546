-- Numbers of definitions, by their origins.
use Rattle.std.specs.Prelude.{ℕ, Bool, ◌&&◌, nat_eq, cond, is_some, List, [], ◌∷◌, Option, Some, None}
use Rattle.gh_base.specs.declared.place.Origin.{Origin}
use Rattle.gh_base.specs.declared.place.Space.{Space}
use Rattle.gh_base.specs.declared.place.Space.TheVariants.{Values, Types}

-- what tells definitions apart: the module, the space, and the name
abbrev pub OriginKey : Type 0
OriginKey = ℕ × (ℕ × ℕ)

abbrev pub space_number : Space → ℕ
space_number Values = 0
space_number Types = 1

abbrev pub origin_key : Origin → OriginKey
origin_key a = (a.«module».0, (space_number a.space, a.name.0))

abbrev pub same_pair : ℕ × ℕ → ℕ × ℕ → Bool
same_pair x y = nat_eq x.0 y.0 && nat_eq x.1 y.1

abbrev pub same_key : OriginKey → OriginKey → Bool
same_key x y = nat_eq x.0 y.0 && same_pair x.1 y.1

abbrev pub Numbered : Type 0
Numbered = List (OriginKey × ℕ)

abbrev pub number_at : Numbered → OriginKey → Option ℕ
number_at [] k = None
number_at (n ∷ ns) k = cond (same_key n.0 k) (Some n.1) (number_at ns k)

-- the number of a definition, where it has one
abbrev pub number_of : Numbered → Origin → Option ℕ
number_of ns o = number_at ns (origin_key o)

abbrev pub is_among : Numbered → Origin → Bool
is_among ns o = is_some (number_of ns o)
