-- The keys of names in tables.
use Rattle.std.specs.Prelude.{ℕ, suc, Bool, ◌&&◌, nat_eq, cond, Option, Some, None, List, [], ◌∷◌}
use Rattle.gh_base.specs.declared.place.Origin.{Origin}
use Rattle.gh_base.specs.declared.place.Space.{Space}
use Rattle.gh_base.specs.declared.place.Space.TheVariants.{Values, Types}
use Rattle.gh_base.specs.declared.place.TyCon.{TyCon}
use Rattle.gh_base.specs.declared.place.TyCon.TheVariants.{Named, Arrow, Int, Char, ConOf}
use Rattle.gh_core.specs.declared.terms.CoreName.{CoreName}
use Rattle.gh_core.specs.declared.terms.CoreName.TheVariants.{Plain, Hidden, Component, From, To, Bimap}
use Rattle.gh_core.specs.Reduce.{same_name}

abbrev pub OriginKey : Type 0
OriginKey = ℕ × (ℕ × ℕ)

abbrev pub ConKey : Type 0
ConKey = ℕ × OriginKey

abbrev pub space_number : Space → ℕ
space_number Values = 0
space_number Types = 1

abbrev pub no_origin : OriginKey
no_origin = (0, (0, 0))

abbrev pub no_con : ConKey
no_con = (0, no_origin)

abbrev pub origin_key : Origin → OriginKey
origin_key a = (a.«module».0, (space_number a.space, a.name.0))

abbrev pub con_key : TyCon → ConKey
con_key (Named a) = (0, origin_key a)
con_key Arrow = (1, no_origin)
con_key Int = (2, no_origin)
con_key Char = (3, no_origin)
con_key (ConOf a) = (4, origin_key a)

abbrev pub Key : Type 0
Key = ℕ × (OriginKey × ConKey)

abbrev pub key_of : CoreName → Key
key_of (Plain a) = (0, (origin_key a, no_con))
key_of (Hidden m n) = (1, ((m.0, (n, 0)), no_con))
key_of (Component a c) = (2, (origin_key a, con_key c))
key_of (From c) = (3, (no_origin, con_key c))
key_of (To c) = (4, (no_origin, con_key c))
key_of (Bimap c) = (5, (no_origin, con_key c))

abbrev pub same_numbers : ℕ × ℕ → ℕ × ℕ → Bool
same_numbers x y = nat_eq x.0 y.0 && nat_eq x.1 y.1

abbrev pub same_origin_key : OriginKey → OriginKey → Bool
same_origin_key x y = nat_eq x.0 y.0 && same_numbers x.1 y.1

abbrev pub same_con_key : ConKey → ConKey → Bool
same_con_key x y = nat_eq x.0 y.0 && same_origin_key x.1 y.1

abbrev pub same_parts : OriginKey × ConKey → OriginKey × ConKey → Bool
same_parts x y = same_origin_key x.0 y.0 && same_con_key x.1 y.1

abbrev pub same_key : Key → Key → Bool
same_key x y = nat_eq x.0 y.0 && same_parts x.1 y.1

-- the place of the first such name in a list whose places are counted from a number
abbrev pub first_from : ℕ → List CoreName → CoreName → Option ℕ
first_from i [] n = None
first_from i (m ∷ ms) n = cond (same_name m n) (Some i) (first_from (suc i) ms n)
