-- What tells entries and names apart.
use Rattle.std.specs.Prelude.{ℕ, Bool, ◌&&◌, nat_eq, Option, Some, None}
use Rattle.gh_base.specs.declared.names.NameId.{NameId}
use Rattle.gh_base.specs.declared.place.Origin.{Origin}
use Rattle.gh_base.specs.declared.place.Space.{Space}
use Rattle.gh_base.specs.declared.place.Space.TheVariants.{Values, Types}
use Rattle.gh_scopes.specs.declared.types.ScopeEntry.{ScopeEntry}

-- a qualifier's kind and number, a module, a space and a name
abbrev pub Key : Type 0
Key = ℕ × (ℕ × (ℕ × (ℕ × ℕ)))

abbrev pub same_two : ℕ × ℕ → ℕ × ℕ → Bool
same_two x y = nat_eq x.0 y.0 && nat_eq x.1 y.1

abbrev pub same_three : ℕ × (ℕ × ℕ) → ℕ × (ℕ × ℕ) → Bool
same_three x y = nat_eq x.0 y.0 && same_two x.1 y.1

abbrev pub same_four : ℕ × (ℕ × (ℕ × ℕ)) → ℕ × (ℕ × (ℕ × ℕ)) → Bool
same_four x y = nat_eq x.0 y.0 && same_three x.1 y.1

abbrev pub same_key : Key → Key → Bool
same_key x y = nat_eq x.0 y.0 && same_four x.1 y.1

abbrev pub space_number : Space → ℕ
space_number Values = 0
space_number Types = 1

-- no qualifier is of the kind 0, a qualifier of the kind 1
abbrev pub qualifier_kind : Option NameId → ℕ
qualifier_kind None = 0
qualifier_kind (Some q) = 1

abbrev pub qualifier_number : Option NameId → ℕ
qualifier_number None = 0
qualifier_number (Some q) = q.0

-- an entry is told by its qualifier and its origin
unfoldable pub entry_key : ScopeEntry → Key
entry_key e = (qualifier_kind e.qualifier, (qualifier_number e.qualifier, (e.origin.«module».0, (space_number e.origin.space, e.origin.name.0))))

-- a use is told by its qualifier, its space and its name
unfoldable pub use_key : Option NameId → Space → NameId → Key
use_key q s n = (qualifier_kind q, (qualifier_number q, (0, (space_number s, n.0))))

-- the use that an entry serves
unfoldable pub serves : ScopeEntry → Key
serves e = use_key e.qualifier e.origin.space e.origin.name

-- an origin is told by its module, its space and its name
unfoldable pub origin_key : Origin → Key
origin_key o = (0, (0, (o.«module».0, (space_number o.space, o.name.0))))

-- a type is told by its module and its name
unfoldable pub type_key : NameId → NameId → Key
type_key m t = (0, (0, (m.0, (1, t.0))))

-- a qualifier is told by its name
unfoldable pub qualifier_key : NameId → Key
qualifier_key q = (0, (q.0, (0, (0, 0))))

abbrev pub same_entry : ScopeEntry → ScopeEntry → Bool
same_entry a b = same_key (entry_key a) (entry_key b)

abbrev pub same_origin : Origin → Origin → Bool
same_origin a b = same_key (origin_key a) (origin_key b)
