-- How a store finds its terms: the state of the code, which callers do not see.
use Rattle.std.specs.Prelude.{◌≡◌, ℕ, ◌<◌, ◌^◌, min, Bool, ◌&&◌, nat_eq, List, map, length, Some, slice_get}
use Rattle.gh_base.specs.declared.place.TyCon.{TyCon}
use Rattle.gh_base.specs.declared.place.TyCon.TheVariants as c
use Rattle.gh_base.specs.declared.place.Origin.{Origin}
use Rattle.gh_base.specs.declared.place.Space.{Space}
use Rattle.gh_base.specs.declared.place.Space.TheVariants.{Values, Types}
use Rattle.gh_typeterm.specs.declared.ty.TyNode.{TyNode}
use Rattle.gh_typeterm.specs.declared.ty.TyNode.TheVariants as t
use Rattle.gh_typeterm.specs.declared.store.Stored.{Stored}
use Rattle.gh_typeterm.specs.Terms.{size_of}
use Rattle.gh_typeterm.specs.Stores.{IsDistinct}

abbrev pub OriginKey : Type 0
OriginKey = ℕ × (ℕ × ℕ)

abbrev pub ConKey : Type 0
ConKey = ℕ × OriginKey

abbrev pub Key : Type 0
Key = ℕ × ((ℕ × ℕ) × ConKey)

abbrev pub space_number : Space → ℕ
space_number Values = 0
space_number Types = 1

abbrev pub no_origin : OriginKey
no_origin = (0, (0, 0))

abbrev pub no_con : ConKey
no_con = (0, no_origin)

abbrev pub origin_key : Origin → OriginKey
origin_key a = (a.«module».0, (space_number a.space, a.name.0))

abbrev pub con_key : TyCon → ConKey
con_key (c.Named a) = (0, origin_key a)
con_key c.Arrow = (1, no_origin)
con_key c.Int = (2, no_origin)
con_key c.Char = (3, no_origin)
con_key (c.ConOf a) = (4, origin_key a)

abbrev pub same_numbers : ℕ × ℕ → ℕ × ℕ → Bool
same_numbers x y = nat_eq x.0 y.0 && nat_eq x.1 y.1

abbrev pub same_origin_key : OriginKey → OriginKey → Bool
same_origin_key x y = nat_eq x.0 y.0 && same_numbers x.1 y.1

abbrev pub same_con_key : ConKey → ConKey → Bool
same_con_key x y = nat_eq x.0 y.0 && same_origin_key x.1 y.1

abbrev pub same_parts : (ℕ × ℕ) × ConKey → (ℕ × ℕ) × ConKey → Bool
same_parts x y = same_numbers x.0 y.0 && same_con_key x.1 y.1

abbrev pub same_key : Key → Key → Bool
same_key x y = nat_eq x.0 y.0 && same_parts x.1 y.1

-- a key is that of a term whose parts stand at its places
pub data Fits (terms : List TyNode) (k : Key) (term : TyNode) : Type 0 where
  a_con : (c : TyCon) → k ≡ (0, ((0, 0), con_key c)) → term ≡ t.Con c → Fits terms k term
  a_var : (v : ℕ) → k ≡ (1, ((v, 0), no_con)) → term ≡ t.Var v → Fits terms k term
  an_app : (p q : ℕ) (f x : TyNode) → k ≡ (2, ((p, q), no_con)) → slice_get terms p ≡ Some f → slice_get terms q ≡ Some x → term ≡ t.App f x → Fits terms k term
  a_name : (n : ℕ) → k ≡ (3, ((n, 0), no_con)) → term ≡ t.Name n → Fits terms k term

abbrev pub terms_in : List (Key × Stored) → List TyNode
terms_in entries = map (λ e. e.1.term) entries

-- each entry has the key and the count of its term, and no two have one term
pub record IsStore (entries : List (Key × Stored)) : Type 0 where
  pub keys : (i : ℕ) (e : Key × Stored) → slice_get entries i ≡ Some e → Fits (terms_in entries) e.0 e.1.term
  pub counts : (i : ℕ) (e : Key × Stored) → slice_get entries i ≡ Some e → e.1.nodes ≡ min (size_of e.1.term) 1001
  pub distinct : IsDistinct (terms_in entries)
  pub small : length entries < 2 ^ 32
