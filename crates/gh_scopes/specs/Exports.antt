-- What a module exports (Haskell 98 Report, 5.2 and 5.5.2).
use Rattle.std.specs.Prelude.{Bool, true, false, cond, ◌||◌, ◌&&◌, ◌==◌, List, [], ◌∷◌, ◌++◌, map, Option, Some, None, Result, Ok, Err}
use Rattle.std.specs.List.{list_any, flat_map}
use Rattle.std.specs.Option.{option_or}
use Rattle.gh_base.specs.declared.names.NameId.{NameId}
use Rattle.gh_base.specs.declared.place.Origin.{Origin}
use Rattle.gh_base.specs.declared.place.Space.TheVariants.{Values, Types}
use Rattle.gh_base.specs.declared.refusal.Refusal.{Refusal}
use Rattle.gh_base.specs.declared.refusal.Refusal.TheVariants.{UnknownName, AmbiguousName}
use Rattle.gh_scopes.specs.declared.types.Used.{Used}
use Rattle.gh_scopes.specs.declared.types.ListedKind.{ListedKind}
use Rattle.gh_scopes.specs.declared.types.ListedKind.TheVariants as kind
use Rattle.gh_scopes.specs.declared.types.Parts.{Parts}
use Rattle.gh_scopes.specs.declared.types.Listed.{Listed}
use Rattle.gh_scopes.specs.declared.types.Import.{Import}
use Rattle.gh_scopes.specs.declared.types.Summary.{Summary}
use Rattle.gh_scopes.specs.declared.types.ScopeEntry.{ScopeEntry}
use Rattle.gh_scopes.specs.declared.given.Given.{Given}
use Rattle.gh_scopes.specs.Keys.{same_entry, same_origin}
use Rattle.gh_scopes.specs.Found.{Found, entry, among, found_use, origin_found, exported, once}
use Rattle.gh_scopes.specs.Imports.{kept, to_list, first_bad, with_parts, own_entry}

-- names of an export list

abbrev pub unknown : Used → Refusal
unknown u = UnknownName u.span u.name

abbrev pub use_fault : Used → Option Found → Option Refusal
use_fault u None = Some (unknown u)
use_fault u (Some f) = cond f.many (Some (AmbiguousName u.span u.name)) None

-- a module's name stands for this module's own names, or for those of the imports with that qualifier

abbrev pub has_qualifier : NameId → Import → Bool
has_qualifier n i = i.qualifier.0 == n.0

abbrev pub is_qualifier : Summary → NameId → Bool
is_qualifier s n = (s.name.0 == n.0) || list_any (has_qualifier n) s.imports

-- an entry with this qualifier whose origin is in scope under the same name without one
abbrev pub is_exported_by : List ScopeEntry → NameId → ScopeEntry → Bool
is_exported_by es q e = same_entry e (entry (Some q) e.origin) && among es (entry None e.origin)

abbrev pub exported_by : List ScopeEntry → NameId → ScopeEntry → List Origin
exported_by es q e = kept (is_exported_by es q e) e.origin

abbrev pub module_origins : List ScopeEntry → NameId → List Origin
module_origins es q = flat_map (exported_by es q) es

-- the fault of the name itself

abbrev pub module_fault : Bool → Used → Option Refusal
module_fault true u = None
module_fault false u = Some (unknown u)

abbrev pub head_fault_by : Summary → List ScopeEntry → ListedKind → Used → Option Refusal
head_fault_by s es kind.Value u = use_fault u (found_use es u.qualifier Values u.name)
head_fault_by s es kind.Type u = use_fault u (found_use es u.qualifier Types u.name)
head_fault_by s es kind.Module u = module_fault (is_qualifier s u.name) u

abbrev pub head_fault : Summary → List ScopeEntry → Listed → Option Refusal
head_fault s es l = head_fault_by s es l.kind l.name

-- what it names

abbrev pub named_by : List Summary → List ScopeEntry → ListedKind → Used → Parts → List Origin
named_by ss es kind.Value u p = to_list (origin_found (found_use es u.qualifier Values u.name))
named_by ss es kind.Type u p = with_parts ss es p (origin_found (found_use es u.qualifier Types u.name))
named_by ss es kind.Module u p = module_origins es u.name

abbrev pub named : List Summary → List ScopeEntry → Listed → List Origin
named ss es l = named_by ss es l.kind l.name l.parts

-- the fault of a listed constructor

abbrev pub unknown_part : Option Used → Option Refusal
unknown_part None = None
unknown_part (Some u) = Some (unknown u)

abbrev pub parts_fault : List Summary → List ScopeEntry → Parts → Option Origin → Option Refusal
parts_fault ss es p None = None
parts_fault ss es p (Some t) = unknown_part (first_bad ss es t p)

abbrev pub tail_fault_by : List Summary → List ScopeEntry → ListedKind → Used → Parts → Option Refusal
tail_fault_by ss es kind.Value u p = None
tail_fault_by ss es kind.Type u p = parts_fault ss es p (origin_found (found_use es u.qualifier Types u.name))
tail_fault_by ss es kind.Module u p = None

abbrev pub tail_fault : List Summary → List ScopeEntry → Listed → Option Refusal
tail_fault ss es l = tail_fault_by ss es l.kind l.name l.parts

-- what an item adds to the exports so far, in which each name has one origin; or a name that would have two

abbrev pub stands_for : List ScopeEntry → List ScopeEntry → Origin → Option Origin
stands_for ex new o = option_or (exported ex o.space o.name) (exported new o.space o.name)

abbrev pub added_by : List ScopeEntry → Origin → Option Origin → Result (List ScopeEntry) NameId
added_by new o None = Ok (new ++ entry None o ∷ [])
added_by new o (Some p) = cond (same_origin p o) (Ok new) (Err o.name)

abbrev pub added_one : List ScopeEntry → Result (List ScopeEntry) NameId → Origin → Result (List ScopeEntry) NameId
added_one ex (Err n) o = Err n
added_one ex (Ok new) o = added_by new o (stands_for ex new o)

abbrev pub added : List ScopeEntry → Result (List ScopeEntry) NameId → List Origin → Result (List ScopeEntry) NameId
added ex r [] = r
added ex r (o ∷ os) = added ex (added_one ex r o) os

-- the exports with an item's, and its fault: by the first byte, the item's clash before those of its listed constructors.
-- An item with a fault exports nothing.

abbrev pub no_more : List ScopeEntry → Refusal → Given
no_more ex r = record { entries = ex; fault = Some r }

abbrev pub after_tail : List ScopeEntry → List ScopeEntry → Option Refusal → Given
after_tail ex new None = record { entries = ex ++ new; fault = None }
after_tail ex new (Some r) = no_more ex r

abbrev pub after_names : List Summary → List ScopeEntry → List ScopeEntry → Listed → Result (List ScopeEntry) NameId → Given
after_names ss es ex l (Err n) = no_more ex (AmbiguousName l.span n)
after_names ss es ex l (Ok new) = after_tail ex new (tail_fault ss es l)

abbrev pub after_head : List Summary → List ScopeEntry → List ScopeEntry → Listed → Option Refusal → Given
after_head ss es ex l None = after_names ss es ex l (added ex (Ok []) (named ss es l))
after_head ss es ex l (Some r) = no_more ex r

unfoldable pub with_item : List Summary → Summary → List ScopeEntry → List ScopeEntry → Listed → Given
with_item ss s es ex l = after_head ss es ex l (head_fault s es l)

-- the exports of a list, and its first fault

abbrev pub and_fault : Option Refusal → Given → Given
and_fault f g = record { entries = g.entries; fault = option_or f g.fault }

abbrev pub with_next : List Summary → Summary → List ScopeEntry → Given → Listed → Given
with_next ss s es g l = and_fault g.fault (with_item ss s es g.entries l)

abbrev pub with_items : List Summary → Summary → List ScopeEntry → Given → List Listed → Given
with_items ss s es g [] = g
with_items ss s es g (l ∷ ls) = with_items ss s es (with_next ss s es g l) ls

abbrev pub nothing : Given
nothing = record { entries = []; fault = None }

-- without a list a module exports what it defines
abbrev pub own_exports : Summary → Given
own_exports s = record { entries = once (map (own_entry s.name) s.definitions); fault = None }

abbrev pub exports_by : List Summary → Summary → List ScopeEntry → Option (List Listed) → Given
exports_by ss s es None = own_exports s
exports_by ss s es (Some ls) = with_items ss s es nothing ls

unfoldable pub exports_of : List Summary → Summary → List ScopeEntry → Given
exports_of ss s es = exports_by ss s es s.exports
