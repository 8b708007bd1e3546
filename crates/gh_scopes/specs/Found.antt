-- Entries: each once, and what stands under a name among them (Haskell 98 Report, 5.5.1 and 5.5.2).
use Rattle.std.specs.Prelude.{Bool, true, false, cond, if◌then◌else◌, List, [], ◌∷◌, ◌++◌, Option, Some, None}
use Rattle.std.specs.List.{list_any}
use Rattle.gh_base.specs.declared.names.NameId.{NameId}
use Rattle.gh_base.specs.declared.place.Origin.{Origin}
use Rattle.gh_base.specs.declared.place.Space.{Space}
use Rattle.gh_scopes.specs.declared.types.ScopeEntry.{ScopeEntry}
use Rattle.gh_scopes.specs.declared.tables.Found as found_type
use Rattle.gh_scopes.specs.Keys.{Key, same_key, same_entry, same_origin, serves, use_key}

abbrev pub Found : Type 0
Found = found_type.Found

-- this name with this qualifier stands for this origin
abbrev pub entry : Option NameId → Origin → ScopeEntry
entry q o = record { qualifier = q; name = o.name; origin = o }

abbrev pub among : List ScopeEntry → ScopeEntry → Bool
among es e = list_any (λ x. same_entry x e) es

-- each entry once, at its first place

abbrev pub with_entry : List ScopeEntry → ScopeEntry → List ScopeEntry
with_entry es e = if among es e then es else es ++ e ∷ []

abbrev pub with_entries : List ScopeEntry → List ScopeEntry → List ScopeEntry
with_entries es [] = es
with_entries es (x ∷ xs) = with_entries (with_entry es x) xs

abbrev pub once : List ScopeEntry → List ScopeEntry
once es = with_entries [] es

-- what entries have for a use: the first origin, and whether another entry serves the use too. Where each entry stands
-- once, that one has another origin.

abbrev pub one_more : Option Found → Origin → Found
one_more None o = record { origin = o; many = false }
one_more (Some f) o = record { origin = f.origin; many = true }

abbrev pub found_from : Option Found → List ScopeEntry → Key → Option Found
found_from f [] k = f
found_from f (e ∷ es) k = found_from (cond (same_key (serves e) k) (Some (one_more f e.origin)) f) es k

abbrev pub found : List ScopeEntry → Key → Option Found
found es k = found_from None es k

abbrev pub found_use : List ScopeEntry → Option NameId → Space → NameId → Option Found
found_use es q s n = found es (use_key q s n)

abbrev pub origin_found : Option Found → Option Origin
origin_found None = None
origin_found (Some f) = Some f.origin

-- the origin that stands first under a name without a qualifier
abbrev pub exported : List ScopeEntry → Space → NameId → Option Origin
exported es s n = origin_found (found_use es None s n)

-- an origin is in scope under some name
abbrev pub has : List ScopeEntry → Origin → Bool
has es o = list_any (λ (x : ScopeEntry). same_origin x.origin o) es
