-- What the tables of the code hold: this describes the code's state.
use Rattle.std.specs.Prelude.{◌≡◌, List, [], unwrap_or}
use Rattle.std.specs.HashMap.{get, HashMap}
use Rattle.std.specs.HashSet.{contains, HashSet}
use Rattle.std.specs.declared.hash.FoldHasher.{FoldHasher}
use Rattle.std.specs.declared.hash.BuildHasherDefault.{BuildHasherDefault}
use Rattle.gh_base.specs.declared.names.NameId.{NameId}
use Rattle.gh_base.specs.declared.place.Origin.{Origin}
use Rattle.gh_scopes.specs.declared.types.ScopeEntry.{ScopeEntry}
use Rattle.gh_scopes.specs.declared.types.Summary.{Summary}
use Rattle.gh_scopes.specs.Keys.{Key, same_key, entry_key, origin_key, qualifier_key}
use Rattle.gh_scopes.specs.Found.{Found, among, found, has}
use Rattle.gh_scopes.specs.Imports.{constructors, is_one_of}
use Rattle.gh_scopes.specs.Exports.{is_qualifier, module_origins}

abbrev pub KeySet : Type 0
KeySet = HashSet Key (BuildHasherDefault FoldHasher)

-- the set has exactly the keys of these entries
abbrev pub IsSeen : KeySet → List ScopeEntry → Type 0
IsSeen set es = (e : ScopeEntry) → contains same_key set (entry_key e) ≡ among es e

-- the set has exactly the origins of these entries
abbrev pub IsAnywhere : KeySet → List ScopeEntry → Type 0
IsAnywhere set es = (o : Origin) → contains same_key set (origin_key o) ≡ has es o

-- the set has exactly these origins
abbrev pub IsPicked : KeySet → List Origin → Type 0
IsPicked set os = (o : Origin) → contains same_key set (origin_key o) ≡ is_one_of os o

-- the table has what the entries have for each use
abbrev pub IsNames : HashMap Key Found (BuildHasherDefault FoldHasher) → List ScopeEntry → Type 0
IsNames table es = (k : Key) → get same_key table k ≡ found es k

-- the table has the constructors of each type
abbrev pub IsOwners : HashMap Key (List NameId) (BuildHasherDefault FoldHasher) → List Summary → Type 0
IsOwners table ss = (k : Key) → unwrap_or (get same_key table k) [] ≡ constructors ss k

-- the table has what `module` exports with each qualifier
abbrev pub IsByQualifier : HashMap Key (List Origin) (BuildHasherDefault FoldHasher) → List ScopeEntry → Type 0
IsByQualifier table es = (q : NameId) → unwrap_or (get same_key table (qualifier_key q)) [] ≡ module_origins es q

-- the set has the names that `module` may stand before
abbrev pub IsQualifiers : KeySet → Summary → Type 0
IsQualifiers set s = (q : NameId) → contains same_key set (qualifier_key q) ≡ is_qualifier s q
