-- What definitions and imports give (Haskell 98 Report, 5.1, 5.3 and 5.5.1). `exs` has the exports of each file.
use Rattle.std.specs.Prelude.{ℕ, Bool, true, false, cond, not, ◌&&◌, List, [], ◌∷◌, ◌++◌, map, Option, Some, None, is_some, slice_get}
use Rattle.std.specs.List.{flat_map, list_any}
use Rattle.gh_base.specs.declared.names.NameId.{NameId}
use Rattle.gh_base.specs.declared.place.Origin.{Origin}
use Rattle.gh_base.specs.declared.place.Space.TheVariants.{Values, Types}
use Rattle.gh_base.specs.declared.refusal.Refusal.{Refusal}
use Rattle.gh_base.specs.declared.refusal.Refusal.TheVariants.{NotExported}
use Rattle.gh_scopes.specs.declared.types.Used.{Used}
use Rattle.gh_scopes.specs.declared.types.Definition.{Definition}
use Rattle.gh_scopes.specs.declared.types.ListedKind.{ListedKind}
use Rattle.gh_scopes.specs.declared.types.ListedKind.TheVariants as kind
use Rattle.gh_scopes.specs.declared.types.Parts.{Parts}
use Rattle.gh_scopes.specs.declared.types.Parts.TheVariants as parts
use Rattle.gh_scopes.specs.declared.types.Listed.{Listed}
use Rattle.gh_scopes.specs.declared.types.Selection.{Selection}
use Rattle.gh_scopes.specs.declared.types.Selection.TheVariants as selection
use Rattle.gh_scopes.specs.declared.types.Import.{Import}
use Rattle.gh_scopes.specs.declared.types.Summary.{Summary}
use Rattle.gh_scopes.specs.declared.types.ScopeEntry.{ScopeEntry}
use Rattle.gh_scopes.specs.Keys.{Key, same_key, same_origin, type_key}
use Rattle.gh_scopes.specs.Found.{entry, exported, has, once}
use Rattle.gh_scopes.specs.Graph.{first_some, file_of}

abbrev pub to_list : {A : Type 0} → Option A → List A
to_list None = []
to_list (Some x) = x ∷ []

-- what a test keeps
abbrev pub kept : {A : Type 0} → Bool → A → List A
kept b x = cond b (x ∷ []) []

-- the constructors of types

abbrev pub owned_by : Key → NameId → Definition → Option NameId → List NameId
owned_by k m d None = []
owned_by k m d (Some t) = cond (same_key (type_key m t) k) (d.name ∷ []) []

abbrev pub owned : Key → NameId → Definition → List NameId
owned k m d = owned_by k m d d.owner

abbrev pub owned_in : Key → Summary → List NameId
owned_in k s = flat_map (owned k s.name) s.definitions

-- the names of the constructors of a type, in the order of the text
abbrev pub constructors : List Summary → Key → List NameId
constructors ss k = flat_map (owned_in k) ss

abbrev pub constructor_of : Origin → NameId → Origin
constructor_of t c = record { «module» = t.«module»; space = Values; name = c }

abbrev pub constructors_of : List Summary → Origin → List Origin
constructors_of ss t = map (constructor_of t) (constructors ss (type_key t.«module» t.name))

abbrev pub is_one_of : List Origin → Origin → Bool
is_one_of os o = list_any (λ x. same_origin x o) os

-- a listed name is a constructor of the type, and is among these entries
abbrev pub is_part : List Summary → List ScopeEntry → Origin → Used → Bool
is_part ss es t u = is_one_of (constructors_of ss t) (constructor_of t u.name) && has es (constructor_of t u.name)

-- the constructors that are named with a type: `(..)` names those among these entries

abbrev pub exported_part : List ScopeEntry → Origin → NameId → List Origin
exported_part es t c = kept (has es (constructor_of t c)) (constructor_of t c)

abbrev pub listed_part : List Summary → List ScopeEntry → Origin → Used → List Origin
listed_part ss es t u = kept (is_part ss es t u) (constructor_of t u.name)

abbrev pub part_origins : List Summary → List ScopeEntry → Origin → Parts → List Origin
part_origins ss es t parts.Bare = []
part_origins ss es t parts.All = flat_map (exported_part es t) (constructors ss (type_key t.«module» t.name))
part_origins ss es t (parts.Listed us) = flat_map (listed_part ss es t) us

-- the first listed name that is no such constructor
abbrev pub bad_part : List Summary → List ScopeEntry → Origin → Used → Option Used
bad_part ss es t u = cond (is_part ss es t u) None (Some u)

abbrev pub first_bad : List Summary → List ScopeEntry → Origin → Parts → Option Used
first_bad ss es t parts.Bare = None
first_bad ss es t parts.All = None
first_bad ss es t (parts.Listed us) = first_some (bad_part ss es t) us

-- what a part of an import list names among the exports of its module. Behind `hiding` a type alone names a constructor too.

abbrev pub alone_too : Bool → List ScopeEntry → Used → Parts → Option Origin
alone_too true es u parts.Bare = exported es Values u.name
alone_too _ es u _ = None

abbrev pub with_parts : List Summary → List ScopeEntry → Parts → Option Origin → List Origin
with_parts ss es p None = []
with_parts ss es p (Some t) = t ∷ part_origins ss es t p

abbrev pub picked_by : Bool → List Summary → List ScopeEntry → ListedKind → Used → Parts → List Origin
picked_by hiding ss es kind.Value u p = to_list (exported es Values u.name)
picked_by hiding ss es kind.Type u p = with_parts ss es p (exported es Types u.name) ++ to_list (alone_too hiding es u p)
picked_by hiding ss es kind.Module u p = []

abbrev pub picked : Bool → List Summary → List ScopeEntry → Listed → List Origin
picked hiding ss es l = picked_by hiding ss es l.kind l.name l.parts

-- what one definition or export gives: a name with the qualifier, and one without it, unless the import is qualified

abbrev pub given_origin : Bool → NameId → Origin → List ScopeEntry
given_origin true q o = entry (Some q) o ∷ []
given_origin false q o = entry None o ∷ entry (Some q) o ∷ []

abbrev pub given : Bool → NameId → ScopeEntry → List ScopeEntry
given qualified q e = given_origin qualified q e.origin

-- the exports that an import takes: all, those that its list names, or those that the list behind `hiding` does not name

abbrev pub is_wanted : Bool → List Origin → Origin → Bool
is_wanted false os o = is_one_of os o
is_wanted true os o = not (is_one_of os o)

abbrev pub wanted_from : Import → Bool → List Origin → ScopeEntry → List ScopeEntry
wanted_from i hiding os e = cond (is_wanted hiding os e.origin) (given_origin i.qualified i.qualifier e.origin) []

abbrev pub gives_by : List Summary → List ScopeEntry → Import → Selection → List ScopeEntry
gives_by ss es i selection.Whole = flat_map (given i.qualified i.qualifier) es
gives_by ss es i (selection.Only ls) = flat_map (wanted_from i false (flat_map (picked false ss es) ls)) es
gives_by ss es i (selection.Hiding ls) = flat_map (wanted_from i true (flat_map (picked true ss es) ls)) es

abbrev pub gives_from : List Summary → List ScopeEntry → Import → List ScopeEntry
gives_from ss es i = gives_by ss es i i.selection

-- the exports of the module of an import
abbrev pub or_none : Option (List ScopeEntry) → List ScopeEntry
or_none None = []
or_none (Some es) = es

abbrev pub exports_at : List (List ScopeEntry) → Option ℕ → List ScopeEntry
exports_at exs None = []
exports_at exs (Some f) = or_none (slice_get exs f)

abbrev pub exports_for : List Summary → List (List ScopeEntry) → Import → List ScopeEntry
exports_for ss exs i = exports_at exs (file_of ss i.name)

abbrev pub import_gives : List Summary → List (List ScopeEntry) → Import → List ScopeEntry
import_gives ss exs i = gives_from ss (exports_for ss exs i) i

-- what a module defines

abbrev pub own_origin : NameId → Definition → Origin
own_origin m d = record { «module» = m; space = d.space; name = d.name }

abbrev pub own_entry : NameId → Definition → ScopeEntry
own_entry m d = entry None (own_origin m d)

abbrev pub own_given : NameId → Definition → List ScopeEntry
own_given m d = given_origin false m (own_origin m d)

-- the scope of a module: its own definitions, then its imports in their order, each entry once
unfoldable pub scope_of : List Summary → List (List ScopeEntry) → Summary → List ScopeEntry
scope_of ss exs s = once (flat_map (own_given s.name) s.definitions ++ flat_map (import_gives ss exs) s.imports)

-- what an import names and its module does not export

abbrev pub not_exported : Used → Refusal
not_exported u = NotExported u.span u.name

abbrev pub missing_unless : Bool → Used → Option Refusal
missing_unless true u = None
missing_unless false u = Some (not_exported u)

abbrev pub missing_part : Option Used → Option Refusal
missing_part None = None
missing_part (Some u) = Some (not_exported u)

abbrev pub missing_type : Bool → List Summary → List ScopeEntry → Used → Parts → Option Origin → Option Refusal
missing_type hiding ss es u p None = missing_unless (is_some (alone_too hiding es u p)) u
missing_type hiding ss es u p (Some t) = missing_part (first_bad ss es t p)

abbrev pub missing_by : Bool → List Summary → List ScopeEntry → ListedKind → Used → Parts → Option Refusal
missing_by hiding ss es kind.Value u p = missing_unless (is_some (exported es Values u.name)) u
missing_by hiding ss es kind.Type u p = missing_type hiding ss es u p (exported es Types u.name)
missing_by hiding ss es kind.Module u p = None

abbrev pub missing : Bool → List Summary → List ScopeEntry → Listed → Option Refusal
missing hiding ss es l = missing_by hiding ss es l.kind l.name l.parts

abbrev pub selection_fault : List Summary → List ScopeEntry → Selection → Option Refusal
selection_fault ss es selection.Whole = None
selection_fault ss es (selection.Only ls) = first_some (missing false ss es) ls
selection_fault ss es (selection.Hiding ls) = first_some (missing true ss es) ls

abbrev pub import_fault : List Summary → List (List ScopeEntry) → Import → Option Refusal
import_fault ss exs i = selection_fault ss (exports_for ss exs i) i.selection

unfoldable pub imports_fault : List Summary → List (List ScopeEntry) → Summary → Option Refusal
imports_fault ss exs s = first_some (import_fault ss exs) s.imports
