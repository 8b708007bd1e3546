-- Which files import which, cycles of imports, and the three refusals before all scopes (Haskell 98 Report, 5.1 and 5.3).
-- Files are numbers, and a graph has for each file those that it imports.
use Rattle.std.specs.Prelude.{ℕ, zero, suc, Bool, cond, ◌==◌, if◌then◌else◌, List, [], ◌∷◌, ◌++◌, length, map, Option, Some, None, option_map, slice_get, slice_index_or}
use Rattle.std.specs.List.{list_any, position}
use Rattle.std.specs.Option.{option_or}
use Rattle.gh_base.specs.declared.names.NameId.{NameId}
use Rattle.gh_base.specs.declared.refusal.Refusal.{Refusal}
use Rattle.gh_base.specs.declared.refusal.Refusal.TheVariants.{DoubleModule, CyclicImports, UnknownModule}
use Rattle.gh_scopes.specs.declared.types.Import.{Import}
use Rattle.gh_scopes.specs.declared.types.Summary.{Summary}

-- the first that a list gives
abbrev pub first_some : {A B : Type 0} → (A → Option B) → List A → Option B
first_some f [] = None
first_some f (x ∷ xs) = option_or (f x) (first_some f xs)

-- the file of a module
abbrev pub is_named : NameId → Summary → Bool
is_named n s = s.name.0 == n.0

abbrev pub file_of : List Summary → NameId → Option ℕ
file_of ss n = position (is_named n) ss

-- a second module of one name, behind these files

abbrev pub double_at : List Summary → Summary → Option Refusal
double_at before s = if list_any (is_named s.name) before then Some (DoubleModule s.span s.name) else None

abbrev pub first_double : List Summary → List Summary → Option Refusal
first_double before [] = None
first_double before (s ∷ ss) = option_or (double_at before s) (first_double (before ++ s ∷ []) ss)

-- the files that a file imports, each once, in the order of its imports. Imports of unknown modules play no part.

abbrev pub has_file : List ℕ → ℕ → Bool
has_file fs f = list_any (λ g. g == f) fs

abbrev pub with_file : List ℕ → Option ℕ → List ℕ
with_file fs None = fs
with_file fs (Some f) = cond (has_file fs f) fs (fs ++ f ∷ [])

abbrev pub files_from : List Summary → List ℕ → List Import → List ℕ
files_from ss fs [] = fs
files_from ss fs (i ∷ is) = files_from ss (with_file fs (file_of ss i.name)) is

abbrev pub imported_files : List Summary → Summary → List ℕ
imported_files ss s = files_from ss [] s.imports

abbrev pub graph_of : List Summary → List (List ℕ)
graph_of ss = map (imported_files ss) ss

-- the first walk of so many imports from one file to another, by the order of the imports: the files on it but the last

abbrev pub begin_with : ℕ → Option (List ℕ) → Option (List ℕ)
begin_with a w = option_map (λ (fs : List ℕ). a ∷ fs) w

unfoldable pub walk : List (List ℕ) → ℕ → ℕ → ℕ → Option (List ℕ)
walk g to zero a = if a == to then Some [] else None
walk g to (suc n) a = begin_with a (first_some (walk g to n) (slice_index_or g a []))

-- the first of the shortest walks, of `n` imports at least and fewer than `n + k`
abbrev pub shortest : List (List ℕ) → ℕ → ℕ → ℕ → ℕ → Option (List ℕ)
shortest g to zero n a = None
shortest g to (suc k) n a = option_or (walk g to n a) (shortest g to k (suc n) a)

-- the cycle through an import of a file: that file, and the shortest way back from the imported one

abbrev pub name_or : Option Summary → NameId
name_or None = record { 0 = 0 }
name_or (Some s) = s.name

abbrev pub name_at : List Summary → ℕ → NameId
name_at ss f = name_or (slice_get ss f)

abbrev pub cycle_by : List Summary → ℕ → Import → Option (List ℕ) → Option Refusal
cycle_by ss f i None = None
cycle_by ss f i (Some w) = Some (CyclicImports i.span (map (name_at ss) (f ∷ w)))

abbrev pub back : List (List ℕ) → ℕ → Option ℕ → Option (List ℕ)
back g f None = None
back g f (Some t) = shortest g f (length g) 0 t

abbrev pub cycle_at : List Summary → List (List ℕ) → ℕ → Import → Option Refusal
cycle_at ss g f i = cycle_by ss f i (back g f (file_of ss i.name))

abbrev pub first_cycle : List Summary → List (List ℕ) → ℕ → List Summary → Option Refusal
first_cycle ss g f [] = None
first_cycle ss g f (s ∷ rest) = option_or (first_some (cycle_at ss g f) s.imports) (first_cycle ss g (suc f) rest)

-- an import of an unknown module

abbrev pub unknown_by : Import → Option ℕ → Option Refusal
unknown_by i None = Some (UnknownModule i.span i.name)
unknown_by i (Some f) = None

abbrev pub unknown_at : List Summary → Import → Option Refusal
unknown_at ss i = unknown_by i (file_of ss i.name)

abbrev pub unknown_in : List Summary → Summary → Option Refusal
unknown_in ss s = first_some (unknown_at ss) s.imports

-- the first refusal before all scopes
abbrev pub before_scopes : List Summary → Option Refusal
before_scopes ss = option_or (first_double [] ss) (option_or (first_cycle ss (graph_of ss) 0 ss) (first_some (unknown_in ss) ss))
