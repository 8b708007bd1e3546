-- A scope depends on the exports of the files that are imported.
use Rattle.std.proofs.Common.{◌≡◌, ℕ, zero, suc, true, List, [], ◌∷◌, ◌++◌, length, Option, Some, None, option_map, slice_get, refl, ap, ◌∙◌, arith}
use Rattle.std.specs.List.{flat_map, list_all}
use Rattle.std.specs.Option.{option_or}
use Rattle.std.proofs.lemmas.Bool.{false≢true, and_parts}
use Rattle.std.proofs.lemmas.List.{length-map}
use Rattle.std.proofs.lemmas.Option.{slice_get-map}
use Rattle.gh_scopes.specs.declared.types.Import.{Import}
use Rattle.gh_scopes.specs.declared.types.Summary.{Summary}
use Rattle.gh_scopes.specs.declared.types.Scope.{Scope}
use Rattle.gh_scopes.specs.declared.types.ScopeEntry.{ScopeEntry}
use Rattle.gh_scopes.specs.Found.{once}
use Rattle.gh_scopes.specs.Graph.{file_of, first_some}
use Rattle.gh_scopes.specs.Imports.{or_none, exports_at, exports_for, gives_from, import_gives, own_given, scope_of, selection_fault, import_fault, imports_fault}
use Rattle.gh_scopes.specs.Exports.{exports_of}
use Rattle.gh_scopes.specs.Order.{taken}
use Rattle.gh_scope_laws.specs.LinkOrders.{has_it, is_behind}
use Rattle.gh_scope_laws.specs.Scopes.{exports_over, scope_over, AreScopes}
use Rattle.gh_scope_laws.proofs.Imported.{some_same}
use Rattle.gh_scope_laws.proofs.Lookups.{nowhere}

-- the exports of these files are the same
abbrev pub SameAt : List ℕ → List (List ScopeEntry) → List (List ScopeEntry) → Type 0
SameAt before a b = (t : ℕ) → taken before t ≡ true → slice_get a t ≡ slice_get b t

exports_same : (before : List ℕ) (a b : List (List ScopeEntry)) → SameAt before a b → (o : Option ℕ) → has_it before o ≡ true → exports_at a o ≡ exports_at b o
exports_same before a b h None e = absurd (false≢true e)
exports_same before a b h (Some t) e = ap or_none (h t e)

gives_same : (ss : List Summary) (before : List ℕ) (a b : List (List ScopeEntry)) → SameAt before a b → (is : List Import) → list_all (is_behind ss before) is ≡ true
    → flat_map (import_gives ss a) is ≡ flat_map (import_gives ss b) is
gives_same ss before a b h [] e = refl
gives_same ss before a b h (i ∷ is) e =
    let p = and_parts (is_behind ss before i) (list_all (is_behind ss before) is) e in
    let one : exports_for ss a i ≡ exports_for ss b i = exports_same before a b h (file_of ss i.name) p.0 in
    let rest = gives_same ss before a b h is p.1 in
    (λ j. gives_from ss (one j) i ++ rest j)

pub scope_same : (ss : List Summary) (before : List ℕ) (a b : List (List ScopeEntry)) → SameAt before a b → (s : Summary) → list_all (is_behind ss before) s.imports ≡ true
    → scope_of ss a s ≡ scope_of ss b s
unfolding scope_of
scope_same ss before a b h s e = ap (λ l. once (flat_map (own_given s.name) s.definitions ++ l)) (gives_same ss before a b h s.imports e)

first_fault_same : (ss : List Summary) (before : List ℕ) (a b : List (List ScopeEntry)) → SameAt before a b → (is : List Import) → list_all (is_behind ss before) is ≡ true
    → first_some (import_fault ss a) is ≡ first_some (import_fault ss b) is
first_fault_same ss before a b h [] e = refl
first_fault_same ss before a b h (i ∷ is) e =
    let p = and_parts (is_behind ss before i) (list_all (is_behind ss before) is) e in
    let one : exports_for ss a i ≡ exports_for ss b i = exports_same before a b h (file_of ss i.name) p.0 in
    let rest = first_fault_same ss before a b h is p.1 in
    (λ j. option_or (selection_fault ss (one j) i.selection) (rest j))

pub fault_same : (ss : List Summary) (before : List ℕ) (a b : List (List ScopeEntry)) → SameAt before a b → (s : Summary) → list_all (is_behind ss before) s.imports ≡ true
    → imports_fault ss a s ≡ imports_fault ss b s
unfolding imports_fault
fault_same ss before a b h s e = first_fault_same ss before a b h s.imports e

-- what a file exports, and its scope

pub exported_at : (ss all : List Summary) (cs : List Scope) (f : ℕ) (s : Summary) (c : Scope) → slice_get all f ≡ Some s → slice_get cs f ≡ Some c
    → slice_get (exports_over ss all cs) f ≡ Some (exports_of ss s c.entries).entries
exported_at ss [] cs f s c e h = absurd (nowhere s e)
exported_at ss (x ∷ all) [] f s c e h = absurd (nowhere c h)
exported_at ss (x ∷ all) (y ∷ cs) zero s c e h =
    let one = some_same x s e in
    let two = some_same y c h in
    (λ j. Some (exports_of ss (one j) (two j).entries).entries)
exported_at ss (x ∷ all) (y ∷ cs) (suc f) s c e h = exported_at ss all cs f s c e h

pub exported_many : (ss all : List Summary) (cs : List Scope) → length cs ≡ length all → length (exports_over ss all cs) ≡ length all
exported_many ss [] cs e = refl
exported_many ss (x ∷ all) [] e = absurd (omega (arith, e))
exported_many ss (x ∷ all) (c ∷ cs) e = ap suc (exported_many ss all cs (omega (arith, e)))

pub scope_at : (ss : List Summary) (cs : List Scope) → AreScopes ss cs → (f : ℕ) (s : Summary) → slice_get ss f ≡ Some s
    → slice_get cs f ≡ Some (scope_over ss (exports_over ss ss cs) s)
scope_at ss cs are f s is =
    ap (λ l. slice_get l f) are ∙ slice_get-map (scope_over ss (exports_over ss ss cs)) ss f ∙ ap (option_map (scope_over ss (exports_over ss ss cs))) is

pub scopes_many : (ss : List Summary) (cs : List Scope) → AreScopes ss cs → length cs ≡ length ss
scopes_many ss cs are = ap length are ∙ length-map ss (scope_over ss (exports_over ss ss cs))
