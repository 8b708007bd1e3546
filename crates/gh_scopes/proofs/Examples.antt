-- Small programs, linked. Modules and names are numbers; file 0 is a Prelude that defines nothing.
use Rattle.std.proofs.Common.{◌≡◌, ℕ, Bool, true, false, List, [], ◌∷◌, Option, Some, None, Result, Ok, Err, refl}
use Rattle.gh_base.specs.declared.names.NameId.{NameId}
use Rattle.gh_base.specs.declared.place.Span.{Span}
use Rattle.gh_base.specs.declared.place.Space.TheVariants.{Values, Types}
use Rattle.gh_base.specs.declared.refusal.Refusal.{Refusal}
use Rattle.gh_base.specs.declared.refusal.Refusal.TheVariants as refusal
use Rattle.gh_scopes.specs.declared.types.Used.{Used}
use Rattle.gh_scopes.specs.declared.types.Definition.{Definition}
use Rattle.gh_scopes.specs.declared.types.ListedKind.TheVariants as kind
use Rattle.gh_scopes.specs.declared.types.Parts.{Parts}
use Rattle.gh_scopes.specs.declared.types.Parts.TheVariants as parts
use Rattle.gh_scopes.specs.declared.types.Listed.{Listed}
use Rattle.gh_scopes.specs.declared.types.Selection.{Selection}
use Rattle.gh_scopes.specs.declared.types.Selection.TheVariants as selection
use Rattle.gh_scopes.specs.declared.types.Import.{Import}
use Rattle.gh_scopes.specs.declared.types.Summary.{Summary}
use Rattle.gh_scopes.specs.declared.types.ScopeEntry.{ScopeEntry}
use Rattle.gh_scopes.specs.declared.types.Scope.{Scope}
use Rattle.gh_scopes.specs.declared.types.Linked.{Linked}
use Rattle.gh_scopes.specs.Keys.{entry_key, use_key, serves, origin_key, type_key}
use Rattle.gh_scopes.specs.Graph.{walk}
use Rattle.gh_scopes.specs.Imports.{scope_of, imports_fault}
use Rattle.gh_scopes.specs.Exports.{with_item, exports_of}
use Rattle.gh_scopes.specs.Linking.{linked_of, with_file}

abbrev name : ℕ → NameId
name n = record { 0 = n }

abbrev at : ℕ → Span
at n = record { file = 1; from = n; to = n }

-- the use of a name that stands at a place
abbrev used : ℕ → ℕ → Used
used p n = record { span = at p; qualifier = None; name = name n }

abbrev used_of : ℕ → ℕ → ℕ → Used
used_of p q n = record { span = at p; qualifier = Some (name q); name = name n }

abbrev value : ℕ → Definition
value n = record { space = Values; name = name n; owner = None }

abbrev type_named : ℕ → Definition
type_named n = record { space = Types; name = name n; owner = None }

abbrev con : ℕ → ℕ → Definition
con t n = record { space = Values; name = name n; owner = Some (name t) }

abbrev var_item : Used → Listed
var_item u = record { span = u.span; kind = kind.Value; name = u; parts = parts.Bare }

abbrev type_item : Used → Parts → Listed
type_item u p = record { span = u.span; kind = kind.Type; name = u; parts = p }

abbrev module_item : Used → Listed
module_item u = record { span = u.span; kind = kind.Module; name = u; parts = parts.Bare }

abbrev imports : ℕ → Bool → ℕ → Selection → Import
imports m qualified q s = record { span = at m; name = name m; qualified = qualified; qualifier = name q; selection = s }

abbrev a_module : ℕ → List Definition → List Import → Option (List Listed) → Summary
a_module m ds is es = record { name = name m; span = at 0; definitions = ds; imports = is; exports = es }

abbrev prelude : Summary
prelude = a_module 50 [] [] None

-- entries of values and of types

abbrev val : Option ℕ → ℕ → ℕ → ScopeEntry
val None n m = record { qualifier = None; name = name n; origin = record { «module» = name m; space = Values; name = name n } }
val (Some q) n m = record { qualifier = Some (name q); name = name n; origin = record { «module» = name m; space = Values; name = name n } }

abbrev typ : Option ℕ → ℕ → ℕ → ScopeEntry
typ None n m = record { qualifier = None; name = name n; origin = record { «module» = name m; space = Types; name = name n } }
typ (Some q) n m = record { qualifier = Some (name q); name = name n; origin = record { «module» = name m; space = Types; name = name n } }

abbrev scope : List ScopeEntry → Scope
scope es = record { entries = es }

abbrev linked : List ℕ → List Scope → Result Linked Refusal
linked o s = Ok (record { order = o; scopes = s })

-- module 1 defines the type 7 with the constructors 7 and 8, and the value 9; another module hides the name 7
hides_in_two_spaces : linked_of (prelude ∷ a_module 1 (type_named 7 ∷ con 7 7 ∷ con 7 8 ∷ value 9 ∷ []) [] None
    ∷ a_module 2 [] (imports 1 true 3 (selection.Hiding (type_item (used 5 7) parts.Bare ∷ [])) ∷ []) (Some []) ∷ [])
    ≡ linked (0 ∷ 1 ∷ 2 ∷ []) (scope [] ∷ scope (typ None 7 1 ∷ typ (Some 1) 7 1 ∷ val None 7 1 ∷ val (Some 1) 7 1 ∷ val None 8 1 ∷ val (Some 1) 8 1 ∷ val None 9 1 ∷ val (Some 1) 9 1 ∷ [])
    ∷ scope (val (Some 3) 8 1 ∷ val (Some 3) 9 1 ∷ []) ∷ [])
unfolding linked_of with_file scope_of imports_fault exports_of with_item entry_key use_key serves origin_key type_key walk
hides_in_two_spaces = refl

-- what is hidden of one import comes in by another: module 2 exports the value 7 of module 1 too
hides_for_one_import : linked_of (prelude ∷ a_module 1 (value 7 ∷ value 8 ∷ []) [] None
    ∷ a_module 2 [] (imports 1 false 1 selection.Whole ∷ []) (Some (var_item (used 1 7) ∷ []))
    ∷ a_module 3 [] (imports 1 false 1 (selection.Hiding (var_item (used 5 7) ∷ [])) ∷ imports 2 false 2 selection.Whole ∷ []) (Some []) ∷ [])
    ≡ linked (0 ∷ 1 ∷ 2 ∷ 3 ∷ []) (scope [] ∷ scope (val None 7 1 ∷ val (Some 1) 7 1 ∷ val None 8 1 ∷ val (Some 1) 8 1 ∷ [])
    ∷ scope (val None 7 1 ∷ val (Some 1) 7 1 ∷ val None 8 1 ∷ val (Some 1) 8 1 ∷ [])
    ∷ scope (val None 8 1 ∷ val (Some 1) 8 1 ∷ val None 7 1 ∷ val (Some 2) 7 1 ∷ []) ∷ [])
unfolding linked_of with_file scope_of imports_fault exports_of with_item entry_key use_key serves origin_key type_key walk
hides_for_one_import = refl

-- `T(..)` exports a constructor that is in scope under a qualifier alone
takes_constructors_of_any_qualifier : linked_of (prelude ∷ a_module 1 (type_named 7 ∷ con 7 8 ∷ []) [] None
    ∷ a_module 2 [] (imports 1 false 1 (selection.Only (type_item (used 5 7) parts.Bare ∷ [])) ∷ imports 1 true 3 (selection.Only (type_item (used 6 7) (parts.Listed (used 6 8 ∷ [])) ∷ [])) ∷ [])
    (Some (type_item (used 4 7) parts.All ∷ []))
    ∷ a_module 4 [] (imports 2 true 2 selection.Whole ∷ []) (Some []) ∷ [])
    ≡ linked (0 ∷ 1 ∷ 2 ∷ 3 ∷ []) (scope [] ∷ scope (typ None 7 1 ∷ typ (Some 1) 7 1 ∷ val None 8 1 ∷ val (Some 1) 8 1 ∷ [])
    ∷ scope (typ None 7 1 ∷ typ (Some 1) 7 1 ∷ typ (Some 3) 7 1 ∷ val (Some 3) 8 1 ∷ [])
    ∷ scope (typ (Some 2) 7 1 ∷ val (Some 2) 8 1 ∷ []) ∷ [])
unfolding linked_of with_file scope_of imports_fault exports_of with_item entry_key use_key serves origin_key type_key walk
takes_constructors_of_any_qualifier = refl

-- `module` with a qualifier that two imports share: of the first, qualified one only what is in scope without it too
exports_of_a_shared_qualifier : linked_of (prelude ∷ a_module 1 (value 7 ∷ value 8 ∷ []) [] None ∷ a_module 2 (value 9 ∷ []) [] None
    ∷ a_module 3 [] (imports 1 true 6 selection.Whole ∷ imports 2 false 6 selection.Whole ∷ []) (Some (module_item (used 1 6) ∷ []))
    ∷ a_module 4 [] (imports 3 true 3 selection.Whole ∷ []) (Some []) ∷ [])
    ≡ linked (0 ∷ 1 ∷ 2 ∷ 3 ∷ 4 ∷ []) (scope [] ∷ scope (val None 7 1 ∷ val (Some 1) 7 1 ∷ val None 8 1 ∷ val (Some 1) 8 1 ∷ []) ∷ scope (val None 9 2 ∷ val (Some 2) 9 2 ∷ [])
    ∷ scope (val (Some 6) 7 1 ∷ val (Some 6) 8 1 ∷ val None 9 2 ∷ val (Some 6) 9 2 ∷ [])
    ∷ scope (val (Some 3) 9 2 ∷ []) ∷ [])
unfolding linked_of with_file scope_of imports_fault exports_of with_item entry_key use_key serves origin_key type_key walk
exports_of_a_shared_qualifier = refl

-- one origin that is exported twice is exported once
one_origin_twice : linked_of (prelude ∷ a_module 1 (value 7 ∷ []) [] (Some (var_item (used 1 7) ∷ var_item (used_of 2 1 7) ∷ module_item (used 3 1) ∷ []))
    ∷ a_module 2 [] (imports 1 true 1 selection.Whole ∷ []) (Some []) ∷ [])
    ≡ linked (0 ∷ 1 ∷ 2 ∷ []) (scope [] ∷ scope (val None 7 1 ∷ val (Some 1) 7 1 ∷ []) ∷ scope (val (Some 1) 7 1 ∷ []) ∷ [])
unfolding linked_of with_file scope_of imports_fault exports_of with_item entry_key use_key serves origin_key type_key walk
one_origin_twice = refl

-- the implied header: the module Main exports `main` and nothing else
exports_main : linked_of (prelude ∷ a_module 48 (value 49 ∷ value 7 ∷ []) [] (Some (var_item (used 0 49) ∷ [])) ∷ a_module 2 [] (imports 48 true 48 selection.Whole ∷ []) (Some []) ∷ [])
    ≡ linked (0 ∷ 1 ∷ 2 ∷ []) (scope [] ∷ scope (val None 49 48 ∷ val (Some 48) 49 48 ∷ val None 7 48 ∷ val (Some 48) 7 48 ∷ []) ∷ scope (val (Some 48) 49 48 ∷ []) ∷ [])
unfolding linked_of with_file scope_of imports_fault exports_of with_item entry_key use_key serves origin_key type_key walk
exports_main = refl

-- a file that exports a name that it does not have
nothing_of_that_name : linked_of (prelude ∷ a_module 48 [] [] (Some (var_item (used 0 49) ∷ [])) ∷ []) ≡ Err (refusal.UnknownName (at 0) (name 49))
unfolding linked_of with_file scope_of imports_fault exports_of with_item entry_key use_key serves origin_key type_key walk
nothing_of_that_name = refl

-- two origins for one exported name, at the item that brings the second
two_origins : linked_of (prelude ∷ a_module 1 (value 7 ∷ []) [] None
    ∷ a_module 2 (value 7 ∷ []) (imports 1 false 1 selection.Whole ∷ []) (Some (var_item (used_of 4 2 7) ∷ module_item (used 5 1) ∷ [])) ∷ [])
    ≡ Err (refusal.AmbiguousName (at 5) (name 7))
unfolding linked_of with_file scope_of imports_fault exports_of with_item entry_key use_key serves origin_key type_key walk
two_origins = refl

-- a name that is not exported comes before a fault of an export list in an earlier file
missing_first : linked_of (prelude ∷ a_module 1 [] [] (Some (var_item (used 3 7) ∷ []))
    ∷ a_module 2 [] (imports 1 false 1 (selection.Only (var_item (used 4 8) ∷ [])) ∷ []) None ∷ [])
    ≡ Err (refusal.NotExported (at 4) (name 8))
unfolding linked_of with_file scope_of imports_fault exports_of with_item entry_key use_key serves origin_key type_key walk
missing_first = refl

-- the first ready file comes first, not the first file
order_by_imports : linked_of (prelude ∷ a_module 1 [] (imports 3 true 3 selection.Whole ∷ []) (Some []) ∷ a_module 2 [] [] None ∷ a_module 3 [] (imports 2 true 2 selection.Whole ∷ []) None ∷ [])
    ≡ linked (0 ∷ 2 ∷ 3 ∷ 1 ∷ []) (scope [] ∷ scope [] ∷ scope [] ∷ scope [] ∷ [])
unfolding linked_of with_file scope_of imports_fault exports_of with_item entry_key use_key serves origin_key type_key walk
order_by_imports = refl

-- a module that imports itself
own_cycle : linked_of (prelude ∷ a_module 1 [] (imports 1 false 1 selection.Whole ∷ []) None ∷ []) ≡ Err (refusal.CyclicImports (at 1) (name 1 ∷ []))
unfolding linked_of with_file scope_of imports_fault exports_of with_item entry_key use_key serves origin_key type_key walk
own_cycle = refl

-- the shortest way back, and of two the first by the imports
short_cycle : linked_of (prelude ∷ a_module 1 [] (imports 2 false 2 selection.Whole ∷ []) None
    ∷ a_module 2 [] (imports 3 false 3 selection.Whole ∷ imports 4 false 4 selection.Whole ∷ []) None
    ∷ a_module 3 [] (imports 1 false 1 selection.Whole ∷ []) None ∷ a_module 4 [] (imports 1 false 1 selection.Whole ∷ []) None ∷ [])
    ≡ Err (refusal.CyclicImports (at 2) (name 1 ∷ name 2 ∷ name 3 ∷ []))
unfolding linked_of with_file scope_of imports_fault exports_of with_item entry_key use_key serves origin_key type_key walk
short_cycle = refl

-- a second module of one name, and an unknown module
second_module : linked_of (prelude ∷ a_module 50 [] (imports 9 false 9 selection.Whole ∷ []) None ∷ []) ≡ Err (refusal.DoubleModule (at 0) (name 50))
unfolding linked_of with_file scope_of imports_fault exports_of with_item entry_key use_key serves origin_key type_key walk
second_module = refl

unknown_module : linked_of (prelude ∷ a_module 1 [] (imports 9 false 9 selection.Whole ∷ []) None ∷ []) ≡ Err (refusal.UnknownModule (at 9) (name 9))
unfolding linked_of with_file scope_of imports_fault exports_of with_item entry_key use_key serves origin_key type_key walk
unknown_module = refl
