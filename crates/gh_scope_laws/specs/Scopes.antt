-- The scopes of all modules at once, by an equation: what an import gives is what the scope of the imported module exports.
use Rattle.std.specs.Prelude.{◌≡◌, ℕ, List, [], ◌∷◌, map, Option, Some, None, Result, Ok, Err, slice_get}
use Rattle.std.specs.Option.{option_or}
use Rattle.gh_base.specs.declared.refusal.Refusal.{Refusal}
use Rattle.gh_scopes.specs.declared.types.Summary.{Summary}
use Rattle.gh_scopes.specs.declared.types.ScopeEntry.{ScopeEntry}
use Rattle.gh_scopes.specs.declared.types.Scope.{Scope}
use Rattle.gh_scopes.specs.declared.types.Linked.{Linked}
use Rattle.gh_scopes.specs.Graph.{graph_of, before_scopes, first_some}
use Rattle.gh_scopes.specs.Order.{order_of}
use Rattle.gh_scopes.specs.Imports.{scope_of, imports_fault}
use Rattle.gh_scopes.specs.Exports.{exports_of}
use Rattle.gh_scopes.specs.Linking.{linked_of}

-- what each of these files exports, where these are their scopes
abbrev pub exports_over : List Summary → List Summary → List Scope → List (List ScopeEntry)
exports_over ss [] cs = []
exports_over ss (s ∷ rest) [] = []
exports_over ss (s ∷ rest) (c ∷ cs) = (exports_of ss s c.entries).entries ∷ exports_over ss rest cs

-- the scope of a file, where these are the exports of all files
abbrev pub scope_over : List Summary → List (List ScopeEntry) → Summary → Scope
scope_over ss exs s = record { entries = scope_of ss exs s }

-- each scope has what the file's definitions and imports give, where an imported module exports what its export list names in
-- its own scope
abbrev pub AreScopes : List Summary → List Scope → Type 0
AreScopes ss cs = cs ≡ map (scope_over ss (exports_over ss ss cs)) ss

pub record Scopes (ss : List Summary) : Type 0 where
  pub scopes : List Scope
  pub are : AreScopes ss scopes

-- where nothing is refused before the scopes, there are such scopes
abbrev pub HasScopes : Type 0
HasScopes = (ss : List Summary) → before_scopes ss ≡ None → Scopes ss

-- and no others
abbrev pub OneScopes : Type 0
OneScopes = (ss : List Summary) (a b : List Scope) → before_scopes ss ≡ None → AreScopes ss a → AreScopes ss b → a ≡ b

-- the refusals at a file: a name that an import lists and that its module does not export, and a fault of its export list

abbrev pub import_fault_by : List Summary → List Scope → Option Summary → Option Refusal
import_fault_by ss cs None = None
import_fault_by ss cs (Some s) = imports_fault ss (exports_over ss ss cs) s

abbrev pub import_fault_at : List Summary → List Scope → ℕ → Option Refusal
import_fault_at ss cs f = import_fault_by ss cs (slice_get ss f)

abbrev pub export_fault_by : List Summary → Option Summary → Option Scope → Option Refusal
export_fault_by ss None c = None
export_fault_by ss (Some s) None = None
export_fault_by ss (Some s) (Some c) = (exports_of ss s c.entries).fault

abbrev pub export_fault_at : List Summary → List Scope → ℕ → Option Refusal
export_fault_at ss cs f = export_fault_by ss (slice_get ss f) (slice_get cs f)

-- the first refusal: those before the scopes; then, along the order, those of imports; then, along the order, those of exports
abbrev pub refused_along : List Summary → List Scope → List ℕ → Option Refusal
refused_along ss cs order = option_or (first_some (import_fault_at ss cs) order) (first_some (export_fault_at ss cs) order)

abbrev pub first_refusal : List Summary → List Scope → Option Refusal
first_refusal ss cs = option_or (before_scopes ss) (refused_along ss cs (order_of (graph_of ss)))

abbrev pub answer_by : List ℕ → List Scope → Option Refusal → Result Linked Refusal
answer_by order cs (Some r) = Err r
answer_by order cs None = Ok (record { order = order; scopes = cs })

-- the answer of linking is the first refusal over these scopes, or the order and these scopes
abbrev pub AnswerOver : Type 0
AnswerOver = (ss : List Summary) (cs : List Scope) → AreScopes ss cs → linked_of ss ≡ answer_by (order_of (graph_of ss)) cs (first_refusal ss cs)

-- the scopes that linking answers are such scopes
abbrev pub AnsweredScopes : Type 0
AnsweredScopes = (ss : List Summary) (l : Linked) → linked_of ss ≡ Ok l → AreScopes ss l.scopes
