-- The linking of all files: the first refusal in the order of the phases, or the order and the scopes.
use Rattle.std.specs.Prelude.{ℕ, List, [], ◌∷◌, length, Option, Some, None, Result, Ok, Err, slice_get, slice_set, replicate}
use Rattle.std.specs.Option.{option_or}
use Rattle.gh_base.specs.declared.refusal.Refusal.{Refusal}
use Rattle.gh_scopes.specs.declared.types.Summary.{Summary}
use Rattle.gh_scopes.specs.declared.types.ScopeEntry.{ScopeEntry}
use Rattle.gh_scopes.specs.declared.types.Scope.{Scope}
use Rattle.gh_scopes.specs.declared.types.Linked.{Linked}
use Rattle.gh_scopes.specs.declared.given.Given.{Given}
use Rattle.gh_scopes.specs.declared.progress.Progress.{Progress}
use Rattle.gh_scopes.specs.Graph.{graph_of, before_scopes}
use Rattle.gh_scopes.specs.Order.{order_of}
use Rattle.gh_scopes.specs.Imports.{scope_of, imports_fault}
use Rattle.gh_scopes.specs.Exports.{exports_of}

-- what is known of the files so far, by their numbers, and the first fault of an export list
abbrev pub State : Type 0
State = Progress

abbrev pub no_scope : Scope
no_scope = record { entries = [] }

abbrev pub start : ℕ → State
start n = record { exports = replicate n []; scopes = replicate n no_scope; fault = None }

abbrev pub with_scope : State → ℕ → List ScopeEntry → Given → State
with_scope st f es g = record { exports = slice_set st.exports f g.entries; scopes = slice_set st.scopes f (record { entries = es }); fault = option_or st.fault g.fault }

abbrev pub scoped : List Summary → State → ℕ → Summary → State
scoped ss st f s = with_scope st f (scope_of ss st.exports s) (exports_of ss s (scope_of ss st.exports s))

-- one file more. A name that is not exported where it is imported is refused at once.

abbrev pub linked_by : List Summary → State → ℕ → Summary → Option Refusal → Result State Refusal
linked_by ss st f s (Some r) = Err r
linked_by ss st f s None = Ok (scoped ss st f s)

abbrev pub linked_at : List Summary → State → ℕ → Option Summary → Result State Refusal
linked_at ss st f None = Ok st
linked_at ss st f (Some s) = linked_by ss st f s (imports_fault ss st.exports s)

unfoldable pub with_file : List Summary → State → ℕ → Result State Refusal
with_file ss st f = linked_at ss st f (slice_get ss f)

abbrev pub along : List Summary → Result State Refusal → List ℕ → Result State Refusal
along ss r [] = r
along ss (Err e) (f ∷ fs) = Err e
along ss (Ok st) (f ∷ fs) = along ss (with_file ss st f) fs

-- a fault of an export list is refused behind all imports

abbrev pub linked_unless : List ℕ → State → Option Refusal → Result Linked Refusal
linked_unless order st None = Ok (record { order = order; scopes = st.scopes })
linked_unless order st (Some r) = Err r

abbrev pub finished : List ℕ → Result State Refusal → Result Linked Refusal
finished order (Ok st) = linked_unless order st st.fault
finished order (Err r) = Err r

abbrev pub linked_after : List Summary → Option Refusal → Result Linked Refusal
linked_after ss (Some r) = Err r
linked_after ss None = finished (order_of (graph_of ss)) (along ss (Ok (start (length ss))) (order_of (graph_of ss)))

unfoldable pub linked_of : List Summary → Result Linked Refusal
linked_of ss = linked_after ss (before_scopes ss)
