-- The order has every file.
use Rattle.std.specs.Prelude.{◌≡◌, ℕ, ◌<◌, true, List, length, None}
use Rattle.gh_scopes.specs.declared.types.Summary.{Summary}
use Rattle.gh_scopes.specs.Graph.{before_scopes, graph_of}
use Rattle.gh_scopes.specs.Order.{order_of, taken}

-- where no module has the name of another, no import lies on a cycle and none is of an unknown module, every file is in the order
abbrev pub HasAll : Type 0
HasAll = (ss : List Summary) → before_scopes ss ≡ None → (f : ℕ) → f < length ss → taken (order_of (graph_of ss)) f ≡ true
