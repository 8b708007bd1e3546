-- Variables with their types.
use Rattle.std.proofs.Common.{◌≡◌, ℕ, ◌==◌, Bool, true, false, cond, List, [], ◌∷◌, Option, Some, None, refl}
use Rattle.std.specs.Prelude.{option_map}
use Rattle.gh_core.specs.SameType.{Nameless}
use Rattle.gh_core.specs.Typing.{var_type}
use Rattle.gh_core_lint.specs.declared.types.Node.{Node}
use Rattle.gh_core_lint.specs.Scopes.{item_of}
use Rattle.gh_core_lint.specs.Stops.{vars_of}
use Rattle.gh_core_lint.specs.Types.{type_at}

abbrev pub joined : Option (Option Node) → Option Nameless
joined None = None
joined (Some o) = option_map type_at o

joined_choice : (b : Bool) (o : Option Node) (p : Option Nameless) (q : Option (Option Node)) → p ≡ joined q → cond b (option_map type_at o) p ≡ joined (cond b (Some o) q)
joined_choice true o p q h = refl
joined_choice false o p q h = h

-- the type of a variable is what its nearest binder has
pub var_in : (bs : List (ℕ × Option Node)) (x : ℕ) → var_type (vars_of bs) x ≡ joined (item_of bs x)
var_in [] x = refl
var_in (b ∷ bs) x = joined_choice (b.0 == x) b.1 (var_type (vars_of bs) x) (item_of bs x) (var_in bs x)
