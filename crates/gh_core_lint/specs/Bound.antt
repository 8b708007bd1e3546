-- Variables that are bound inside others.
use Rattle.std.specs.Prelude.{◌≡◌, ℕ, ◌++◌, List, Option}
use Rattle.gh_core.specs.declared.types.CoreType.{CoreType}
use Rattle.gh_core.specs.declared.terms.CoreTerm.{CoreTerm}
use Rattle.gh_core.specs.Typing.{Types_of}
use Rattle.gh_core_lint.specs.declared.types.Node.{Node}
use Rattle.gh_core_lint.specs.Stops.{vars_of}

-- the variable of a binding
abbrev pub binder_of : ℕ × CoreType × CoreTerm → ℕ
binder_of b = b.0

-- these variables with their types are bound inside those that were, and nothing else changed
abbrev pub Adds : Types_of → List (ℕ × Option Node) → List (ℕ × Option Node) → Type 0
Adds gs old new = (bs : List (ℕ × Option Node)) × (new ≡ bs ++ old) × (vars_of bs ≡ gs)
