-- What is always true of the names beside a list of bindings.
use Rattle.std.specs.Prelude.{◌≡◌, ℕ, List, map}
use Rattle.indexmap.specs.IndexSet.{IndexSet}
use Rattle.gh_bindings.specs.declared.binding.Binding.{Binding}

abbrev pub IsListed : {H : Type 0} → IndexSet ℕ H → List Binding → Type 0
IsListed names items = names.keys ≡ map (λ b. b.name.0) items
