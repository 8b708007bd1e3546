-- Different names, of which no more are kept than tell that a limit is passed.
use Rattle.std.specs.Prelude.{ℕ, if◌then◌else◌, ◌==◌, nat_eq, List, [], ◌∷◌, ◌++◌, length}
use Rattle.std.specs.List.{list_any}

-- these names and one more, unless there are enough, or it is among them
unfoldable pub keep : List ℕ → ℕ → List ℕ
keep seen n = if length seen == 65 then seen else (if list_any (λ m. nat_eq m n) seen then seen else seen ++ n ∷ [])

-- these names and others
abbrev pub keeps : List ℕ → List ℕ → List ℕ
keeps seen [] = seen
keeps seen (n ∷ ns) = keeps (keep seen n) ns
