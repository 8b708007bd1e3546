-- Files by name, and counts of names.
use Rattle.std.specs.Prelude.{ℕ, ◌+◌, List, [], ◌∷◌, Option, Some, None, if◌then◌else◌}
use Rattle.std.specs.Str.{bytes_eq}

-- the first file of that name
abbrev pub file_of : List (List ℕ × List ℕ) → List ℕ → Option (List ℕ)
file_of [] name = None
file_of (f ∷ files) name = if bytes_eq f.0 name then Some f.1 else file_of files name

-- how often a name stands in a list
abbrev pub times : List ℕ → List (List ℕ) → ℕ
times name [] = 0
times name (n ∷ names) = (if bytes_eq n name then 1 else 0) + times name names
