-- Counts of faults, and what calls do to bytes.
use Rattle.std.specs.Prelude.{◌≡◌, ◌⊎◌, ℕ, ◌+◌, ◌-◌, ◌^◌, ◌≤◌, min, List, [], ◌∷◌, ◌++◌, take, Option, Some, option_map}

-- a count went up, or stands at its last value
abbrev pub Rose : ℕ → ℕ → Type 0
Rose before now = min (before + 1) (2 ^ 64 - 1) ≤ now

-- these are the first bytes of the file, or all of it where it has fewer
abbrev pub Reads : Option (List ℕ) → ℕ → List ℕ → Type 0
Reads file most bytes = (whole : List ℕ) × (file ≡ Some whole) × (bytes ≡ take most whole)

-- these bytes were added at the end, where what was written is told
abbrev pub Appends : Option (List ℕ) → List ℕ → Option (List ℕ) → Type 0
Appends old bytes new = new ≡ option_map (λ b. b ++ bytes) old

-- a front of these bytes was added
abbrev pub AppendsFront : Option (List ℕ) → List ℕ → Option (List ℕ) → Type 0
AppendsFront old bytes new = (n : ℕ) × Appends old (take n bytes) new

-- one call more, as far as the count goes
abbrev pub Counted : ℕ → ℕ → Type 0
Counted before now = now ≡ min (before + 1) (2 ^ 64 - 1)

-- a name was asked for, or there was not memory enough and no name was
abbrev pub Asks : List (List ℕ) → List ℕ → Type 0 → List (List ℕ) → Type 0
Asks old name without_memory new = (new ≡ old ++ name ∷ []) ⊎ (without_memory × (new ≡ old))
