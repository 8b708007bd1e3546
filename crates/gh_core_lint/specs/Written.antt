-- Types of the check as written ones.
use Rattle.std.specs.Prelude.{ℕ, ◌+◌, ◌<◌, List, [], ◌∷◌}
use Rattle.gh_core.specs.SameType.{Nameless, bound, free, con, applied, forall, any}

-- all levels in a type are below a number
abbrev pub AllBelow : ℕ → Nameless → Type 0
AllBelow n (bound i) = Unit {0}
AllBelow n (free l) = l < n
AllBelow n (con c) = Unit {0}
AllBelow n (applied f x) = AllBelow n f × AllBelow n x
AllBelow n (forall k b) = AllBelow n b
AllBelow n (any k) = Unit {0}

-- the numbers of so many binders of a type, the nearest first: those from a number on
abbrev pub numbered_from : ℕ → ℕ → List ℕ
numbered_from base ℕ.zero = []
numbered_from base (ℕ.suc depth) = (base + depth) ∷ numbered_from base depth
