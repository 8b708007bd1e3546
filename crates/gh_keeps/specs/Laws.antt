-- Laws on what runs show.
use Rattle.std.specs.Prelude.{◌≡◌, ℕ, ◌+◌, ◌*◌, ◌≤◌}
use Rattle.gh_core.specs.Reduce.{Program, State, reductions}
use Rattle.gh_core.specs.Run.{Seen, seen}
use Rattle.gh_keeps.specs.Keeps.{IsOver, Keeps, Reaches}

abbrev pub ReachesItself : Type 0
ReachesItself = (a : Seen) → Reaches a a

abbrev pub ReachesOn : Type 0
ReachesOn = (a b c : Seen) → Reaches a b → Reaches b c → Reaches a c

-- two that reach one another show the same
abbrev pub ReachesEither : Type 0
ReachesEither = (a b : Seen) → Reaches a b → Reaches b a → a ≡ b

-- what was shown stays
abbrev pub GoesOn : (ℕ → Seen) → Type 0
GoesOn run = (m n : ℕ) → m ≤ n → Reaches (run m) (run n)

-- every run of core, whatever its state
abbrev pub CoreGoesOn : Type 0
CoreGoesOn = (p : Program) (s : State) → GoesOn (λ n. seen (reductions p n s))

-- one run keeps another that keeps a third
abbrev pub KeepingComposes : Type 0
KeepingComposes = (f g : ℕ) (a b c : ℕ → Seen) → GoesOn c → Keeps f a b → Keeps g b c → Keeps (g * (f + 1)) a c

-- where either run is over, so is the other at some time, with the same bytes and the same end or failure
abbrev pub KeepingEnds : Type 0
KeepingEnds =
    (f : ℕ) (a b : ℕ → Seen) → Keeps f a b
    → ((n : ℕ) → IsOver (a n).status → (m : ℕ) × (a n ≡ b m)) × ((m : ℕ) → IsOver (b m).status → (n : ℕ) × (b m ≡ a n))
