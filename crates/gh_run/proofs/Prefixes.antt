-- Runs in pieces: what was printed before makes no difference to a run, and a run that is over stays.
use Rattle.std.proofs.Common.{◌≡◌, ℕ, zero, suc, ◌+◌, List, refl, sym, ap, ◌∙◌}
use Rattle.gh_core.specs.Reduce.{Status, running, ended, failed, State, Program, reduce_in, reduce, reductions}
use Rattle.gh_machine.specs.Prefix.{printed_before}
use Rattle.gh_machine.proofs.Prefix.{reductions-before}
use Rattle.gh_machine.proofs.Runs.{reductions_add}

-- a state with some bytes before those that it has printed
abbrev pub before : List ℕ → State → State
before o s = printed_before o s

pub reductions_before : (o : List ℕ) (p : Program) (n : ℕ) (s : State) → reductions p n (before o s) ≡ before o (reductions p n s)
reductions_before o p n s = reductions-before o p n s

-- so many reductions, and then some more
pub reductions_more : (p : Program) (m n : ℕ) (s : State) → reductions p (m + n) s ≡ reductions p n (reductions p m s)
reductions_more p m n s = sym (reductions_add p m n s)

over_in : (p : Program) (s : State) (r : Status) → s.status ≡ r → (r ≡ running → ⊥) → reduce p s ≡ s
over_in p s running e h = absurd (h refl)
over_in p s ended e h = ap (λ r. reduce_in p r s) e
over_in p s (failed cause place) e h = ap (λ r. reduce_in p r s) e

-- a run that is over stays
pub reductions_over : (p : Program) (n : ℕ) (s : State) → (s.status ≡ running → ⊥) → reductions p n s ≡ s
unfolding reductions
reductions_over p zero s h = refl
reductions_over p (suc n) s h = ap (reductions p n) (over_in p s s.status refl h) ∙ reductions_over p n s h
