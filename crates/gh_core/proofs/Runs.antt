-- Several reductions.
use Rattle.std.proofs.Common.{◌≡◌, ℕ, zero, suc, ◌+◌, refl, sym, ap, ◌∙◌, arith}
use Rattle.gh_base.specs.declared.place.Span.{Span}
use Rattle.gh_core.specs.Primitives.{Cause}
use Rattle.gh_core.specs.Reduce.{Program, State, ended, failed, reduce, reduce_in, reductions}

pub reductions_zero : (p : Program) (s : State) → reductions p 0 s ≡ s
unfolding reductions
reductions_zero p s = refl

pub reductions_first : (p : Program) (n : ℕ) (s : State) → reductions p (suc n) s ≡ reductions p n (reduce p s)
unfolding reductions
reductions_first p n s = refl

-- so many reductions, and so many more
pub reductions_add : (p : Program) (m n : ℕ) (s : State) → reductions p n (reductions p m s) ≡ reductions p (m + n) s
reductions_add p zero n s =
    let e : n ≡ zero + n = omega arith in ap (reductions p n) (reductions_zero p s) ∙ ap (λ k. reductions p k s) e
reductions_add p (suc m) n s =
    let e : suc (m + n) ≡ suc m + n = omega arith in
    ap (reductions p n) (reductions_first p m s) ∙ reductions_add p m n (reduce p s) ∙ sym (reductions_first p (m + n) s) ∙ ap (λ k. reductions p k s) e

-- one reduction more
pub reductions_last : (p : Program) (n : ℕ) (s : State) → reduce p (reductions p n s) ≡ reductions p (n + 1) s
reductions_last p n s = sym (reductions_first p 0 (reductions p n s) ∙ reductions_zero p (reduce p (reductions p n s))) ∙ reductions_add p n 1 s

pub reduce_ended : (p : Program) (s : State) → s.status ≡ ended → reduce p s ≡ s
reduce_ended p s e = ap (λ status. reduce_in p status s) e

pub reduce_failed : (p : Program) (s : State) (cause : Cause) (place : Span) → s.status ≡ failed cause place → reduce p s ≡ s
reduce_failed p s cause place e = ap (λ status. reduce_in p status s) e

-- a run that has stopped is never changed again
pub reductions_stay : (p : Program) (s : State) → reduce p s ≡ s → (n : ℕ) → reductions p n s ≡ s
reductions_stay p s h zero = reductions_zero p s
reductions_stay p s h (suc n) = reductions_first p n s ∙ ap (reductions p n) h ∙ reductions_stay p s h n
