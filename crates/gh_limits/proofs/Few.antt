-- Counts that go no further than a limit.
use Rattle.std.proofs.Common.{arith, ◌≡◌, ℕ, ◌+◌, ◌<◌, ◌≤◌, min, Bool, true, false, nat_lt, if◌then◌else◌, refl, sym, ap, ◌∙◌}
use Rattle.std.proofs.lemmas.Bool.{ltb-true, ltb-false, lt-ltb, le-ltb}
use Rattle.gh_base.specs.declared.refusal.Limit.TheVariants.{Arguments, Bindings}
use Rattle.gh_limits.specs.Places.{place}

pub few_nested : (n m : ℕ) → min 17 (min 17 n + (1 + m)) ≡ min 17 (n + (1 + m))
few_nested n m = omega arith

-- a test of two numbers that lie on one side of a third
same_test : (k a b : ℕ) → (a ≤ k → b ≤ k) → (k < a → k < b) → (v : Bool) → nat_lt k a ≡ v → nat_lt k a ≡ nat_lt k b
same_test k a b down up true e = e ∙ sym (lt-ltb k b (up (ltb-true k a e)))
same_test k a b down up false e = e ∙ sym (le-ltb k b (down (ltb-false k a e)))

pub some_argument : (n : ℕ) → nat_lt 0 (min 17 n) ≡ nat_lt 0 n
some_argument n = same_test 0 (min 17 n) n (λ le. omega (le, arith)) (λ lt. omega (lt, arith)) (nat_lt 0 (min 17 n)) refl

passes_few : (n : ℕ) → nat_lt 16 (min 17 n) ≡ nat_lt 16 n
passes_few n = same_test 16 (min 17 n) n (λ le. omega (le, arith)) (λ lt. omega (lt, arith)) (nat_lt 16 (min 17 n)) refl

pub place_few : (n : ℕ) → place Arguments (min 17 n) ≡ place Arguments n
unfolding place
place_few n = ap (λ b. if b then 4 else 7) (passes_few n)

passes_bound : (d p : ℕ) → nat_lt 64 (min 65 d + min 65 p) ≡ nat_lt 64 (d + p)
passes_bound d p = same_test 64 (min 65 d + min 65 p) (d + p) (λ le. omega (le, arith)) (λ lt. omega (lt, arith)) (nat_lt 64 (min 65 d + min 65 p)) refl

pub place_bound : (d p : ℕ) → place Bindings (min 65 d + min 65 p) ≡ place Bindings (d + p)
unfolding place
place_bound d p = ap (λ b. if b then 5 else 7) (passes_bound d p)
