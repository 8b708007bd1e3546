use Rattle.std.proofs.Common.{ℕ, zero, suc, ◌<◌, ◌≤◌, ◌^◌, arith}
use Rattle.gh_words.proofs.words.number.Goals as goal

ten_below : (i : ℕ) → i < 7 → 10 ^ i ≤ 1000000
ten_below zero h = omega arith
ten_below (suc zero) h = omega arith
ten_below (suc (suc zero)) h = omega arith
ten_below (suc (suc (suc zero))) h = omega arith
ten_below (suc (suc (suc (suc zero)))) h = omega arith
ten_below (suc (suc (suc (suc (suc zero))))) h = omega arith
ten_below (suc (suc (suc (suc (suc (suc zero)))))) h = omega arith
ten_below (suc (suc (suc (suc (suc (suc (suc i))))))) h = absurd (omega arith)

pub overflow_mul-value : goal.overflow_mul-value
overflow_mul-value c = let i : c.loop-byte.byte-index < 7 = omega arith in omega (arith, ten_below c.loop-byte.byte-index i, c.loop-byte.invariant.small)

pub overflow_add-value : goal.overflow_add-value
overflow_add-value c =
    let i : c.loop-byte.byte-index < 7 = omega arith in
    omega (arith, ten_below c.loop-byte.byte-index i, c.loop-byte.invariant.small, c.type_inv.text c.loop-byte.byte-index)
