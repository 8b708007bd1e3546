-- Words and what follows them.
use Rattle.std.proofs.Common.{◌≡◌, ◌==◌, ◌<◌, ◌+◌, ◌%◌, ◌^◌, true, false, Bool, ℕ, ◌++◌, List, [], ◌∷◌, refl, sym, ap, subst, drop, get_or, arith}
use Rattle.std.specs.Prelude.{◌&&◌, not, decimal}
use Rattle.std.proofs.lemmas.Bool.{eqb-true, false_from_ne_true}
use Rattle.std.proofs.lemmas.Fmt.{decimal_by_steps}
use Rattle.gh_core_text.specs.Shown.{is_plain, all_plain}

pub and_left : (a b : Bool) → (a && b) ≡ true → a ≡ true
and_left true b e = refl
and_left false b e = cc

pub and_right : (a b : Bool) → (a && b) ≡ true → b ≡ true
and_right true b e = e
and_right false b e = absurd (cc)

pub and_both : (a b : Bool) → a ≡ true → b ≡ true → (a && b) ≡ true
and_both true b e f = f
and_both false b e f = absurd (cc)

pub not_true : (b : Bool) → not b ≡ true → b ≡ false
not_true true e = absurd (cc)
not_true false e = refl

pub not_false : (b : Bool) → b ≡ false → not b ≡ true
not_false true e = absurd (cc)
not_false false e = refl

-- the end of a text, or a space or closing bracket
abbrev pub Ends : List ℕ → Type 0
Ends [] = Unit {0}
Ends (c ∷ cs) = is_plain c ≡ false

not_both : (b : Bool) → b ≡ true → b ≡ false → ⊥
not_both true e f = absurd (cc)
not_both false e f = absurd (cc)

-- a word ends where what follows begins
pub word_split : (xs ys r s : List ℕ) → all_plain xs ≡ true → all_plain ys ≡ true → Ends r → Ends s → xs ++ r ≡ ys ++ s → (xs ≡ ys) × (r ≡ s)
word_split [] [] r s p q g h e = (refl, e)
word_split [] (y ∷ ys) r s p q g h e = absurd (not_both (is_plain y) (and_left (is_plain y) (all_plain ys) q) (subst Ends e g))
word_split (x ∷ xs) [] r s p q g h e = absurd (not_both (is_plain x) (and_left (is_plain x) (all_plain xs) p) (subst Ends (sym e) h))
word_split (x ∷ xs) (y ∷ ys) r s p q g h e =
    let rest = word_split xs ys r s (and_right (is_plain x) (all_plain xs) p) (and_right (is_plain y) (all_plain ys) q) g h (ap (drop 1) e) in
    ((λ i. get_or (e i) 0 x ∷ rest.0 i), rest.1)

pub append_cancel : (xs u v : List ℕ) → xs ++ u ≡ xs ++ v → u ≡ v
append_cancel [] u v e = e
append_cancel (x ∷ xs) u v e = append_cancel xs u v (ap (drop 1) e)

not_equal : (c n : ℕ) → n < c → (c == n) ≡ false
not_equal c n h = false_from_ne_true (c == n) (λ yes. let e : c ≡ n = eqb-true c n yes in absurd (omega arith))

plain_above : (c : ℕ) → 41 < c → is_plain c ≡ true
plain_above c h = and_both (not (c == 32)) (not (c == 41)) (not_false (c == 32) (not_equal c 32 (omega arith))) (not_false (c == 41) (not_equal c 41 h))

plain_append : (xs : List ℕ) (c : ℕ) → all_plain xs ≡ true → is_plain c ≡ true → all_plain (xs ++ c ∷ []) ≡ true
plain_append [] c p q = and_both (is_plain c) true q refl
plain_append (x ∷ xs) c p q =
    and_both (is_plain x) (all_plain (xs ++ c ∷ [])) (and_left (is_plain x) (all_plain xs) p) (plain_append xs c (and_right (is_plain x) (all_plain xs) p) q)

pub plain_decimal : (n : ℕ) → n < 2 ^ 64 → all_plain (decimal n) ≡ true
plain_decimal = decimal_by_steps (λ n ds. all_plain ds ≡ true)
    (λ n h. and_both (is_plain (48 + n)) true (plain_above (48 + n) (omega arith)) refl)
    (λ n ds h p. plain_append ds (48 + n % 10) p (plain_above (48 + n % 10) (omega arith)))
