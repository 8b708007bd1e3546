-- Lists that grow at their end.
use Rattle.std.proofs.Common.{◌≡◌, ◌<◌, ℕ, zero, suc, ◌+◌, List, [], ◌∷◌, ◌++◌, length, drop, get_or, refl, sym, ap, ◌∙◌, arith}
use Rattle.gh_match.specs.Compiled.{numbers}

pub append_none : (xs : List ℕ) (m : ℕ) → xs ++ numbers m 0 ≡ xs
append_none [] m = refl
append_none (x ∷ xs) m = ap (λ l. x ∷ l) (append_none xs m)

pub assoc : {A : Type 0} (xs ys zs : List A) → (xs ++ ys) ++ zs ≡ xs ++ (ys ++ zs)
assoc [] ys zs = refl
assoc (x ∷ xs) ys zs = ap (λ l. x ∷ l) (assoc xs ys zs)

pub push_numbers : (from i n : ℕ) (made new : List ℕ) (x : ℕ) → new ≡ made ++ (x ∷ []) → x ≡ from + i → new ++ numbers (from + (i + 1)) n ≡ made ++ numbers (from + i) (suc n)
push_numbers from i n made new x pushed is =
    let e : from + (i + 1) ≡ suc (from + i) = omega arith in
    (λ j. (pushed ∙ ap (λ y. made ++ (y ∷ [])) is) j ++ numbers (e j) n) ∙ assoc made ((from + i) ∷ []) (numbers (suc (from + i)) n)
