-- How many files are still to be taken.
use Rattle.std.proofs.Common.{◌≡◌, ◌⊎◌, inl, inr, ℕ, suc, zero, ◌+◌, ◌<◌, ◌≤◌, Bool, true, false, ◌||◌, ◌==◌, List, [], ◌∷◌, ◌++◌, refl, sym, ap, ◌∙◌, arith}
use Rattle.std.proofs.lemmas.Bool.{cases_eq, eq-eqb, ne_eqb}
use Rattle.std.proofs.lemmas.List.Folds.{list_any-append}
use Rattle.gh_scopes.specs.Order.{taken}

abbrev one : Bool → ℕ
one true = 0
one false = 1

abbrev pub untaken : List ℕ → ℕ → ℕ
untaken done zero = 0
untaken done (suc n) = one (taken done n) + untaken done n

one_most : (b : Bool) → one b ≤ 1
one_most true = omega arith
one_most false = omega arith

pub most : (done : List ℕ) (n : ℕ) → untaken done n ≤ n
most done zero = omega arith
most done (suc n) = let a = one_most (taken done n) in let b = most done n in omega arith

pub taken_push : (done : List ℕ) (f h : ℕ) → taken (done ++ f ∷ []) h ≡ (taken done h || ((f == h) || false))
taken_push done f h = list_any-append (λ g. g == h) done (f ∷ [])

or_none : (b : Bool) → (b || (false || false)) ≡ b
or_none true = refl
or_none false = refl

or_one : (b : Bool) → (b || (true || false)) ≡ true
or_one true = refl
or_one false = refl

pub other : (done : List ℕ) (f h : ℕ) → (f ≡ h → ⊥) → taken (done ++ f ∷ []) h ≡ taken done h
other done f h ne = taken_push done f h ∙ ap (λ b. taken done h || (b || false)) (ne_eqb f h ne) ∙ or_none (taken done h)

itself : (done : List ℕ) (f h : ℕ) → f ≡ h → taken (done ++ f ∷ []) h ≡ true
itself done f h e = taken_push done f h ∙ ap (λ b. taken done h || (b || false)) (eq-eqb f h e) ∙ or_one (taken done h)

same_below : (done : List ℕ) (f n : ℕ) → n ≤ f → untaken (done ++ f ∷ []) n ≡ untaken done n
same_below done f zero le = refl
same_below done f (suc n) le =
    (λ i. one (other done f n (λ e. omega (arith, e, le)) i) + same_below done f n (omega arith) i)

-- one file more is one fewer to be taken
pub fewer : (done : List ℕ) (f n : ℕ) → f < n → taken done f ≡ false → untaken done n ≡ suc (untaken (done ++ f ∷ []) n)
fewer done f zero lt never = absurd (omega (arith, lt))
fewer done f (suc n) lt never = by (cases_eq f n) (fewer done f n)
  where
    by : (f ≡ n) ⊎ (f ≡ n → ⊥) → (f < n → taken done f ≡ false → untaken done n ≡ suc (untaken (done ++ f ∷ []) n)) → untaken done (suc n) ≡ suc (untaken (done ++ f ∷ []) (suc n))
    by (inl e) ih =
        let now : one (taken done n) ≡ 1 = ap one (ap (taken done) (sym e) ∙ never) in
        let after : one (taken (done ++ f ∷ []) n) ≡ 0 = ap one (itself done f n e) in
        let rest = same_below done f n (omega (arith, e)) in
        omega (arith, now, after, rest)
    by (inr ne) ih =
        let same : one (taken (done ++ f ∷ []) n) ≡ one (taken done n) = ap one (other done f n ne) in
        let rest = ih (below ne) never in
        omega (arith, same, rest)
      where
        below : (f ≡ n → ⊥) → f < n
        below d = omega (arith, lt, d)
