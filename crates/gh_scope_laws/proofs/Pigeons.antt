-- Of more values than there are numbers below a limit, two are the same.
use Rattle.std.proofs.Common.{◌≡◌, ◌⊎◌, inl, inr, ℕ, suc, zero, ◌+◌, ◌<◌, Bool, true, false, ◌||◌, ◌==◌, List, [], ◌∷◌, ◌++◌, refl, sym, ◌∙◌, arith}
use Rattle.std.proofs.lemmas.Bool.{or_cases, eqb-true, false≢true}
use Rattle.gh_scopes.specs.Order.{taken}
use Rattle.gh_scope_laws.proofs.Untaken.{untaken, taken_push, fewer}

abbrev values : (ℕ → ℕ) → ℕ → List ℕ
values f zero = []
values f (suc k) = values f k ++ f k ∷ []

pub record Twice (f : ℕ → ℕ) (k : ℕ) : Type 0 where
  pub early : ℕ
  pub late : ℕ
  pub order : early < late
  pub below : late < k
  pub same : f early ≡ f late

record Place (f : ℕ → ℕ) (k x : ℕ) : Type 0 where
  pub place : ℕ
  pub below : place < k
  pub is : f place ≡ x

or_end : (b : Bool) → (b || false) ≡ b
or_end true = refl
or_end false = refl

placed : (f : ℕ → ℕ) (k x : ℕ) → taken (values f k) x ≡ true → Place f k x
placed f zero x e = absurd (false≢true e)
placed f (suc k) x e = by (or_cases (taken (values f k) x) ((f k == x) || false) (sym (taken_push (values f k) (f k) x) ∙ e)) (placed f k x)
  where
    by : (taken (values f k) x ≡ true) ⊎ (((f k == x) || false) ≡ true) → (taken (values f k) x ≡ true → Place f k x) → Place f (suc k) x
    by (inl h) ih = let p = ih h in record { place = p.place; below = omega (arith, p.below); is = p.is }
    by (inr h) ih = record { place = k; below = omega arith; is = eqb-true (f k) x (sym (or_end (f k == x)) ∙ h) }

full : (n : ℕ) → untaken [] n ≡ n
full zero = refl
full (suc n) = let rest = full n in omega (arith, rest)

one_more : (f : ℕ → ℕ) (n k : ℕ) → ((i : ℕ) → f i < n) → untaken (values f k) n + k ≡ n → (b : Bool) → taken (values f k) (f k) ≡ b
    → Twice f (suc k) ⊎ (untaken (values f (suc k)) n + suc k ≡ n)
one_more f n k low e true h = let p = placed f k (f k) h in inl (record { early = p.place; late = k; order = p.below; below = omega arith; same = p.is })
one_more f n k low e false h = let less = fewer (values f k) (f k) n (low k) h in inr (omega (arith, less, e))

counted : (f : ℕ → ℕ) (n k : ℕ) → ((i : ℕ) → f i < n) → Twice f k ⊎ (untaken (values f k) n + k ≡ n)
counted f n zero low = inr (let all = full n in omega (arith, all))
counted f n (suc k) low = by (counted f n k low)
  where
    by : Twice f k ⊎ (untaken (values f k) n + k ≡ n) → Twice f (suc k) ⊎ (untaken (values f (suc k)) n + suc k ≡ n)
    by (inl t) = inl (record { early = t.early; late = t.late; order = t.order; below = omega (arith, t.below); same = t.same })
    by (inr e) = one_more f n k low e (taken (values f k) (f k)) refl

pub twice : (f : ℕ → ℕ) (n : ℕ) → ((i : ℕ) → f i < n) → Twice f (suc n)
twice f n low = by (counted f n (suc n) low)
  where
    by : Twice f (suc n) ⊎ (untaken (values f (suc n)) n + suc n ≡ n) → Twice f (suc n)
    by (inl t) = t
    by (inr e) = absurd (omega (arith, e))
