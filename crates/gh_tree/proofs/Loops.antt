-- The steps of `many`, and a loop that reads items beside it.
use Rattle.std.proofs.Common.{◌≡◌, ℕ, zero, suc, ◌+◌, ◌-◌, ◌<◌, ◌≤◌, Bool, true, false, List, [], ◌∷◌, ◌++◌, Some, None, refl, sym, ap, ◌∙◌, arith, length, append_assoc, cond, append-nil}
use Rattle.gh_tree.specs.declared.symbol.Sym.{Sym}
use Rattle.gh_tree.specs.Read.{Outcome, Read, and_then, many}

abbrev pub with_front : {A : Type 0} → List A → Outcome (List A) → Outcome (List A)
with_front front (Some p) = Some (front ++ p.0, p.1)
with_front front None = None

with_front_more : {A : Type 0} (front : List A) (x : A) (r : Outcome (List A)) →
    with_front front (and_then r (λ xs ss. Some (x ∷ xs, ss))) ≡ with_front (front ++ x ∷ []) r
with_front_more front x (Some p) = ap (λ ys. Some (ys, p.1)) (sym (append_assoc front (x ∷ []) p.0))
with_front_more front x None = refl

pub with_front_none : {A : Type 0} (r : Outcome (List A)) → r ≡ with_front [] r
with_front_none (Some p) = refl
with_front_none None = refl

module _ {A : Type 0} (begins : List Sym → Bool) (item : Read A) where
  unfoldable pub step_of : ℕ → List Sym → Bool → Outcome (List A)
  step_of n ss true = and_then (item ss) (λ x ss'. and_then (many begins item n ss') (λ xs ss''. Some (x ∷ xs, ss'')))
  step_of n ss false = Some ([], ss)

  pub many_step : (n : ℕ) (ss : List Sym) → many begins item (suc n) ss ≡ step_of n ss (begins ss)
  unfolding many step_of
  many_step n ss = elim (begins ss) as (λ b. cond {A = Outcome (List A)} b (and_then (item ss) (λ x ss'. and_then (many begins item n ss') (λ xs ss''. Some (x ∷ xs, ss'')))) (Some ([], ss)) ≡ step_of n ss b) [ true ↦ refl | false ↦ refl ]

  pub many_more : (n : ℕ) (ss ss' : List Sym) (x : A) → begins ss ≡ true → item ss ≡ Some (x, ss') →
      many begins item (suc n) ss ≡ and_then (many begins item n ss') (λ xs ss''. Some (x ∷ xs, ss''))
  unfolding step_of
  many_more n ss ss' x is read = rw (many_step n ss, is, read) refl

  pub many_fails : (n : ℕ) (ss : List Sym) → begins ss ≡ true → item ss ≡ None → many begins item (suc n) ss ≡ None
  unfolding step_of
  many_fails n ss is read = rw (many_step n ss, is, read) refl

  pub many_stops : (n : ℕ) (ss : List Sym) → begins ss ≡ false → many begins item n ss ≡ Some ([], ss)
  unfolding many step_of
  many_stops zero ss is = refl
  many_stops (suc n) ss is = rw (many_step n ss, is) refl

  pub many_none : (ss : List Sym) → many begins item zero ss ≡ Some ([], ss)
  unfolding many
  many_none ss = refl

  -- the loop, for what it is to find
  pub begin : (n : ℕ) (found : List A) (ss : List Sym) → n ≡ length ss → found ≡ [] → many begins item (length ss) ss ≡ with_front found (many begins item (n - 0) ss)
  begin n found ss count none =
      let turns : length ss ≡ n - 0 = omega arith in
      ap (λ m. many begins item m ss) turns ∙ with_front_none _ ∙ ap (λ (f : List A). with_front f (many begins item (n - 0) ss)) (sym none)

  pub more : (all : Outcome (List A)) (n at : ℕ) (found : List A) (x : A) (ss ss' : List Sym) → at < n → begins ss ≡ true →
      item ss ≡ Some (x, ss') → all ≡ with_front found (many begins item (n - at) ss) →
      all ≡ with_front (found ++ x ∷ []) (many begins item (n - (at + 1)) ss')
  more all n at found x ss ss' below is read so_far =
      let turn : n - at ≡ suc (n - (at + 1)) = omega arith in
      so_far ∙ ap (λ m. with_front found (many begins item m ss)) turn ∙ ap (with_front found) (many_more _ ss ss' x is read)
      ∙ with_front_more found x (many begins item (n - (at + 1)) ss')

  pub fails : (all : Outcome (List A)) (n at : ℕ) (found : List A) (ss : List Sym) → at < n → begins ss ≡ true →
      item ss ≡ None → all ≡ with_front found (many begins item (n - at) ss) → all ≡ None
  fails all n at found ss below is read so_far =
      let turn : n - at ≡ suc (n - (at + 1)) = omega arith in
      so_far ∙ ap (λ m. with_front found (many begins item m ss)) turn ∙ ap (with_front found) (many_fails _ ss is read)

  pub stops : (all : Outcome (List A)) (n : ℕ) (found : List A) (ss : List Sym) → begins ss ≡ false →
      all ≡ with_front found (many begins item n ss) → all ≡ Some (found, ss)
  stops all n found ss is so_far = so_far ∙ ap (with_front found) (many_stops n ss is) ∙ ap (λ (ys : List A). Some (ys, ss)) (append-nil found)

  pub ends : (all : Outcome (List A)) (n at : ℕ) (found : List A) (ss : List Sym) → n ≤ at →
      all ≡ with_front found (many begins item (n - at) ss) → all ≡ Some (found, ss)
  ends all n at found ss done so_far =
      let none : n - at ≡ 0 = omega arith in
      so_far ∙ ap (λ m. with_front found (many begins item m ss)) none ∙ ap (with_front found) (many_none ss) ∙ ap (λ (ys : List A). Some (ys, ss)) (append-nil found)
