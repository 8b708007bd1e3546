-- From one act after the other to whole runs.
use Rattle.std.proofs.Common.{◌≡◌, ℕ, zero, suc, ◌+◌, ◌*◌, ◌-◌, ◌<◌, ◌≤◌, ◌⊎◌, inl, inr, ⊎_elim, List, [], ◌∷◌, ◌++◌, length, refl, sym, ap, ◌∙◌, subst, arith, append_assoc, append-nil, length-append, mul-le-mul_left, le_trans, subst₂, mul-add}
use Rattle.std.proofs.lemmas.Bool.{cases_lt}
use Rattle.gh_core.specs.Reduce.{Status, running, ended, failed}
use Rattle.gh_core.specs.Run.{Seen}
use Rattle.gh_keeps.specs.Keeps.{IsOver, Reaches, Keeps, runs}

pub reaches_itself : (a : Seen) → Reaches a a
reaches_itself a = record { bytes = ([], append-nil a.out); over = λ h. refl }

pub reaches_on : {a b c : Seen} → Reaches a b → Reaches b c → Reaches a c
reaches_on {a} {b} {c} p q = record {
  bytes = (p.bytes.0 ++ q.bytes.0, sym (append_assoc a.out p.bytes.0 q.bytes.0) ∙ ap (λ l. l ++ q.bytes.0) p.bytes.1 ∙ q.bytes.1);
  over = λ h. let e = p.over h in e ∙ q.over (subst (λ s. IsOver s.status) e h);
}

none_more : (xs ys : List ℕ) → length (xs ++ ys) ≤ length xs → ys ≡ []
none_more xs [] h = refl
none_more xs (y ∷ ys) h = absurd (omega (arith, length-append xs (y ∷ ys), h))

-- over or running
by_status : (P : Type 0) (s : Status) → (IsOver s → P) → (s ≡ running → P) → P
by_status P running over on = on refl
by_status P ended over on = over tt
by_status P (failed c x) over on = over tt

-- what lies between two that show the same shows the same
pub squeezed : (a b c : Seen) → Reaches a b → Reaches b c → c ≡ a → b ≡ a
squeezed a b c p q e =
    by_status (b ≡ a) b.status (λ h. q.over h ∙ e) (λ hb.
    by_status (b ≡ a) a.status (λ h. sym (p.over h)) (λ ha.
    let r = p.bytes.0 in
    let r' = q.bytes.0 in
    let all : a.out ++ (r ++ r') ≡ a.out = sym (append_assoc a.out r r') ∙ ap (λ l. l ++ r') p.bytes.1 ∙ q.bytes.1 ∙ ap (λ x. x.out) e in
    let nil : r ≡ [] = none_more a.out r (omega (arith, ap length all, length-append a.out (r ++ r'), length-append r r', length-append a.out r)) in
    let out : b.out ≡ a.out = sym p.bytes.1 ∙ ap (λ l. a.out ++ l) nil ∙ append-nil a.out in
    let status : b.status ≡ a.status = hb ∙ sym ha in
    λ i. record { out = out i; status = status i }))

pub runs-zero : {S : Type 0} (step : S → S) (s : S) → runs step zero s ≡ s
unfolding runs
runs-zero step s = refl

pub runs-suc : {S : Type 0} (step : S → S) (n : ℕ) (s : S) → runs step (suc n) s ≡ runs step n (step s)
unfolding runs
runs-suc step n s = refl

pub runs-add : {S : Type 0} (step : S → S) (m n : ℕ) (s : S) → runs step n (runs step m s) ≡ runs step (m + n) s
runs-add step zero n s = ap (runs step n) (runs-zero step s) ∙ ap (λ k. runs step k s) (omega arith)
runs-add step (suc m) n s = ap (runs step n) (runs-suc step m s) ∙ runs-add step m n (step s) ∙ sym (runs-suc step (m + n) s) ∙ ap (λ k. runs step k s) (omega arith)

pub runs-still : {S : Type 0} (step : S → S) (n : ℕ) (s : S) → step s ≡ s → runs step n s ≡ s
runs-still step zero s e = runs-zero step s
runs-still step (suc n) s e = runs-suc step n s ∙ ap (runs step n) e ∙ runs-still step n s e

pub grown : {S : Type 0} (step : S → S) (seen : S → Seen) → ((s : S) → Reaches (seen s) (seen (step s))) → (n : ℕ) (s : S) → Reaches (seen s) (seen (runs step n s))
grown step seen grows zero s = subst (λ t. Reaches (seen s) (seen t)) (sym (runs-zero step s)) (reaches_itself (seen s))
grown step seen grows (suc n) s = subst (λ t. Reaches (seen s) (seen t)) (sym (runs-suc step n s)) (reaches_on (grows s) (grown step seen grows n (step s)))

pub grown_between : {S : Type 0} (step : S → S) (seen : S → Seen) → ((s : S) → Reaches (seen s) (seen (step s))) → (m n : ℕ) (s : S) → m ≤ n
    → Reaches (seen (runs step m s)) (seen (runs step n s))
grown_between step seen grows m n s le =
    let e : m + (n - m) ≡ n = omega (arith, le) in
    subst (λ t. Reaches (seen (runs step m s)) (seen t)) (runs-add step m (n - m) s ∙ ap (λ k. runs step k s) e) (grown step seen grows (n - m) (runs step m s))

-- before a state that shows the same as the first, all states do
pub quiet_before : {S : Type 0} (step : S → S) (seen : S → Seen) → ((s : S) → Reaches (seen s) (seen (step s))) → (s : S) (n j : ℕ) → n ≤ j
    → seen (runs step j s) ≡ seen s → seen (runs step n s) ≡ seen s
quiet_before step seen grows s n j le e =
    squeezed (seen s) (seen (runs step n s)) (seen (runs step j s)) (grown step seen grows n s) (grown_between step seen grows n j s le) e

-- One act of the model from s, as so many steps, and what core does for it from c, as so many reductions. Nothing is seen of it before
-- its last step. The weight w falls where core does nothing; where neither side can go on, both stay.
pub data Act {S C : Type 0} (factor : ℕ) (act : S → S) (reduce : C → C) (seen : S → Seen) (R : ℕ → S → C → Type 0) (w : ℕ) (s : S) (c : C) : Type 0 where
  moves : (j i v : ℕ) → seen (runs act j s) ≡ seen s → i ≤ factor * suc j → (1 ≤ i) ⊎ (v < w) → R v (runs act (suc j) s) (runs reduce i c) → Act factor act reduce seen R w s c
  stays : act s ≡ s → reduce c ≡ c → Act factor act reduce seen R w s c

pub by_order : {P : Type 0} (m n : ℕ) → (m < n → P) → (n ≤ m → P) → P
by_order m n f g = ⊎_elim f g (cases_lt m n)

le_by : (factor i k m n all : ℕ) → m + n ≡ all → i ≤ factor * m → k ≤ factor * n → i + k ≤ factor * all
le_by factor i k m n all e p q =
    let both : factor * all ≡ factor * m + factor * n = ap (λ x. factor * x) (sym e) ∙ mul-add factor m n in
    omega (arith, p, q, both)

module _ {S C : Type 0} (factor : ℕ) (act : S → S) (reduce : C → C) (seen : S → Seen) (shown : C → Seen) (R : ℕ → S → C → Type 0)
    (grows : (s : S) → Reaches (seen s) (seen (act s))) (rises : (c : C) → Reaches (shown c) (shown (reduce c)))
    (below : (w : ℕ) (s : S) (c : C) → R w s c → Reaches (seen s) (shown c))
    (catch : (w : ℕ) (s : S) (c : C) → R w s c → (k : ℕ) × Reaches (shown c) (seen (runs act k s)))
    (acts : (w : ℕ) (s : S) (c : C) → R w s c → Act factor act reduce seen R w s c) where
  abbrev Behind : ℕ → S → C → Type 0
  Behind n s c = (i : ℕ) × (i ≤ factor * n) × Reaches (seen (runs act n s)) (shown (runs reduce i c))

  at_once : (n w : ℕ) (s : S) (c : C) → R w s c → seen (runs act n s) ≡ seen s → Behind n s c
  at_once n w s c r e = (0, omega arith, subst₂ Reaches (sym e) (ap shown (sym (runs-zero reduce c))) (below w s c r))

  behind_by : (n w : ℕ) (s : S) (c : C) → R w s c → ((m v : ℕ) → m < n → (s' : S) (c' : C) → R v s' c' → Behind m s' c') → Act factor act reduce seen R w s c → Behind n s c
  behind_by n w s c r rec (stays es ec) = at_once n w s c r (ap seen (runs-still act n s es))
  behind_by n w s c r rec (moves j i v q le p r') =
      by_order j n
      (λ more.
      let s' = runs act (suc j) s in
      let c' = runs reduce i c in
      let b = rec (n - suc j) v (omega (arith, more)) s' c' r' in
      let all : suc j + (n - suc j) ≡ n = omega (arith, more) in
      let budget : i + b.0 ≤ factor * n = le_by factor i b.0 (suc j) (n - suc j) n all le b.1 in
      (i + b.0, budget, subst₂ Reaches (ap seen (runs-add act (suc j) (n - suc j) s) ∙ ap (λ k. seen (runs act k s)) all) (ap shown (runs-add reduce i b.0 c)) b.2))
      (λ few. at_once n w s c r (quiet_before act seen grows s n j few q))

  behind : (bound n w : ℕ) (s : S) (c : C) → n ≤ bound → R w s c → Behind n s c
  behind zero n w s c le r = behind_by n w s c r (λ m v l. absurd (omega (arith, l, le))) (acts w s c r)
  behind (suc bound) n w s c le r = behind_by n w s c r (λ m v l s' c' r'. behind bound m v s' c' (omega (arith, l, le)) r') (acts w s c r)

  abbrev Ahead : ℕ → S → C → Type 0
  Ahead n s c = (k : ℕ) × Reaches (shown (runs reduce n c)) (seen (runs act k s))

  ahead_some : (n : ℕ) (s : S) (c : C) (j i v : ℕ) → ((m v : ℕ) → m < n → (s' : S) (c' : C) → R v s' c' → Ahead m s' c') → 0 < i → R v (runs act (suc j) s) (runs reduce i c) → Ahead n s c
  ahead_some n s c j i v rec some r' =
      by_order i n
      (λ more.
      let b = rec (n - i) v (omega (arith, more, some)) (runs act (suc j) s) (runs reduce i c) r' in
      let all : i + (n - i) ≡ n = omega (arith, more) in
      (suc j + b.0, subst₂ Reaches (ap shown (runs-add reduce i (n - i) c ∙ ap (λ k. runs reduce k c) all)) (ap seen (runs-add act (suc j) b.0 s)) b.1))
      (λ few.
      let b = catch v (runs act (suc j) s) (runs reduce i c) r' in
      (suc j + b.0, reaches_on (grown_between reduce shown rises n i c few) (subst (Reaches (shown (runs reduce i c))) (ap seen (runs-add act (suc j) b.0 s)) b.1)))

  ahead_by : (n w : ℕ) (s : S) (c : C) → R w s c → ((m v : ℕ) → m < n → (s' : S) (c' : C) → R v s' c' → Ahead m s' c') → ((v : ℕ) (s' : S) → v < w → R v s' c → Ahead n s' c) → Act factor act reduce seen R w s c → Ahead n s c
  ahead_by n w s c r rec lighter (stays es ec) =
      let b = catch w s c r in
      (b.0, subst (λ x. Reaches x (seen (runs act b.0 s))) (ap shown (sym (runs-still reduce n c ec))) b.1)
  ahead_by n w s c r rec lighter (moves j i v q le (inr less) r') =
      by_order 0 i
      (λ some. ahead_some n s c j i v rec some r')
      (λ none.
      let e : i ≡ 0 = omega (arith, none) in
      let b = lighter v (runs act (suc j) s) less (subst (R v (runs act (suc j) s)) (ap (λ k. runs reduce k c) e ∙ runs-zero reduce c) r') in
      (suc j + b.0, subst (Reaches (shown (runs reduce n c))) (ap seen (runs-add act (suc j) b.0 s)) b.1))
  ahead_by n w s c r rec lighter (moves j i v q le (inl some) r') = ahead_some n s c j i v rec (omega (arith, some)) r'

  -- by the reductions, and where there is none by the weight
  ahead_at : (n : ℕ) → ((m v : ℕ) → m < n → (s' : S) (c' : C) → R v s' c' → Ahead m s' c') → (bound w : ℕ) (s : S) (c : C) → w ≤ bound → R w s c → Ahead n s c
  ahead_at n rec zero w s c le r = ahead_by n w s c r rec (λ v s' l. absurd (omega (arith, l, le))) (acts w s c r)
  ahead_at n rec (suc bound) w s c le r = ahead_by n w s c r rec (λ v s' l r'. ahead_at n rec bound v s' c (omega (arith, l, le)) r') (acts w s c r)

  ahead : (bound n w : ℕ) (s : S) (c : C) → n ≤ bound → R w s c → Ahead n s c
  ahead zero n w s c le r = ahead_at n (λ m v l. absurd (omega (arith, l, le))) w w s c (omega arith) r
  ahead (suc bound) n w s c le r = ahead_at n (λ m v l s' c' r'. ahead bound m v s' c' (omega (arith, l, le)) r') w w s c (omega arith) r

  pub keeps : (w : ℕ) (s : S) (c : C) → R w s c → Keeps factor (λ n. seen (runs act n s)) (λ n. shown (runs reduce n c))
  keeps w s c r = record {
    within = λ n.
        let b = behind n n w s c (omega arith) r in
        let le : b.0 ≤ factor * (n + 1) = le_trans b.1 (mul-le-mul_left factor (omega arith)) in
        reaches_on b.2 (grown_between reduce shown rises b.0 (factor * (n + 1)) c le);
    only = λ n. ahead n n w s c (omega arith) r;
  }

-- the same where related states show the same
module _ {S C : Type 0} (factor : ℕ) (act : S → S) (reduce : C → C) (seen : S → Seen) (shown : C → Seen) (R : ℕ → S → C → Type 0)
    (grows : (s : S) → Reaches (seen s) (seen (act s))) (rises : (c : C) → Reaches (shown c) (shown (reduce c)))
    (same : (w : ℕ) (s : S) (c : C) → R w s c → seen s ≡ shown c) (acts : (w : ℕ) (s : S) (c : C) → R w s c → Act factor act reduce seen R w s c) where
  shows_below : (w : ℕ) (s : S) (c : C) → R w s c → Reaches (seen s) (shown c)
  shows_below w s c r = subst (Reaches (seen s)) (same w s c r) (reaches_itself (seen s))

  shows_above : (w : ℕ) (s : S) (c : C) → R w s c → (k : ℕ) × Reaches (shown c) (seen (runs act k s))
  shows_above w s c r = (0, subst (Reaches (shown c)) (sym (same w s c r) ∙ ap seen (sym (runs-zero act s))) (reaches_itself (shown c)))

  pub keeps_alike : (w : ℕ) (s : S) (c : C) → R w s c → Keeps factor (λ n. seen (runs act n s)) (λ n. shown (runs reduce n c))
  keeps_alike = keeps factor act reduce seen shown R grows rises shows_below shows_above acts
