-- There is at most one grouping.
use Rattle.std.proofs.Common.{◌≡◌, ℕ, zero, suc, ◌<◌, ◌≤◌, ◌⊎◌, inl, inr, List, [], ◌∷◌, Option, Some, None, slice_get, refl, sym, ap, subst, ◌∙◌, arith}
use Rattle.std.proofs.lemmas.Bool.{cases_lt}
use Rattle.gh_groups.specs.Grouping.{Has, Ascends, IsDone, IsReady, IsGrouping, HasOneGrouping}

some_is : {A : Type 0} (a b : A) → Some a ≡ Some b → a ≡ b
some_is a b e = cc

has_later : (x v : ℕ) (xs : List ℕ) → Has (x ∷ xs) v → (v ≡ x) ⊎ Has xs v
has_later x v xs h = by h.at h.is
  where
    by : (k : ℕ) → slice_get (x ∷ xs) k ≡ Some v → (v ≡ x) ⊎ Has xs v
    by zero e = inl (sym (some_is x v e))
    by (suc k) e = inr (record { at = k; is = e })

has_first : (x : ℕ) (xs : List ℕ) → Has (x ∷ xs) x
has_first x xs = record { at = 0; is = refl }

has_rest : (x v : ℕ) (xs : List ℕ) → Has xs v → Has (x ∷ xs) v
has_rest x v xs h = record { at = suc h.at; is = h.is }

rises : (x : ℕ) (xs : List ℕ) (v : ℕ) → Ascends (x ∷ xs) → Has xs v → x < v
rises x [] v a h = none h.is
  where
    none : slice_get {X = ℕ} [] h.at ≡ Some v → x < v
    none e = absurd (cc)
rises x (y ∷ ys) v a h = by (has_later y v ys h) (λ k. rises y ys v a.1 k)
  where
    by : (v ≡ y) ⊎ Has ys v → (Has ys v → y < v) → x < v
    by (inl e) more = omega (arith, a.0, e)
    by (inr k) more = omega (arith, a.0, more k)

ascends_rest : (x : ℕ) (xs : List ℕ) → Ascends (x ∷ xs) → Ascends xs
ascends_rest x [] a = tt
ascends_rest x (y ∷ ys) a = a.1

heads : (x y : ℕ) (xs ys : List ℕ) → Ascends (x ∷ xs) → Ascends (y ∷ ys) → Has (y ∷ ys) x → Has (x ∷ xs) y → x ≡ y
heads x y xs ys a b h k = by (has_later y x ys h) (has_later x y xs k)
  where
    by : (x ≡ y) ⊎ Has ys x → (y ≡ x) ⊎ Has xs y → x ≡ y
    by (inl e) r = e
    by (inr l) (inl e) = sym e
    by (inr l) (inr m) =
        let u : y < x = rises y ys x b l in
        let w : x < y = rises x xs y a m in
        absurd (omega arith)

below_rest : (x y : ℕ) (xs ys : List ℕ) → x ≡ y → Ascends (x ∷ xs) → ((v : ℕ) → Has (x ∷ xs) v → Has (y ∷ ys) v) → (v : ℕ) → Has xs v → Has ys v
below_rest x y xs ys e a f v h = by (has_later y v ys (f v (has_rest x v xs h)))
  where
    by : (v ≡ y) ⊎ Has ys v → Has ys v
    by (inl d) =
        let u : x < v = rises x xs v a h in
        absurd (omega arith)
    by (inr k) = k

-- two ascending lists with the same members are one
same_list : (xs ys : List ℕ) → Ascends xs → Ascends ys → ((v : ℕ) → Has xs v → Has ys v) → ((v : ℕ) → Has ys v → Has xs v) → xs ≡ ys
same_list [] [] a b f g = refl
same_list [] (y ∷ ys) a b f g =
    let h = g y (has_first y ys) in
    let e : slice_get {X = ℕ} [] h.at ≡ Some y = h.is in
    absurd (cc)
same_list (x ∷ xs) [] a b f g =
    let h = f x (has_first x xs) in
    let e : slice_get {X = ℕ} [] h.at ≡ Some x = h.is in
    absurd (cc)
same_list (x ∷ xs) (y ∷ ys) a b f g =
    let e : x ≡ y = heads x y xs ys a b (f x (has_first x xs)) (g y (has_first y ys)) in
    ap (λ z. z ∷ xs) e ∙ ap (λ zs. y ∷ zs) (same_list xs ys (ascends_rest x xs a) (ascends_rest y ys b) (below_rest x y xs ys e a f) (below_rest y x ys xs (sym e) b g))

present : (xs : List (List ℕ)) (i j : ℕ) (x : List ℕ) → i < j → slice_get xs j ≡ Some x → (h : List ℕ) × (slice_get xs i ≡ Some h)
present [] i j x l e = absurd (cc)
present (y ∷ xs) zero j x l e = (y, refl)
present (y ∷ xs) (suc i) zero x l e = absurd (omega arith)
present (y ∷ xs) (suc i) (suc j) x l e = present xs i j x (omega arith) e

same_items : (xs ys : List (List ℕ)) → ((i : ℕ) → slice_get xs i ≡ slice_get ys i) → xs ≡ ys
same_items [] [] f = refl
same_items [] (y ∷ ys) f =
    let e = f 0 in
    absurd (cc)
same_items (x ∷ xs) [] f =
    let e = f 0 in
    absurd (cc)
same_items (x ∷ xs) (y ∷ ys) f = ap (λ z. z ∷ xs) (some_is x y (f 0)) ∙ ap (λ zs. y ∷ zs) (same_items xs ys (λ i. f (suc i)))

module _ (count : ℕ) (edges : List (ℕ × ℕ)) where
  -- a group of one grouping that shares a number with one of another is that one
  same_group : (xs ys : List (List ℕ)) (p q : ℕ) (g h : List ℕ) (v : ℕ) → IsGrouping count edges xs → IsGrouping count edges ys
      → slice_get xs p ≡ Some g → slice_get ys q ≡ Some h → Has g v → Has h v → g ≡ h
  same_group xs ys p q g h v A B a b m n =
      same_list g h (A.ascend p g a) (B.ascend q h b)
      (λ w k. B.apart q h v w b n (A.together p g v w a m k) (A.together p g w v a k m))
      (λ w k. A.apart p g v w a m (B.together q h v w b n k) (B.together q h w v b k n))

  ready_too : (xs ys : List (List ℕ)) (i : ℕ) (g : List ℕ) → ((j : ℕ) → j < i → slice_get xs j ≡ slice_get ys j) → IsReady edges xs i g → IsReady edges ys i g
  ready_too xs ys i g same r a b e h = by (r a b e h)
    where
      by : IsDone xs i b ⊎ Has g b → IsDone ys i b ⊎ Has g b
      by (inl d) = inl (record { place = d.place; earlier = d.earlier; group = d.group; is = sym (same d.place d.earlier) ∙ d.is; has = d.has })
      by (inr k) = inr k

  -- with all before the same, no later group can be the other's
  not_later : (xs ys : List (List ℕ)) (i j : ℕ) (g : List ℕ) (v : ℕ) → IsGrouping count edges xs → IsGrouping count edges ys → ((j : ℕ) → j < i → slice_get xs j ≡ slice_get ys j)
      → slice_get xs i ≡ Some g → slice_get g 0 ≡ Some v → i < j → slice_get ys j ≡ Some g → ⊥
  not_later xs ys i j g v A B same a f l b = by (cases_lt k.0 i) (cases_lt i k.0)
    where
      here : (h : List ℕ) × (slice_get ys i ≡ Some h)
      here = present ys i j g l b

      w : (v : ℕ) × (slice_get here.0 0 ≡ Some v)
      w = B.some i here.0 here.1

      has_w : Has here.0 w.0
      has_w = record { at = 0; is = w.1 }

      lower : w.0 < v
      lower = B.first i j here.0 g w.0 v l here.1 b (ready_too xs ys i g same (A.ready i g a)) w.1 f

      k : (place : ℕ) × (group : List ℕ) × (slice_get xs place ≡ Some group) × Has group w.0
      k = A.every w.0 (B.below i here.0 w.0 here.1 has_w)

      one : k.1 ≡ here.0
      one = same_group xs ys k.0 i k.1 here.0 w.0 A B k.2 here.1 k.3 has_w

      by : (k.0 < i) ⊎ (i ≤ k.0) → (i < k.0) ⊎ (k.0 ≤ i) → ⊥
      by (inl c) d =
          let e : k.0 ≡ i = B.once k.0 i k.1 here.0 w.0 (sym (same k.0 c) ∙ k.2) here.1 k.3 has_w in
          absurd (omega arith)
      by (inr c) (inl d) =
          let r : IsReady edges xs i k.1 = subst (IsReady edges xs i) (sym one) (ready_too ys xs i here.0 (λ j m. sym (same j m)) (B.ready i here.0 here.1)) in
          let u : v < w.0 = A.first i k.0 g k.1 v w.0 d a k.2 r f (ap (λ h. slice_get h 0) one ∙ w.1) in
          absurd (omega (arith, lower))
      by (inr c) (inr d) =
          let e : k.0 ≡ i = omega arith in
          let same_g : g ≡ here.0 = some_is g here.0 (sym a ∙ sym (ap (λ n. slice_get xs n) e) ∙ k.2 ∙ ap (λ x. Some x) one) in
          let u : v ≡ w.0 = some_is v w.0 (sym f ∙ ap (λ h. slice_get h 0) same_g ∙ w.1) in
          absurd (omega (arith, u, lower))

  -- what stands at a place of one stands there in the other
  found : (xs ys : List (List ℕ)) (i : ℕ) (g : List ℕ) → IsGrouping count edges xs → IsGrouping count edges ys → ((j : ℕ) → j < i → slice_get xs j ≡ slice_get ys j)
      → slice_get xs i ≡ Some g → slice_get ys i ≡ Some g
  found xs ys i g A B same a = by (cases_lt w.0 i) (cases_lt i w.0)
    where
      v : (v : ℕ) × (slice_get g 0 ≡ Some v)
      v = A.some i g a

      has_v : Has g v.0
      has_v = record { at = 0; is = v.1 }

      w : (place : ℕ) × (group : List ℕ) × (slice_get ys place ≡ Some group) × Has group v.0
      w = B.every v.0 (A.below i g v.0 a has_v)

      one : g ≡ w.1
      one = same_group xs ys i w.0 g w.1 v.0 A B a w.2 has_v w.3

      by : (w.0 < i) ⊎ (i ≤ w.0) → (i < w.0) ⊎ (w.0 ≤ i) → slice_get ys i ≡ Some g
      by (inl c) d =
          let e : w.0 ≡ i = A.once w.0 i w.1 g v.0 (same w.0 c ∙ w.2) a w.3 has_v in
          absurd (omega arith)
      by (inr c) (inl d) = absurd (not_later xs ys i w.0 g v.0 A B same a v.1 d (w.2 ∙ ap (λ x. Some x) (sym one)))
      by (inr c) (inr d) =
          let e : i ≡ w.0 = omega arith in
          ap (λ n. slice_get ys n) e ∙ w.2 ∙ ap (λ x. Some x) (sym one)

  same_here : (xs ys : List (List ℕ)) (i : ℕ) → IsGrouping count edges xs → IsGrouping count edges ys → ((j : ℕ) → j < i → slice_get xs j ≡ slice_get ys j) → slice_get xs i ≡ slice_get ys i
  same_here xs ys i A B same = by (slice_get xs i) (slice_get ys i) refl refl
    where
      by : (o p : Option (List ℕ)) → slice_get xs i ≡ o → slice_get ys i ≡ p → slice_get xs i ≡ slice_get ys i
      by (Some g) p e d = e ∙ sym (found xs ys i g A B same e)
      by None None e d = e ∙ sym d
      by None (Some h) e d = found ys xs i h B A (λ j l. sym (same j l)) d ∙ sym d

  same_below : (xs ys : List (List ℕ)) → IsGrouping count edges xs → IsGrouping count edges ys → (n i : ℕ) → i < n → slice_get xs i ≡ slice_get ys i
  same_below xs ys A B zero i l = absurd (omega arith)
  same_below xs ys A B (suc n) i l = by (same_below xs ys A B n) (cases_lt i n)
    where
      by : ((j : ℕ) → j < n → slice_get xs j ≡ slice_get ys j) → (i < n) ⊎ (n ≤ i) → slice_get xs i ≡ slice_get ys i
      by more (inl c) = more i c
      by more (inr c) = same_here xs ys i A B (λ j m. more j (omega arith))

pub one_grouping : HasOneGrouping
one_grouping count edges xs ys A B = same_items xs ys (λ i. same_below count edges xs ys A B (suc i) i (omega arith))
