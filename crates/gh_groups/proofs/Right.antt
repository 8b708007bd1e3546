-- What is checked of a plan makes its groups the right ones.
use Rattle.std.proofs.Common.{◌≡◌, ℕ, zero, suc, ◌<◌, ◌≤◌, ◌⊎◌, inl, inr, List, [], ◌∷◌, ◌++◌, length, Some, slice_get, get_or, sym, ap, subst, ◌∙◌, arith}
use Rattle.std.proofs.lemmas.Bool.{cases_lt}
use Rattle.std.proofs.lemmas.Option.{get_or_from_slice_get, slice_get_within}
use Rattle.gh_groups.specs.Grouping.{Has, Reaches, stay, go, IsDone, IsReady, IsGrouping, AreBelow}
use Rattle.gh_groups.specs.Plans.{Above, Below, VertexOk, GroupOk, Waits, OrderOk, first_in}

some_is : {A : Type 0} (a b : A) → Some a ≡ Some b → a ≡ b
some_is a b e = cc

pub below_at : (count : ℕ) (edges : List (ℕ × ℕ)) (k a b : ℕ) → AreBelow count edges → slice_get edges k ≡ Some (a, b) → (a < count) × (b < count)
below_at count [] k a b h e = absurd (cc)
below_at count (x ∷ edges) zero a b h e =
    let s : x ≡ (a, b) = some_is x (a, b) e in
    (subst (λ n. n < count) (ap (λ p. p.0) s) h.0, subst (λ n. n < count) (ap (λ p. p.1) s) h.1)
below_at count (x ∷ edges) (suc k) a b h e = below_at count edges k a b h.2 e

reach_trans : (edges : List (ℕ × ℕ)) {a b c : ℕ} → Reaches edges a b → Reaches edges b c → Reaches edges a c
reach_trans edges stay s = s
reach_trans edges (go e r) s = go e (reach_trans edges r s)

module _ (count : ℕ) (edges : List (ℕ × ℕ)) (low : AreBelow count edges) where
  reach_below : {a b : ℕ} → Reaches edges a b → a < count → b < count
  reach_below stay h = h
  reach_below (go {a} {b} {c} e r) h = reach_below r (below_at count edges e.at a b low e.is).1

  module _ (groups : List (List ℕ)) (places ups downs : List ℕ)
      (groups_ok : (p : ℕ) (g : List ℕ) → slice_get groups p ≡ Some g → GroupOk count places p g)
      (vertices_ok : (v : ℕ) → v < count → VertexOk edges groups places ups downs v)
      (edges_ok : (a b : ℕ) → Has edges (a, b) → get_or places b 0 ≤ get_or places a 0)
      (order_ok : (q : ℕ) → q < length groups → OrderOk edges groups places q) where
    reach_places : {a b : ℕ} → Reaches edges a b → get_or places b 0 ≤ get_or places a 0
    reach_places stay = omega arith
    reach_places (go {a} {b} {c} e r) = omega (arith, edges_ok a b e, reach_places r)

    -- a number's group is the one at its place
    in_group : (v : ℕ) (p : ℕ) (g : List ℕ) → v < count → get_or places v 0 ≡ p → slice_get groups p ≡ Some g → Has g v
    in_group v p g l s e =
        let V = vertices_ok v l in
        subst (λ h. Has h v) (some_is V.group g (sym V.is ∙ ap (λ n. slice_get groups n) s ∙ e)) V.has

    up : (n v : ℕ) (g : List ℕ) (r : ℕ) → v < count → get_or ups v 0 < n → slice_get groups (get_or places v 0) ≡ Some g → slice_get g 0 ≡ Some r → Reaches edges v r
    up zero v g r l m e f = absurd (omega arith)
    up (suc n) v g r l m e f = by (λ t a b c. up n t g r a b c f) (vertices_ok v l).above
      where
        by : ((t : ℕ) → t < count → get_or ups t 0 < n → slice_get groups (get_or places t 0) ≡ Some g → Reaches edges t r)
            → (slice_get (vertices_ok v l).group 0 ≡ Some v) ⊎ Above edges places ups v → Reaches edges v r
        by more (inl h) =
            let same : (vertices_ok v l).group ≡ g = some_is (vertices_ok v l).group g (sym (vertices_ok v l).is ∙ e) in
            let is : v ≡ r = some_is v r (sym h ∙ ap (λ x. slice_get x 0) same ∙ f) in
            subst (λ x. Reaches edges v x) is stay
        by more (inr A) =
            go (record { at = A.edge; is = A.is })
            (more A.to (below_at count edges A.edge v A.to low A.is).1 (omega (arith, A.less, m)) (ap (λ n. slice_get groups n) A.same ∙ e))

    down : (n v : ℕ) (g : List ℕ) (r : ℕ) → v < count → get_or downs v 0 < n → slice_get groups (get_or places v 0) ≡ Some g → slice_get g 0 ≡ Some r → Reaches edges r v
    down zero v g r l m e f = absurd (omega arith)
    down (suc n) v g r l m e f = by (λ t a b c. down n t g r a b c f) (vertices_ok v l).below
      where
        by : ((t : ℕ) → t < count → get_or downs t 0 < n → slice_get groups (get_or places t 0) ≡ Some g → Reaches edges r t)
            → (slice_get (vertices_ok v l).group 0 ≡ Some v) ⊎ Below edges places downs v → Reaches edges r v
        by more (inl h) =
            let same : (vertices_ok v l).group ≡ g = some_is (vertices_ok v l).group g (sym (vertices_ok v l).is ∙ e) in
            let is : v ≡ r = some_is v r (sym h ∙ ap (λ x. slice_get x 0) same ∙ f) in
            subst (λ x. Reaches edges x v) is stay
        by more (inr A) =
            reach_trans edges
            (more A.from (below_at count edges A.edge A.from v low A.is).0 (omega (arith, A.less, m)) (ap (λ n. slice_get groups n) A.same ∙ e))
            (go (record { at = A.edge; is = A.is }) stay)

    ready_in : (p : ℕ) (g : List ℕ) → slice_get groups p ≡ Some g → IsReady edges groups p g
    ready_in p g e a b edge h = by (cases_lt (get_or places b 0) p)
      where
        under : b < count
        under = (below_at count edges edge.at a b low edge.is).1

        own : get_or places a 0 ≡ p
        own = ((groups_ok p g e).members a h).1

        by : (get_or places b 0 < p) ⊎ (p ≤ get_or places b 0) → IsDone groups p b ⊎ Has g b
        by (inl l) = inl (record { place = get_or places b 0; earlier = l; group = (vertices_ok b under).group; is = (vertices_ok b under).is; has = (vertices_ok b under).has })
        by (inr l) =
            let same : get_or places b 0 ≡ p = omega (arith, edges_ok a b edge, own) in
            inr (in_group b p g under same e)

    first_in_order : (p q : ℕ) (g h : List ℕ) (v w : ℕ) → p < q → slice_get groups p ≡ Some g → slice_get groups q ≡ Some h → IsReady edges groups p h
        → slice_get g 0 ≡ Some v → slice_get h 0 ≡ Some w → v < w
    first_in_order p q g h v w l a b r f d = by (order_ok q (slice_get_within groups q h b) p l)
      where
        by : (first_in (slice_get groups p) < first_in (slice_get groups q)) ⊎ Waits edges places q p → v < w
        by (inl k) =
            let m : first_in (slice_get groups p) ≡ v = ap first_in a ∙ get_or_from_slice_get g 0 v 0 f in
            let n : first_in (slice_get groups q) ≡ w = ap first_in b ∙ get_or_from_slice_get h 0 w 0 d in
            omega (arith, k, m, n)
        by (inr W) = late (r W.from W.to W.edge (in_group W.from q h (below_at count edges W.edge.at W.from W.to low W.edge.is).0 W.own b))
          where
            late : IsDone groups p W.to ⊎ Has h W.to → v < w
            late (inl D) =
                let at : get_or places W.to 0 ≡ D.place = ((groups_ok D.place D.group D.is).members W.to D.has).1 in
                absurd (omega (arith, at, D.earlier, W.late))
            late (inr k) = absurd (W.other ((groups_ok q h b).members W.to k).1)

    pub grouping : IsGrouping count edges groups
    grouping = record {
      every = λ v l. (get_or places v 0, (vertices_ok v l).group, (vertices_ok v l).is, (vertices_ok v l).has);
      below = λ p g v e h. ((groups_ok p g e).members v h).0;
      once = λ p q g h v a b m n. sym ((groups_ok p g a).members v m).1 ∙ ((groups_ok q h b).members v n).1;
      together = λ p g a b e m n.
          let A = (groups_ok p g e).members a m in
          let B = (groups_ok p g e).members b n in
          let r = (groups_ok p g e).some in
          reach_trans edges
          (up (suc (get_or ups a 0)) a g r.0 A.0 (omega arith) (ap (λ k. slice_get groups k) A.1 ∙ e) r.1)
          (down (suc (get_or downs b 0)) b g r.0 B.0 (omega arith) (ap (λ k. slice_get groups k) B.1 ∙ e) r.1);
      apart = λ p g a b e m r s.
          let A = (groups_ok p g e).members a m in
          let same : get_or places b 0 ≡ p = omega (arith, reach_places r, reach_places s, A.1) in
          in_group b p g (reach_below r A.0) same e;
      some = λ p g e. (groups_ok p g e).some;
      ascend = λ p g e. (groups_ok p g e).ascend;
      ready = ready_in;
      first = first_in_order;
    }

pub below_more : (count a b : ℕ) (edges : List (ℕ × ℕ)) → AreBelow count edges → a < count → b < count → AreBelow count (edges ++ (a, b) ∷ [])
below_more count a b [] h l m = (l, m, tt)
below_more count a b (e ∷ edges) h l m = (h.0, h.1, below_more count a b edges h.2 l m)
