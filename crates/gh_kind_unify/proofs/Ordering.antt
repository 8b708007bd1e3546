-- Orders of the parts of kinds.
use Rattle.std.proofs.Common.{◌≡◌, ◌≢◌, ℕ, zero, suc, ◌+◌, ◌<◌, ◌≤◌, ◌⊎◌, List, [], ◌∷◌, ◌++◌, length, inl, inr, Option, Some, None, slice_get, refl, sym, ap, ◌∙◌, subst, arith}
use Rattle.std.proofs.lemmas.Option.{slice_get_within}
use Rattle.gh_groups.specs.Grouping.{Has, Reaches, Ascends, IsDone, IsGrouping, AreBelow}
use Rattle.gh_groups.specs.Grouping.Reaches.{stay, go}
use Rattle.gh_kind_unify.specs.declared.cells.Cell.{Cell}
use Rattle.gh_kind_unify.specs.declared.cells.Cell.TheVariants as is
use Rattle.gh_kind_unify.specs.Kinds.{Tree, star, arrow, Kinds, nodes, arrows}
use Rattle.gh_kind_unify.specs.Cells.{cell, Fits, Holds, IsTidyAt, IsTidy}
use Rattle.gh_kind_unify.specs.Orders.{PartIn, IsPart, AreEdges, IsEndless, IsOrder, singles, HasOther, value, Grounded}
use Rattle.gh_kind_unify.proofs.Places.{has_left, has_last, has_of, has_none, has_first, has_later, has_only, single_at, single_of, below_more, below_or}

-- ---- edges

pub edges_none : (cells : List Cell) → AreEdges cells 0 []
edges_none cells = record {
  only = λ v w h. absurd (has_none (v, w) h);
  every = λ v w l p. absurd (omega (arith, l));
  other = λ v w l p. absurd (omega (arith, l));
}

-- the edges of one unknown more
pub edges_more : (cells : List Cell) (v : ℕ) (edges more : List (ℕ × ℕ)) → AreEdges cells v edges
    → ((x : ℕ × ℕ) → Has edges x → Has more x)
    → ((u w : ℕ) → Has more (u, w) → Has edges (u, w) ⊎ ((u ≡ v) × IsPart cells u w))
    → ((w : ℕ) → IsPart cells v w → Has more (v, w)) → ((w : ℕ) → IsPart cells v w → w ≢ v) → AreEdges cells (suc v) more
edges_more cells v edges more e left of_more here away = record {
  only = λ u w h. by_either u w (of_more u w h);
  every = λ u w l p. every_of u w p (below_or u v l);
  other = λ u w l p. other_of u w p (below_or u v l);
}
  where
    by_either : (u w : ℕ) → Has edges (u, w) ⊎ ((u ≡ v) × IsPart cells u w) → (u < suc v) × IsPart cells u w
    by_either u w (inl h) = let p = e.only u w h in let l = p.0 in (omega (arith, l), p.1)
    by_either u w (inr p) = let q = p.0 in (omega (arith, q), p.1)

    every_of : (u w : ℕ) → IsPart cells u w → (u < v) ⊎ (u ≡ v) → Has more (u, w)
    every_of u w p (inl l) = left (u, w) (e.every u w l p)
    every_of u w p (inr q) = subst (λ z. Has more (z, w)) (sym q) (here w (subst (λ z. IsPart cells z w) q p))

    other_of : (u w : ℕ) → IsPart cells u w → (u < v) ⊎ (u ≡ v) → w ≢ u
    other_of u w p (inl l) = e.other u w l p
    other_of u w p (inr q) = λ r. away w (subst (λ z. IsPart cells z w) q p) (r ∙ q)

pub edges_same : (cells : List Cell) (v : ℕ) (c : Cell) (edges : List (ℕ × ℕ)) → AreEdges cells v edges → cell cells v ≡ c → ((w : ℕ) → PartIn c w → ⊥)
    → AreEdges cells (suc v) edges
edges_same cells v c edges e is_c nothing =
    edges_more cells v edges edges e (λ x h. h) (λ u w h. inl h)
    (λ w p. absurd (nothing w (subst (λ z. PartIn z w) is_c p))) (λ w p. absurd (nothing w (subst (λ z. PartIn z w) is_c p)))

pub edges_free : (cells : List Cell) (v : ℕ) (edges : List (ℕ × ℕ)) → AreEdges cells v edges → cell cells v ≡ is.Free → AreEdges cells (suc v) edges
edges_free cells v edges e c = edges_same cells v is.Free edges e c (λ w p. p)

pub edges_star : (cells : List Cell) (v : ℕ) (edges : List (ℕ × ℕ)) → AreEdges cells v edges → cell cells v ≡ is.Star → AreEdges cells (suc v) edges
edges_star cells v edges e c = edges_same cells v is.Star edges e c (λ w p. p)

pair_left : (a b c d : ℕ) → ◌≡◌ {A = ℕ × ℕ} (a, b) (c, d) → a ≡ c
pair_left a b c d e = ap (λ (p : ℕ × ℕ). p.0) e

pair_right : (a b c d : ℕ) → ◌≡◌ {A = ℕ × ℕ} (a, b) (c, d) → b ≡ d
pair_right a b c d e = ap (λ (p : ℕ × ℕ). p.1) e

link_set : (cells : List Cell) (v w : ℕ) (edges : List (ℕ × ℕ)) → IsTidy cells → v < length cells → AreEdges cells v edges → cell cells v ≡ is.Link w
    → AreEdges cells (suc v) (edges ++ (v, w) ∷ [])
link_set cells v w edges t l e c =
    let down = subst (IsTidyAt (length cells) v) c (t v l) in
    edges_more cells v edges (edges ++ (v, w) ∷ []) e (λ x h. has_left edges ((v, w) ∷ []) x h)
    (λ u z h. of_last u z (has_of edges (v, w) (u, z) h))
    (λ z p. subst (λ y. Has (edges ++ (v, w) ∷ []) (v, y)) (sym (subst (λ k. PartIn k z) c p)) (has_last edges (v, w)))
    (λ z p r. let q = subst (λ k. PartIn k z) c p in omega (arith, q, r, down))
  where
    of_last : (u z : ℕ) → Has edges (u, z) ⊎ (◌≡◌ {A = ℕ × ℕ} (u, z) (v, w)) → Has edges (u, z) ⊎ ((u ≡ v) × IsPart cells u z)
    of_last u z (inl h) = inl h
    of_last u z (inr q) = inr (pair_left u z v w q, subst (λ y. IsPart cells y z) (sym (pair_left u z v w q)) (subst (λ k. PartIn k z) (sym c) (pair_right u z v w q)))

arrow_set : (cells : List Cell) (v a b : ℕ) (edges : List (ℕ × ℕ)) → AreEdges cells v edges → cell cells v ≡ is.Arrow a b → a ≢ v → b ≢ v
    → AreEdges cells (suc v) ((edges ++ (v, a) ∷ []) ++ (v, b) ∷ [])
arrow_set cells v a b edges e c na nb =
    let once : List (ℕ × ℕ) = edges ++ (v, a) ∷ [] in
    edges_more cells v edges (once ++ (v, b) ∷ []) e (λ x h. has_left once ((v, b) ∷ []) x (has_left edges ((v, a) ∷ []) x h))
    (λ u z h. of_last u z (has_of (edges ++ (v, a) ∷ []) (v, b) (u, z) h))
    (λ z p. here z (subst (λ k. PartIn k z) c p))
    (λ z p. away z (subst (λ k. PartIn k z) c p))
  where
    part : (u z : ℕ) → u ≡ v → (z ≡ a) ⊎ (z ≡ b) → IsPart cells u z
    part u z q p = subst (λ y. IsPart cells y z) (sym q) (subst (λ k. PartIn k z) (sym c) p)

    of_first : (u z : ℕ) → Has edges (u, z) ⊎ (◌≡◌ {A = ℕ × ℕ} (u, z) (v, a)) → Has edges (u, z) ⊎ ((u ≡ v) × IsPart cells u z)
    of_first u z (inl h) = inl h
    of_first u z (inr q) = inr (pair_left u z v a q, part u z (pair_left u z v a q) (inl (pair_right u z v a q)))

    of_last : (u z : ℕ) → Has (edges ++ (v, a) ∷ []) (u, z) ⊎ (◌≡◌ {A = ℕ × ℕ} (u, z) (v, b)) → Has edges (u, z) ⊎ ((u ≡ v) × IsPart cells u z)
    of_last u z (inl h) = of_first u z (has_of edges (v, a) (u, z) h)
    of_last u z (inr q) = inr (pair_left u z v b q, part u z (pair_left u z v b q) (inr (pair_right u z v b q)))

    here : (z : ℕ) → (z ≡ a) ⊎ (z ≡ b) → Has ((edges ++ (v, a) ∷ []) ++ (v, b) ∷ []) (v, z)
    here z (inl p) = subst (λ y. Has ((edges ++ (v, a) ∷ []) ++ (v, b) ∷ []) (v, y)) (sym p) (has_left (edges ++ (v, a) ∷ []) ((v, b) ∷ []) (v, a) (has_last edges (v, a)))
    here z (inr p) = subst (λ y. Has ((edges ++ (v, a) ∷ []) ++ (v, b) ∷ []) (v, y)) (sym p) (has_last (edges ++ (v, a) ∷ []) (v, b))

    away : (z : ℕ) → (z ≡ a) ⊎ (z ≡ b) → z ≢ v
    away z (inl p) = λ r. na (sym p ∙ r)
    away z (inr p) = λ r. nb (sym p ∙ r)

pub edges_link : (cells : List Cell) (v w : ℕ) (edges more : List (ℕ × ℕ)) → IsTidy cells → v < length cells → cell cells v ≡ is.Link w → AreEdges cells v edges
    → more ≡ edges ++ (v, w) ∷ [] → AreEdges cells (suc v) more
edges_link cells v w edges more t l c e is_more = subst (AreEdges cells (suc v)) (sym is_more) (link_set cells v w edges t l e c)

pub below_link : (cells : List Cell) (v w : ℕ) (edges more : List (ℕ × ℕ)) → IsTidy cells → v < length cells → cell cells v ≡ is.Link w → AreBelow (length cells) edges
    → more ≡ edges ++ (v, w) ∷ [] → AreBelow (length cells) more
below_link cells v w edges more t l c b is_more =
    let down = subst (IsTidyAt (length cells) v) c (t v l) in
    subst (AreBelow (length cells)) (sym is_more) (below_more (length cells) edges (v, w) b l (omega (arith, down, l)))

pub edges_arrow : (cells : List Cell) (v a b : ℕ) (edges once more : List (ℕ × ℕ)) → cell cells v ≡ is.Arrow a b → a ≢ v → b ≢ v
    → AreEdges cells v edges → once ≡ edges ++ (v, a) ∷ [] → more ≡ once ++ (v, b) ∷ [] → AreEdges cells (suc v) more
edges_arrow cells v a b edges once more c na nb e is_once is_more =
    subst (AreEdges cells (suc v)) (sym (is_more ∙ ap (λ z. z ++ (v, b) ∷ []) is_once)) (arrow_set cells v a b edges e c na nb)

pub below_arrow : (cells : List Cell) (v a b : ℕ) (edges once more : List (ℕ × ℕ)) → IsTidy cells → v < length cells → cell cells v ≡ is.Arrow a b
    → AreBelow (length cells) edges → once ≡ edges ++ (v, a) ∷ [] → more ≡ once ++ (v, b) ∷ [] → AreBelow (length cells) more
below_arrow cells v a b edges once more t l c d is_once is_more =
    let q = subst (IsTidyAt (length cells) v) c (t v l) in
    subst (AreBelow (length cells)) (sym (is_more ∙ ap (λ z. z ++ (v, b) ∷ []) is_once))
    (below_more (length cells) (edges ++ (v, a) ∷ []) (v, b) (below_more (length cells) edges (v, a) d l q.0) l q.1)

arrow_nodes : (ρ : Kinds) (v a b : ℕ) → ρ v ≡ arrow (ρ a) (ρ b) → nodes (ρ v) ≡ suc (nodes (ρ a) + nodes (ρ b))
arrow_nodes ρ v a b e = ap nodes e

pub endless_here : (cells : List Cell) (v a b : ℕ) → v < length cells → cell cells v ≡ is.Arrow a b → (a ≡ v) ⊎ (b ≡ v) → IsEndless cells
endless_here cells v a b l c e ρ h =
    by_either e (arrow_nodes ρ v a b (subst (Fits ρ v) c (h v l)))
  where
    by_either : (a ≡ v) ⊎ (b ≡ v) → nodes (ρ v) ≡ suc (nodes (ρ a) + nodes (ρ b)) → ⊥
    by_either (inl p) n = let q = ap (λ z. nodes (ρ z)) p in omega (arith, n, q)
    by_either (inr p) n = let q = ap (λ z. nodes (ρ z)) p in omega (arith, n, q)

-- ---- no kind is a part of itself

abbrev Down : Kinds → ℕ → ℕ → Type 0
Down ρ v w = (nodes (ρ w) < nodes (ρ v)) ⊎ ((nodes (ρ w) ≡ nodes (ρ v)) × (w < v))

down_after : (ρ : Kinds) (a b c : ℕ) → Down ρ a b → Down ρ b c → Down ρ a c
down_after ρ a b c (inl p) (inl q) = inl (omega (arith, p, q))
down_after ρ a b c (inl p) (inr q) = let k = q.0 in inl (omega (arith, p, k))
down_after ρ a b c (inr p) (inl q) = let k = p.0 in inl (omega (arith, q, k))
down_after ρ a b c (inr p) (inr q) = let l = p.1 in let m = q.1 in inr (q.0 ∙ p.0, omega (arith, l, m))

down_never : (ρ : Kinds) (a b : ℕ) → Down ρ a b → Down ρ b a → ⊥
down_never ρ a b (inl p) (inl q) = omega (arith, p, q)
down_never ρ a b (inl p) (inr q) = let k = q.0 in omega (arith, p, k)
down_never ρ a b (inr p) (inl q) = let k = p.0 in omega (arith, q, k)
down_never ρ a b (inr p) (inr q) = let l = p.1 in let m = q.1 in omega (arith, l, m)

part_down : (cells : List Cell) (ρ : Kinds) (v w : ℕ) (c : Cell) → Fits ρ v c → IsTidyAt (length cells) v c → PartIn c w → Down ρ v w
part_down cells ρ v w is.Free f t p = absurd p
part_down cells ρ v w is.Star f t p = absurd p
part_down cells ρ v w (is.Arrow a b) f t (inl p) = let n = arrow_nodes ρ v a b f in let q = ap (λ z. nodes (ρ z)) p in inl (omega (arith, n, q))
part_down cells ρ v w (is.Arrow a b) f t (inr p) = let n = arrow_nodes ρ v a b f in let q = ap (λ z. nodes (ρ z)) p in inl (omega (arith, n, q))
part_down cells ρ v w (is.Link u) f t p = inr (ap (λ z. nodes (ρ z)) p ∙ ap nodes (sym f), omega (arith, p, t))

reach_down : (cells : List Cell) (edges : List (ℕ × ℕ)) (ρ : Kinds) → IsTidy cells → AreEdges cells (length cells) edges → Holds ρ cells
    → (a b : ℕ) → Reaches edges a b → (a ≡ b) ⊎ Down ρ a b
reach_down cells edges ρ t e h a b stay = inl refl
reach_down cells edges ρ t e h a b (go {b = m} has rest) =
    let p = e.only a m has in
    further (part_down cells ρ a m (cell cells a) (h a p.0) (t a p.0) p.1) (reach_down cells edges ρ t e h m b rest)
  where
    further : Down ρ a m → (m ≡ b) ⊎ Down ρ m b → (a ≡ b) ⊎ Down ρ a b
    further d (inl q) = inr (subst (Down ρ a) q d)
    further d (inr q) = inr (down_after ρ a m b d q)

pub endless_both : (cells : List Cell) (edges : List (ℕ × ℕ)) → IsTidy cells → AreEdges cells (length cells) edges
    → (a b : ℕ) → a < b → Reaches edges a b → Reaches edges b a → IsEndless cells
endless_both cells edges t e a b l r s ρ h =
    both (reach_down cells edges ρ t e h a b r) (reach_down cells edges ρ t e h b a s)
  where
    both : (a ≡ b) ⊎ Down ρ a b → (b ≡ a) ⊎ Down ρ b a → ⊥
    both (inl p) q = omega (arith, p, l)
    both (inr p) (inl q) = omega (arith, q, l)
    both (inr p) (inr q) = down_never ρ a b p q

pub endless_other : (cells : List Cell) (edges : List (ℕ × ℕ)) (groups : List (List ℕ)) → IsTidy cells → AreEdges cells (length cells) edges
    → IsGrouping (length cells) edges groups → HasOther groups → IsEndless cells
endless_other cells edges groups t e g (p, m, at, other) = by_group m at other (g.some p m at) (g.ascend p m at)
  where
    by_group : (m : List ℕ) → slice_get groups p ≡ Some m → ((v : ℕ) → m ≡ v ∷ [] → ⊥) → (v : ℕ) × (slice_get m 0 ≡ Some v) → Ascends m → IsEndless cells
    by_group [] at other first asc = absurd (let q = first.1 in cc)
    by_group (v ∷ []) at other first asc = absurd (other v refl)
    by_group (v ∷ (w ∷ m)) at other first asc =
        let hv = has_first v (w ∷ m) in
        let hw = has_later v w (w ∷ m) (has_first w m) in
        endless_both cells edges t e v w asc.0
        (g.together p (v ∷ (w ∷ m)) v w at hv hw) (g.together p (v ∷ (w ∷ m)) w v at hw hv)

pub order_of : (cells : List Cell) (edges : List (ℕ × ℕ)) (groups : List (List ℕ)) (order : List ℕ) → AreEdges cells (length cells) edges
    → IsGrouping (length cells) edges groups → groups ≡ singles order → IsOrder cells order
order_of cells edges groups order e g same = record {
  every = λ v l. let q = g.every v l in (q.0, single_of order q.0 v q.1 (subst (λ z. slice_get z q.0 ≡ Some q.1) same q.2) q.3);
  below = λ p v at. below_at p v at;
  parts = λ p v w at part. done p v w (e.other v w (below_at p v at) part)
      (g.ready p (v ∷ []) (group_at p v at) v w (e.every v w (below_at p v at) part) (has_first v []));
}
  where
    group_at : (p v : ℕ) → slice_get order p ≡ Some v → slice_get groups p ≡ Some (v ∷ [])
    group_at p v at = subst (λ z. slice_get z p ≡ Some (v ∷ [])) (sym same) (single_at order p v at)

    below_at : (p v : ℕ) → slice_get order p ≡ Some v → v < length cells
    below_at p v at = g.below p (v ∷ []) v (group_at p v at) (has_first v [])

    done : (p v w : ℕ) → w ≢ v → IsDone groups p w ⊎ Has (v ∷ []) w → (q : ℕ) × (q < p) × (slice_get order q ≡ Some w)
    done p v w n (inl d) = (d.place, d.earlier, single_of order d.place w d.group (subst (λ z. slice_get z d.place ≡ Some d.group) same d.is) d.has)
    done p v w n (inr h) = absurd (n (has_only v w h))
