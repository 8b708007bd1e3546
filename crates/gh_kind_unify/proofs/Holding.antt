-- What cells say, one cell changed.
use Rattle.std.proofs.Common.{◌≡◌, ◌≢◌, ℕ, suc, ◌+◌, ◌*◌, ◌<◌, ◌≤◌, ◌⊎◌, true, false, List, length, set, get_or, sum_by, eqb, inl, inr, refl, sym, ap, ◌∙◌, subst, arith, length-set, get_or-set_same, get_or-set_other}
use Rattle.std.proofs.lemmas.Bool.Decides.{eqb_tells}
use Rattle.std.proofs.lemmas.List.Sums.{sum_by-set}
use Rattle.gh_kind_unify.specs.declared.cells.Cell.{Cell}
use Rattle.gh_kind_unify.specs.declared.cells.Cell.TheVariants as is
use Rattle.gh_kind_unify.specs.Kinds.{Kinds}
use Rattle.gh_kind_unify.specs.Cells.{cell, Fits, Holds, IsTidyAt, IsTidy, IsNoLink, cell_weight, weight, Alike, SameValue}

-- a fact of one number and of each other one is a fact of each
pub at_or : (P : ℕ → Type 0) (i v : ℕ) → P i → (v ≢ i → P v) → P v
at_or P i v here other = by_test (eqb_tells v i)
  where
    by_test : ((eqb v i ≡ true) × (v ≡ i)) ⊎ ((eqb v i ≡ false) × (v ≢ i)) → P v
    by_test (inl p) = subst P (sym p.1) here
    by_test (inr p) = other p.1

-- each cell but one fits
abbrev pub HoldsBut : ℕ → Kinds → List Cell → Type 0
HoldsBut i ρ cells = (v : ℕ) → v < length cells → v ≢ i → Fits ρ v (cell cells v)

pub but : (i : ℕ) (ρ : Kinds) (cells : List Cell) → Holds ρ cells → HoldsBut i ρ cells
but i ρ cells h v l n = h v l

pub whole : (i : ℕ) (ρ : Kinds) (cells : List Cell) → HoldsBut i ρ cells → Fits ρ i (cell cells i) → Holds ρ cells
whole i ρ cells b f v l = at_or (λ u. u < length cells → Fits ρ u (cell cells u)) i v (λ _. f) (λ n k. b v k n) l

pub put_holds : (i : ℕ) (ρ : Kinds) (cells : List Cell) (c : Cell) → i < length cells → HoldsBut i ρ cells → Fits ρ i c → Holds ρ (set cells i c)
put_holds i ρ cells c h b f v l =
    at_or (λ u. u < length cells → Fits ρ u (cell (set cells i c) u)) i v
    (λ _. subst (Fits ρ i) (sym (get_or-set_same cells i c is.Free h)) f)
    (λ n k. subst (Fits ρ v) (sym (get_or-set_other cells i v c is.Free n)) (b v k n))
    (subst (λ m. v < m) (length-set cells i c) l)

pub put_but : (i : ℕ) (ρ : Kinds) (cells : List Cell) (c : Cell) → Holds ρ (set cells i c) → HoldsBut i ρ cells
put_but i ρ cells c h v l n = subst (Fits ρ v) (get_or-set_other cells i v c is.Free n) (h v (subst (λ m. v < m) (sym (length-set cells i c)) l))

pub put_here : (i : ℕ) (ρ : Kinds) (cells : List Cell) (c : Cell) → i < length cells → Holds ρ (set cells i c) → Fits ρ i c
put_here i ρ cells c l h = subst (Fits ρ i) (get_or-set_same cells i c is.Free l) (h i (subst (λ m. i < m) (sym (length-set cells i c)) l))

pub put_tidy : (i : ℕ) (cells : List Cell) (c : Cell) → i < length cells → IsTidy cells → IsTidyAt (length cells) i c → IsTidy (set cells i c)
put_tidy i cells c h t f v l =
    subst (λ m. IsTidyAt m v (cell (set cells i c) v)) (sym (length-set cells i c))
    (at_or (λ u. u < length cells → IsTidyAt (length cells) u (cell (set cells i c) u)) i v
    (λ _. subst (IsTidyAt (length cells) i) (sym (get_or-set_same cells i c is.Free h)) f)
    (λ n k. subst (IsTidyAt (length cells) v) (sym (get_or-set_other cells i v c is.Free n)) (t v k))
    (subst (λ m. v < m) (length-set cells i c) l))

pub put_weight : (i : ℕ) (cells : List Cell) (c d : Cell) → i < length cells → cell cells i ≡ d → weight (set cells i c) + cell_weight d ≡ weight cells + cell_weight c
put_weight i cells c d h e = ap (λ z. weight (set cells i c) + cell_weight z) (sym e) ∙ sum_by-set cell_weight cells i c is.Free h

-- links that are made shorter
pub alike_self : (cells : List Cell) → IsTidy cells → Alike cells cells
alike_self cells t = record { count = refl; tidy = t; fewer = λ ρ h. h; more = λ ρ h. h; kept = λ v n. refl; equal = refl }

pub alike_after : (a b c : List Cell) → Alike a b → Alike b c → Alike a c
alike_after a b c p q = record {
  count = q.count ∙ p.count;
  tidy = q.tidy;
  fewer = λ ρ h. q.fewer ρ (p.fewer ρ h);
  more = λ ρ h. p.more ρ (q.more ρ h);
  kept = λ v n. q.kept v (subst IsNoLink (sym (p.kept v n)) n) ∙ p.kept v n;
  equal = q.equal ∙ p.equal;
}

pub link_below : (cells : List Cell) (v w : ℕ) → IsTidy cells → v < length cells → cell cells v ≡ is.Link w → w < v
link_below cells v w t l e = subst (IsTidyAt (length cells) v) e (t v l)

pub link_value : (cells : List Cell) (v w : ℕ) → v < length cells → cell cells v ≡ is.Link w → SameValue cells v w
link_value cells v w l e ρ h = subst (Fits ρ v) e (h v l)

shorter_set : (cells : List Cell) (at up top : ℕ) → IsTidy cells → at < length cells → cell cells at ≡ is.Link up → cell cells up ≡ is.Link top
    → Alike cells (set cells at (is.Link top))
shorter_set cells at up top t l e f =
    let p = link_below cells at up t l e in
    let q = link_below cells up top t (omega (arith, p, l)) f in
    let here = put_weight at cells (is.Link top) (is.Link up) l e in
    record {
      count = length-set cells at (is.Link top);
      tidy = put_tidy at cells (is.Link top) l t (omega (arith, p, q));
      fewer = λ ρ h. put_holds at ρ cells (is.Link top) l (but at ρ cells h) (link_value cells at up l e ρ h ∙ link_value cells up top (omega (arith, p, l)) f ρ h);
      more = λ ρ h. whole at ρ cells (put_but at ρ cells (is.Link top) h)
          (subst (Fits ρ at) (sym e)
          (put_here at ρ cells (is.Link top) l h
          ∙ sym (subst (Fits ρ up) f (put_but at ρ cells (is.Link top) h up (omega (arith, p, l)) (omega (arith, p))))));
      kept = λ v n. at_or (λ u. IsNoLink (cell cells u) → cell (set cells at (is.Link top)) u ≡ cell cells u) at v
          (λ m. absurd (subst IsNoLink e m))
          (λ d m. get_or-set_other cells at v (is.Link top) is.Free d) n;
      equal = omega (arith, here);
    }

pub shorter : (cells after : List Cell) (at up top : ℕ) → IsTidy cells → at < length cells → cell cells at ≡ is.Link up → cell cells up ≡ is.Link top
    → after ≡ set cells at (is.Link top) → Alike cells after
shorter cells after at up top t l e f is_set = subst (Alike cells) (sym is_set) (shorter_set cells at up top t l e f)

-- the same along links
pub value_after : (a b : List Cell) (v w u : ℕ) → Alike a b → SameValue a v w → SameValue b w u → SameValue b v u
value_after a b v w u p s t ρ h = s ρ (p.more ρ h) ∙ t ρ h

pub value_kept : (a b : List Cell) (v w : ℕ) → Alike a b → SameValue a v w → SameValue b v w
value_kept a b v w p s ρ h = s ρ (p.more ρ h)

-- one link further
pub find_next : (start mid after : List Cell) (from at up : ℕ) → Alike start mid → at < length mid → SameValue mid from at → cell mid at ≡ is.Link up → Alike mid after
    → Alike start after × (up < length after) × SameValue after from up
find_next start mid after from at up a l s e b =
    let down = link_below mid at up a.tidy l e in
    let n = b.count in
    (alike_after start mid after a b, omega (arith, l, down, n), (λ ρ h. s ρ (b.more ρ h) ∙ link_value mid at up l e ρ (b.more ρ h)))
