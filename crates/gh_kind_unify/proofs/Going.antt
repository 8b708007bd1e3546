-- One rule, at an unknown that is no link.
use Rattle.std.proofs.Common.{◌≡◌, ◌≢◌, ℕ, suc, ◌+◌, ◌<◌, ◌≤◌, List, length, set, refl, sym, ap, ◌∙◌, subst, arith, length-set}
use Rattle.gh_kind_unify.specs.declared.rules.Rule.{Rule}
use Rattle.gh_kind_unify.specs.declared.rules.Rule.TheVariants as rule
use Rattle.gh_kind_unify.specs.declared.cells.Cell.{Cell}
use Rattle.gh_kind_unify.specs.declared.cells.Cell.TheVariants as is
use Rattle.gh_kind_unify.specs.declared.settling.More.{More}
use Rattle.gh_kind_unify.specs.declared.settling.More.TheVariants as more
use Rattle.gh_kind_unify.specs.Kinds.{Kinds, Meets}
use Rattle.gh_kind_unify.specs.Cells.{cell, Fits, Holds, IsTidyAt, IsTidy, IsNoLink, cell_weight, weight, Alike, SameValue}
use Rattle.gh_kind_unify.specs.Settling.{Goes, MeetsMore, MoreBelow, rule_weight, more_weight}
use Rattle.gh_kind_unify.proofs.Holding.{but, whole, put_holds, put_but, put_here, put_tidy, put_weight}

-- an unknown that is free gets a cell
pub filled : (cells : List Cell) (i : ℕ) (c : Cell) (r : Rule) → IsTidy cells → i < length cells → cell cells i ≡ is.Free
    → IsTidyAt (length cells) i c → ((ρ : Kinds) → Fits ρ i c → Meets ρ r) → ((ρ : Kinds) → Meets ρ r → Fits ρ i c)
    → cell_weight c < 3 + rule_weight r → Goes cells (set cells i c) r more.Nothing
filled cells i c r t l e d to from light =
    let w = put_weight i cells c is.Free l e in
    record {
      count = length-set cells i c;
      tidy = put_tidy i cells c l t d;
      below = tt;
      forth = λ ρ h m. (put_holds i ρ cells c l (but i ρ cells h) (from ρ m), tt);
      back = λ ρ h m. (whole i ρ cells (put_but i ρ cells c h) (subst (Fits ρ i) (sym e) tt), to ρ (put_here i ρ cells c l h));
      lighter = omega (arith, w, light);
    }

-- a cell in the place of another, up to other rules
pub changed : (cells : List Cell) (i : ℕ) (c d : Cell) (r : Rule) (m : More) → IsTidy cells → i < length cells → cell cells i ≡ c
    → IsTidyAt (length cells) i d → MoreBelow (length cells) m
    → ((ρ : Kinds) → Fits ρ i c → Meets ρ r → Fits ρ i d × MeetsMore ρ m)
    → ((ρ : Kinds) → Fits ρ i d → MeetsMore ρ m → Fits ρ i c × Meets ρ r)
    → cell_weight d + more_weight m < cell_weight c + rule_weight r → Goes cells (set cells i d) r m
changed cells i c d r m t l e q b to from light =
    let w = put_weight i cells d c l e in
    record {
      count = length-set cells i d;
      tidy = put_tidy i cells d l t q;
      below = b;
      forth = λ ρ h k. let p = to ρ (subst (Fits ρ i) e (h i l)) k in (put_holds i ρ cells d l (but i ρ cells h) p.0, p.1);
      back = λ ρ h k. let p = from ρ (put_here i ρ cells d l h) k in (whole i ρ cells (put_but i ρ cells d h) (subst (Fits ρ i) (sym e) p.0), p.1);
      lighter = omega (arith, w, light);
    }

-- ---- an unknown of the kind `*`

pub star_free : (cells : List Cell) (i : ℕ) → IsTidy cells → i < length cells → cell cells i ≡ is.Free
    → Goes cells (set cells i is.Star) (rule.Star i) more.Nothing
star_free cells i t l e = filled cells i is.Star (rule.Star i) t l e tt (λ ρ f. f) (λ ρ f. f) (omega arith)

-- ---- two unknowns that have the same kind

pub join_free : (cells : List Cell) (low high : ℕ) → IsTidy cells → low < high → high < length cells → cell cells high ≡ is.Free
    → Goes cells (set cells high (is.Link low)) (rule.Same low high) more.Nothing
join_free cells low high t o l e =
    filled cells high (is.Link low) (rule.Same low high) t l e o (λ ρ f. sym f) (λ ρ f. sym f) (omega arith)

pub join_star : (cells : List Cell) (low high : ℕ) → IsTidy cells → low < high → high < length cells → cell cells high ≡ is.Star
    → Goes cells (set cells high (is.Link low)) (rule.Same low high) (more.One (rule.Star low))
join_star cells low high t o l e =
    changed cells high is.Star (is.Link low) (rule.Same low high) (more.One (rule.Star low)) t l e o (omega (arith, o, l))
    (λ ρ f m. (sym m, m ∙ f)) (λ ρ f m. (f ∙ m, sym f)) (omega arith)

pub join_arrow : (cells : List Cell) (low high a b : ℕ) → IsTidy cells → low < high → high < length cells → cell cells high ≡ is.Arrow a b
    → Goes cells (set cells high (is.Link low)) (rule.Same low high) (more.One (rule.Applies low a b))
join_arrow cells low high a b t o l e =
    let q = subst (IsTidyAt (length cells) high) e (t high l) in
    changed cells high (is.Arrow a b) (is.Link low) (rule.Same low high) (more.One (rule.Applies low a b)) t l e o (omega (arith, o, l), q.0, q.1)
    (λ ρ f m. (sym m, m ∙ f)) (λ ρ f m. (f ∙ m, sym f)) (omega arith)

-- ---- an unknown that is applied

pub applies_free : (cells : List Cell) (i x r : ℕ) → IsTidy cells → i < length cells → x < length cells → r < length cells → cell cells i ≡ is.Free
    → Goes cells (set cells i (is.Arrow x r)) (rule.Applies i x r) more.Nothing
applies_free cells i x r t l lx lr e = filled cells i (is.Arrow x r) (rule.Applies i x r) t l e (lx, lr) (λ ρ f. f) (λ ρ f. f) (omega arith)

-- ---- along links

pub goes_alike : (a b c : List Cell) (r s : Rule) (m : More) → Alike a b → Goes b c s m
    → ((ρ : Kinds) → Holds ρ b → Meets ρ r → Meets ρ s) → ((ρ : Kinds) → Holds ρ b → Meets ρ s → Meets ρ r) → rule_weight s ≡ rule_weight r
    → Goes a c r m
goes_alike a b c r s m p g to from same =
    let light = g.lighter in let w = p.equal in
    record {
      count = g.count ∙ p.count;
      tidy = g.tidy;
      below = subst (λ n. MoreBelow n m) p.count g.below;
      forth = λ ρ h k. let hb = p.fewer ρ h in g.forth ρ hb (to ρ hb k);
      back = λ ρ h k. let q = g.back ρ h k in (p.more ρ q.0, from ρ q.0 q.1);
      lighter = omega (arith, light, w, same);
    }

pub goes_star : (a b c : List Cell) (v root : ℕ) (m : More) → Alike a b → SameValue b v root → Goes b c (rule.Star root) m → Goes a c (rule.Star v) m
goes_star a b c v root m p s g =
    goes_alike a b c (rule.Star v) (rule.Star root) m p g (λ ρ h e. sym (s ρ h) ∙ e) (λ ρ h e. s ρ h ∙ e) refl

pub goes_applies : (a b c : List Cell) (f root x r : ℕ) (m : More) → Alike a b → SameValue b f root → Goes b c (rule.Applies root x r) m → Goes a c (rule.Applies f x r) m
goes_applies a b c f root x r m p s g =
    goes_alike a b c (rule.Applies f x r) (rule.Applies root x r) m p g (λ ρ h e. sym (s ρ h) ∙ e) (λ ρ h e. s ρ h ∙ e) refl

pub goes_same : (a b c : List Cell) (v w p q : ℕ) (m : More) → Alike a b → SameValue b v p → SameValue b w q → Goes b c (rule.Same p q) m → Goes a c (rule.Same v w) m
goes_same a b c v w p q m l s t g =
    goes_alike a b c (rule.Same v w) (rule.Same p q) m l g (λ ρ h e. sym (s ρ h) ∙ e ∙ t ρ h) (λ ρ h e. s ρ h ∙ e ∙ sym (t ρ h)) refl

pub goes_turned : (a b c : List Cell) (v w p q : ℕ) (m : More) → Alike a b → SameValue b v p → SameValue b w q → Goes b c (rule.Same q p) m → Goes a c (rule.Same v w) m
goes_turned a b c v w p q m l s t g =
    goes_alike a b c (rule.Same v w) (rule.Same q p) m l g (λ ρ h e. sym (t ρ h) ∙ sym e ∙ s ρ h) (λ ρ h e. s ρ h ∙ sym e ∙ sym (t ρ h)) refl

-- two unknowns that end at the same one
pub goes_met : (a b : List Cell) (v w p : ℕ) → Alike a b → SameValue b v p → SameValue b w p → Goes a b (rule.Same v w) more.Nothing
goes_met a b v w p l s t =
    let e = l.equal in
    record {
      count = l.count;
      tidy = l.tidy;
      below = tt;
      forth = λ ρ h m. (l.fewer ρ h, tt);
      back = λ ρ h m. (l.more ρ h, s ρ h ∙ sym (t ρ h));
      lighter = omega (arith, e);
    }
