-- Whole kind-indexed types: their new variables, and their free ones.
use Rattle.std.proofs.Common.{◌≡◌, ℕ, zero, suc, ◌+◌, ◌-◌, ◌<◌, ◌≤◌, ◌⊎◌, inl, inr, cond, ◌==◌, max, List, [], ◌∷◌, length, map, Option, Some, None, slice_get, unwrap_or, refl, sym, ap, ◌∙◌, subst, arith}
use Rattle.gh_base.specs.declared.place.Origin.{Origin}
use Rattle.gh_typeterm.specs.declared.kind.Kind.{Kind}
use Rattle.gh_typeterm.specs.declared.kind.Kind.TheVariants as kind
use Rattle.gh_typeterm.specs.declared.ty.TyNode.{TyNode}
use Rattle.gh_typeterm.proofs.Folds.{fold-Con, fold-Var, fold-App, fold-Name, term_induction}
use Rattle.gh_core.specs.SameType.{Nameless, bound, free, con, applied, forall, any}
use Rattle.gh_core.specs.Typing.{closed_over, arrows}
use Rattle.gh_kernel.specs.declared.functions.GenFun.{GenFun}
use Rattle.gh_kernel.specs.declared.functions.Dependency.{Dependency}
use Rattle.gh_kind_index.specs.KindIndex.{base_step, base_at, variables_from, for_all, each_applied, function_of, Indexed, with_type, asked, indexed, kind_type_from, kind_type}
use Rattle.gh_kind_index.specs.Levels.{above, above_all}
use Rattle.gh_kind_index.specs.Laws.{Below, AllBelow, Occurs, OccursIn}
use Rattle.gh_kind_index.proofs.Putting.{put, also_all, Fits, at_number, equal_is, unequal_is, below_more, all_below_more, put_for_all, all_put_agree, put_free, all_put_free, also_all_before, also_all_new, fits_also_all, put_closed}
use Rattle.gh_kind_index.proofs.Equations.{kind_induction, indexed_star, indexed_arrow, is_put, stays_below, variables_below}

-- a type is below the first number above its free variables
below_above : (t : Nameless) → Below (above t) t
below_above (bound i) = tt
below_above (free x) = omega arith
below_above (con c) = tt
below_above (applied f x) = (below_more (above f) (max (above f) (above x)) f (omega arith) (below_above f), below_more (above x) (max (above f) (above x)) x (omega arith) (below_above x))
below_above (forall k b) = below_above b
below_above (any k) = tt

pub below_above_all : (ts : List Nameless) → AllBelow (above_all ts) ts
below_above_all [] = tt
below_above_all (t ∷ ts) =
    (below_more (above t) (max (above t) (above_all ts)) t (omega arith) (below_above t), all_below_more (above_all ts) (max (above t) (above_all ts)) ts (omega arith) (below_above_all ts))

-- with other new variables
from_other : (fs : List GenFun) (f : GenFun) (k : Kind) (ts : List Nameless) (n m : ℕ) → n ≤ m → AllBelow n ts → kind_type_from n fs f k ts ≡ kind_type_from m fs f k ts
from_other fs f k ts n m le h =
    let c = length f.other in
    let τ = also_all free n m c in
    let fits : Fits free n m = λ x lt. omega arith in
    let inside = all_below_more n (n + c) ts (omega arith) h in
    let new = variables_below n (n + c) c (omega arith) in
    sym (put_free (kind_type_from n fs f k ts))
    ∙ put_for_all free n m c kind.Star (indexed fs (variables_from n c) k f (n + c) ts) fits (stays_below fs (variables_from n c) k f (n + c) ts new inside)
    ∙ ap (for_all kind.Star m c)
    (is_put fs (variables_from n c) k τ f (n + c) (m + c) ts (fits_also_all free n m c fits) new inside
    ∙ (λ i. indexed fs (also_all_new free n m c i) k f (m + c) ((all_put_agree τ free n ts (λ x lt. also_all_before free n m c x lt) h ∙ all_put_free ts) i)))

pub any_variables : (fs : List GenFun) (f : GenFun) (k : Kind) (ts : List Nameless) (level : ℕ) → above_all ts ≤ level → kind_type_from level fs f k ts ≡ kind_type fs f k ts
any_variables fs f k ts level le = sym (from_other fs f k ts (above_all ts) level le (below_above_all ts))

-- ---- free variables

in_closed : (x n d : ℕ) (t : Nameless) → Occurs x (closed_over n d t) → Occurs x t × (x ≡ n → ⊥)
in_closed x n d (bound i) h = absurd h
in_closed x n d (free y) h =
    at_number y n (Occurs x (free y) × (x ≡ n → ⊥))
    (λ e. absurd (subst (Occurs x) (ap (λ b. cond b (bound d) (free y)) (equal_is y n e)) h))
    (λ e. let is : y ≡ x = subst (Occurs x) (ap (λ b. cond b (bound d) (free y)) (unequal_is y n e)) h in (is, λ k. e (is ∙ k)))
in_closed x n d (con c) h = absurd h
in_closed x n d (applied f a) (inl h) = let r = in_closed x n d f h in (inl r.0, r.1)
in_closed x n d (applied f a) (inr h) = let r = in_closed x n d a h in (inr r.0, r.1)
in_closed x n d (forall k b) h = in_closed x n (suc d) b h
in_closed x n d (any k) h = absurd h

-- a free variable under binders is one of the body, and none of theirs
in_for_all : (x : ℕ) (k : Kind) (n c : ℕ) (t : Nameless) → Occurs x (for_all k n c t) → Occurs x t × (OccursIn x (variables_from n c) → ⊥)
in_for_all x k n zero t h = (h, λ e. e)
in_for_all x k n (suc c) t h =
    let here = in_closed x n 0 (for_all k (suc n) c t) h in
    let inside = in_for_all x k (suc n) c t here.0 in
    (inside.0, not_either x n c here.1 inside.1)
  where
    not_either : (x n c : ℕ) → (x ≡ n → ⊥) → (OccursIn x (variables_from (suc n) c) → ⊥) → OccursIn x (variables_from n (suc c)) → ⊥
    not_either x n c p q (inl e) = p (sym e)
    not_either x n c p q (inr e) = q e

in_arrows : (x : ℕ) (ts : List Nameless) (t : Nameless) → Occurs x (arrows ts t) → OccursIn x ts ⊎ Occurs x t
in_arrows x [] t h = inr h
in_arrows x (u ∷ ts) t (inl (inl h)) = absurd h
in_arrows x (u ∷ ts) t (inl (inr h)) = inl (inl h)
in_arrows x (u ∷ ts) t (inr h) = over x u ts t (in_arrows x ts t h)
  where
    over : (x : ℕ) (u : Nameless) (ts : List Nameless) (t : Nameless) → OccursIn x ts ⊎ Occurs x t → OccursIn x (u ∷ ts) ⊎ Occurs x t
    over x u ts t (inl h) = inl (inr h)
    over x u ts t (inr h) = inr h

in_applied : (x : ℕ) (ts us : List Nameless) → OccursIn x (each_applied ts us) → OccursIn x ts ⊎ OccursIn x us
in_applied x [] us h = absurd h
in_applied x (t ∷ ts) [] h = absurd h
in_applied x (t ∷ ts) (u ∷ us) (inl (inl h)) = inl (inl h)
in_applied x (t ∷ ts) (u ∷ us) (inl (inr h)) = inr (inl h)
in_applied x (t ∷ ts) (u ∷ us) (inr h) = over x t u ts us (in_applied x ts us h)
  where
    over : (x : ℕ) (t u : Nameless) (ts us : List Nameless) → OccursIn x ts ⊎ OccursIn x us → OccursIn x (t ∷ ts) ⊎ OccursIn x (u ∷ us)
    over x t u ts us (inl h) = inl (inr h)
    over x t u ts us (inr h) = inr (inr h)

in_slot : (x : ℕ) (o : Option Nameless) (d : Nameless) (ts : List Nameless) (i : ℕ) → o ≡ slice_get ts i → Occurs x (unwrap_or o d) → OccursIn x ts ⊎ Occurs x d
in_slot x None d ts i e h = inr h
in_slot x (Some t) d [] i e h = absurd (cc)
in_slot x (Some t) d (s ∷ ts) zero e h = let is : t ≡ s = cc in inl (inl (subst (Occurs x) is h))
in_slot x (Some t) d (s ∷ ts) (suc i) e h = over x s ts d (in_slot x (Some t) d ts i e h)
  where
    over : (x : ℕ) (s : Nameless) (ts : List Nameless) (d : Nameless) → OccursIn x ts ⊎ Occurs x d → OccursIn x (s ∷ ts) ⊎ Occurs x d
    over x s ts d (inl h) = inl (inr h)
    over x s ts d (inr h) = inr h

two_slots : (x : ℕ) (ts others : List Nameless) (i j : ℕ) → OccursIn x ts ⊎ Occurs x (unwrap_or (slice_get others j) (any kind.Star)) → OccursIn x ts ⊎ OccursIn x others
two_slots x ts others i j (inl h) = inl h
two_slots x ts others i j (inr h) = last x ts others (in_slot x (slice_get others j) (any kind.Star) others j refl h)
  where
    last : (x : ℕ) (ts others : List Nameless) → OccursIn x others ⊎ ⊥ → OccursIn x ts ⊎ OccursIn x others
    last x ts others (inl h) = inr h
    last x ts others (inr h) = absurd h

in_base : (x : ℕ) (ts others : List Nameless) (u : TyNode) → Occurs x (base_at ts others u) → OccursIn x ts ⊎ OccursIn x others
in_base x ts others = term_induction (λ u. Occurs x (base_at ts others u) → OccursIn x ts ⊎ OccursIn x others)
    (λ c h. absurd (subst (Occurs x) (fold-Con Nameless (base_step ts others) c) h))
    (λ v h. two_slots x ts others v (v - length ts)
    (in_slot x (slice_get ts v) (unwrap_or (slice_get others (v - length ts)) (any kind.Star)) ts v refl (subst (Occurs x) (fold-Var Nameless (base_step ts others) v) h)))
    (λ f a p q h. either x ts others f a p q (subst (Occurs x) (fold-App Nameless (base_step ts others) f a) h))
    (λ m h. absurd (subst (Occurs x) (fold-Name Nameless (base_step ts others) m) h))
  where
    either : (x : ℕ) (ts others : List Nameless) (f a : TyNode) → (Occurs x (base_at ts others f) → OccursIn x ts ⊎ OccursIn x others) → (Occurs x (base_at ts others a) → OccursIn x ts ⊎ OccursIn x others)
        → Occurs x (base_at ts others f) ⊎ Occurs x (base_at ts others a) → OccursIn x ts ⊎ OccursIn x others
    either x ts others f a p q (inl h) = p h
    either x ts others f a p q (inr h) = q h

abbrev FreeAt : ℕ → List GenFun → List Nameless → Kind → Type 0
FreeAt x fs others k = (f : GenFun) (n : ℕ) (ts : List Nameless) → Occurs x (indexed fs others k f n ts) → OccursIn x ts ⊎ OccursIn x others

in_with : (x : ℕ) (o : Option GenFun) (by : Indexed) (n : ℕ) (ts rest : List Nameless) (P : Type 0) → ((f : GenFun) → Occurs x (by f n ts) → P) → (OccursIn x rest → P) → OccursIn x (with_type o by n ts rest) → P
in_with x None by n ts rest P one more h = more h
in_with x (Some f) by n ts rest P one more (inl h) = one f h
in_with x (Some f) by n ts rest P one more (inr h) = more h

in_asked : (x : ℕ) (fs : List GenFun) (by : Indexed) (n : ℕ) (ts : List Nameless) (ds : List Dependency) (P : Type 0) → ((f : GenFun) → Occurs x (by f n ts) → P) → OccursIn x (asked fs by n ts ds) → P
in_asked x fs by n ts [] P one h = absurd h
in_asked x fs by n ts (d ∷ ds) P one h = in_with x (function_of fs d.function) by n ts (asked fs by n ts ds) P one (in_asked x fs by n ts ds P one) h

not_new : (x : ℕ) (new ts others : List Nameless) → (OccursIn x new → ⊥) → OccursIn x new ⊎ OccursIn x others → OccursIn x ts ⊎ OccursIn x others
not_new x new ts others p (inl h) = absurd (p h)
not_new x new ts others p (inr h) = inr h

not_applied : (x : ℕ) (new ts others : List Nameless) → (OccursIn x new → ⊥) → OccursIn x (each_applied ts new) ⊎ OccursIn x others → OccursIn x ts ⊎ OccursIn x others
not_applied x new ts others p (inl h) = both x new ts others p (in_applied x ts new h)
  where
    both : (x : ℕ) (new ts others : List Nameless) → (OccursIn x new → ⊥) → OccursIn x ts ⊎ OccursIn x new → OccursIn x ts ⊎ OccursIn x others
    both x new ts others p (inl h) = inl h
    both x new ts others p (inr h) = absurd (p h)
not_applied x new ts others p (inr h) = inr h

in_arrow : (x : ℕ) (fs : List GenFun) (others : List Nameless) (k l : Kind) → FreeAt x fs others k → FreeAt x fs others l → (f : GenFun) (n c : ℕ) (ts : List Nameless)
    → (OccursIn x (variables_from n c) → ⊥)
    → OccursIn x (asked fs (indexed fs others k) (n + c) (variables_from n c) f.dependencies) ⊎ Occurs x (indexed fs others l f (n + c) (each_applied ts (variables_from n c)))
    → OccursIn x ts ⊎ OccursIn x others
in_arrow x fs others k l p q f n c ts new (inl h) =
    in_asked x fs (indexed fs others k) (n + c) (variables_from n c) f.dependencies (OccursIn x ts ⊎ OccursIn x others)
    (λ y e. not_new x (variables_from n c) ts others new (p y (n + c) (variables_from n c) e)) h
in_arrow x fs others k l p q f n c ts new (inr h) = not_applied x (variables_from n c) ts others new (q f (n + c) (each_applied ts (variables_from n c)) h)

free_at : (x : ℕ) (fs : List GenFun) (others : List Nameless) (k : Kind) → FreeAt x fs others k
free_at x fs others = kind_induction (FreeAt x fs others)
    (λ f n ts h. in_base x ts others f.base (subst (λ by. Occurs x (by f n ts)) (indexed_star fs others) h))
    (λ k l p q f n ts h.
    let c = length ts in
    let body = arrows (asked fs (indexed fs others k) (n + c) (variables_from n c) f.dependencies) (indexed fs others l f (n + c) (each_applied ts (variables_from n c))) in
    let under = in_for_all x k n c body (subst (λ by. Occurs x (by f n ts)) (indexed_arrow fs others k l) h) in
    in_arrow x fs others k l p q f n c ts under.1
    (in_arrows x (asked fs (indexed fs others k) (n + c) (variables_from n c) f.dependencies) (indexed fs others l f (n + c) (each_applied ts (variables_from n c))) under.0))

left_only : {A B : Type 0} → (B → ⊥) → A ⊎ B → A
left_only p (inl a) = a
left_only p (inr b) = absurd (p b)

pub free_in_types : (fs : List GenFun) (f : GenFun) (k : Kind) (ts : List Nameless) (x : ℕ) → Occurs x (kind_type fs f k ts) → OccursIn x ts
free_in_types fs f k ts x h =
    let c = length f.other in
    let n = above_all ts in
    let under = in_for_all x kind.Star n c (indexed fs (variables_from n c) k f (n + c) ts) h in
    left_only under.1 (free_at x fs (variables_from n c) k f (n + c) ts under.0)
