-- Types with types put for their free variables.
use Rattle.std.proofs.Common.{◌≡◌, ℕ, zero, suc, ◌+◌, ◌<◌, ◌≤◌, Bool, true, false, cond, ◌==◌, List, [], ◌∷◌, length, map, Option, Some, None, option_map, slice_get, unwrap_or, refl, sym, ap, ◌∙◌, subst, arith}
use Rattle.std.proofs.lemmas.Bool.{eq-eqb, eqb-true}
use Rattle.gh_typeterm.specs.declared.kind.Kind.{Kind}
use Rattle.gh_core.specs.SameType.{Nameless, bound, free, con, applied, forall, any}
use Rattle.gh_core.specs.Typing.{closed_over, opened, arrow, arrows}
use Rattle.gh_kind_index.specs.KindIndex.{variables_from, for_all}
use Rattle.gh_kind_index.specs.Laws.{Below, AllBelow, IsBound, AreBound, opened_at}

-- each free variable replaced by what stands for it
abbrev pub put : (ℕ → Nameless) → Nameless → Nameless
put σ (bound i) = bound i
put σ (free x) = σ x
put σ (con c) = con c
put σ (applied f x) = applied (put σ f) (put σ x)
put σ (forall k b) = forall k (put σ b)
put σ (any k) = any k

-- one variable more
abbrev pub also : (ℕ → Nameless) → ℕ → Nameless → ℕ → Nameless
also σ n u x = cond (x == n) u (σ x)

pub equal_is : (x n : ℕ) → x ≡ n → (x == n) ≡ true
equal_is x n e = eq-eqb x n e

pub unequal_is : (x n : ℕ) → (x ≡ n → ⊥) → (x == n) ≡ false
unequal_is x n h = elim (x == n) as (λ t. (x == n) ≡ t → (x == n) ≡ false) [ true ↦ (λ e. absurd (h (eqb-true x n e))) | false ↦ (λ e. e) ] refl

also_here : (σ : ℕ → Nameless) (n : ℕ) (u : Nameless) (x : ℕ) → x ≡ n → also σ n u x ≡ u
also_here σ n u x e = ap (λ b. cond b u (σ x)) (equal_is x n e)

also_there : (σ : ℕ → Nameless) (n : ℕ) (u : Nameless) (x : ℕ) → (x ≡ n → ⊥) → also σ n u x ≡ σ x
also_there σ n u x h = ap (λ b. cond b u (σ x)) (unequal_is x n h)

-- either it is the number, or it is not
pub at_number : (x n : ℕ) (P : Type 0) → (x ≡ n → P) → ((x ≡ n → ⊥) → P) → P
at_number x n P here there =
    elim (x == n) as (λ b. (x == n) ≡ b → P) [ true ↦ (λ e. here (eqb-true x n e)) | false ↦ (λ e. there (λ k. let h = equal_is x n k in absurd (cc))) ] refl

pub below_more : (m n : ℕ) (t : Nameless) → m ≤ n → Below m t → Below n t
below_more m n (bound i) le h = tt
below_more m n (free l) le h = omega arith
below_more m n (con c) le h = tt
below_more m n (applied f x) le h = (below_more m n f le h.0, below_more m n x le h.1)
below_more m n (forall k b) le h = below_more m n b le h
below_more m n (any k) le h = tt

pub all_below_more : (m n : ℕ) (ts : List Nameless) → m ≤ n → AllBelow m ts → AllBelow n ts
all_below_more m n [] le h = tt
all_below_more m n (t ∷ ts) le h = (below_more m n t le h.0, all_below_more m n ts le h.1)

-- what has no such variable is closed over it as it is
pub closed_over_below : (n d : ℕ) (t : Nameless) → Below n t → closed_over n d t ≡ t
closed_over_below n d (bound i) h = refl
closed_over_below n d (free x) h = ap (λ b. cond b (bound d) (free x)) (unequal_is x n (λ e. omega arith))
closed_over_below n d (con c) h = refl
closed_over_below n d (applied f x) h = λ i. applied (closed_over_below n d f h.0 i) (closed_over_below n d x h.1 i)
closed_over_below n d (forall k b) h = ap (forall k) (closed_over_below n (suc d) b h)
closed_over_below n d (any k) h = refl

-- closing over the last variable leaves those before it
pub below_closed : (n d : ℕ) (t : Nameless) → Below (suc n) t → Below n (closed_over n d t)
below_closed n d (bound i) h = tt
below_closed n d (free x) h =
    at_number x n (Below n (closed_over n d (free x)))
    (λ e. subst (Below n) (sym (ap (λ b. cond b (bound d) (free x)) (equal_is x n e))) tt)
    (λ e. subst (Below n) (sym (ap (λ b. cond b (bound d) (free x)) (unequal_is x n e))) (let apart = e in omega arith))
below_closed n d (con c) h = tt
below_closed n d (applied f x) h = (below_closed n d f h.0, below_closed n d x h.1)
below_closed n d (forall k b) h = below_closed n (suc d) b h
below_closed n d (any k) h = tt

pub below_for_all : (k : Kind) (n c : ℕ) (t : Nameless) → Below (n + c) t → Below n (for_all k n c t)
below_for_all k n zero t h = below_more (n + 0) n t (omega arith) h
below_for_all k n (suc c) t h = below_closed n 0 (for_all k (suc n) c t) (below_for_all k (suc n) c t (below_more (n + suc c) (suc n + c) t (omega arith) h))

abbrev pub Fits : (ℕ → Nameless) → ℕ → ℕ → Type 0
Fits σ n m = (x : ℕ) → x < n → Below m (σ x)

pub fits_also : (σ : ℕ → Nameless) (n m : ℕ) → Fits σ n m → Fits (also σ n (free m)) (suc n) (suc m)
fits_also σ n m h x lt =
    at_number x n (Below (suc m) (also σ n (free m) x))
    (λ e. subst (Below (suc m)) (sym (also_here σ n (free m) x e)) (omega arith))
    (λ e. subst (Below (suc m)) (sym (also_there σ n (free m) x e)) (below_more m (suc m) (σ x) (omega arith) (h x (let apart = e in omega arith))))

-- putting goes through a binder
pub put_closed : (σ : ℕ → Nameless) (n m d : ℕ) (t : Nameless) → Fits σ n m → Below (suc n) t → put σ (closed_over n d t) ≡ closed_over m d (put (also σ n (free m)) t)
put_closed σ n m d (bound i) fits h = refl
put_closed σ n m d (free x) fits h =
    at_number x n (put σ (closed_over n d (free x)) ≡ closed_over m d (also σ n (free m) x))
    (λ e. ap (λ b. put σ (cond b (bound d) (free x))) (equal_is x n e)
    ∙ sym (ap (closed_over m d) (also_here σ n (free m) x e) ∙ ap (λ b. cond b (bound d) (free m)) (equal_is m m refl)))
    (λ e. ap (λ b. put σ (cond b (bound d) (free x))) (unequal_is x n e)
    ∙ sym (ap (closed_over m d) (also_there σ n (free m) x e) ∙ closed_over_below m d (σ x) (fits x (let apart = e in omega arith))))
put_closed σ n m d (con c) fits h = refl
put_closed σ n m d (applied f x) fits h = λ i. applied (put_closed σ n m d f fits h.0 i) (put_closed σ n m d x fits h.1 i)
put_closed σ n m d (forall k b) fits h = ap (forall k) (put_closed σ n m (suc d) b fits h)
put_closed σ n m d (any k) fits h = refl

-- several variables more, each standing for itself
abbrev pub also_all : (ℕ → Nameless) → ℕ → ℕ → ℕ → ℕ → Nameless
also_all σ n m zero = σ
also_all σ n m (suc c) = also_all (also σ n (free m)) (suc n) (suc m) c

pub fits_also_all : (σ : ℕ → Nameless) (n m c : ℕ) → Fits σ n m → Fits (also_all σ n m c) (n + c) (m + c)
fits_also_all σ n m zero h x lt = below_more m (m + 0) (σ x) (omega arith) (h x (omega arith))
fits_also_all σ n m (suc c) h x lt =
    below_more (suc m + c) (m + suc c) (also_all (also σ n (free m)) (suc n) (suc m) c x) (omega arith)
    (fits_also_all (also σ n (free m)) (suc n) (suc m) c (fits_also σ n m h) x (omega arith))

pub put_for_all : (σ : ℕ → Nameless) (n m c : ℕ) (k : Kind) (t : Nameless) → Fits σ n m → Below (n + c) t → put σ (for_all k n c t) ≡ for_all k m c (put (also_all σ n m c) t)
put_for_all σ n m zero k t fits h = refl
put_for_all σ n m (suc c) k t fits h =
    let inside : Below (suc n + c) t = below_more (n + suc c) (suc n + c) t (omega arith) h in
    ap (forall k) (put_closed σ n m 0 (for_all k (suc n) c t) fits (below_for_all k (suc n) c t inside)
    ∙ ap (closed_over m 0) (put_for_all (also σ n (free m)) (suc n) (suc m) c k t (fits_also σ n m fits) inside))

-- only what stands for a type's own variables counts
pub put_agrees : (σ τ : ℕ → Nameless) (n : ℕ) (t : Nameless) → ((x : ℕ) → x < n → σ x ≡ τ x) → Below n t → put σ t ≡ put τ t
put_agrees σ τ n (bound i) e h = refl
put_agrees σ τ n (free x) e h = e x h
put_agrees σ τ n (con c) e h = refl
put_agrees σ τ n (applied f x) e h = λ i. applied (put_agrees σ τ n f e h.0 i) (put_agrees σ τ n x e h.1 i)
put_agrees σ τ n (forall k b) e h = ap (forall k) (put_agrees σ τ n b e h)
put_agrees σ τ n (any k) e h = refl

pub all_put_agree : (σ τ : ℕ → Nameless) (n : ℕ) (ts : List Nameless) → ((x : ℕ) → x < n → σ x ≡ τ x) → AllBelow n ts → map (put σ) ts ≡ map (put τ) ts
all_put_agree σ τ n [] e h = refl
all_put_agree σ τ n (t ∷ ts) e h = λ i. put_agrees σ τ n t e h.0 i ∷ all_put_agree σ τ n ts e h.1 i

pub put_free : (t : Nameless) → put free t ≡ t
put_free (bound i) = refl
put_free (free x) = refl
put_free (con c) = refl
put_free (applied f x) = λ i. applied (put_free f i) (put_free x i)
put_free (forall k b) = ap (forall k) (put_free b)
put_free (any k) = refl

pub all_put_free : (ts : List Nameless) → map (put free) ts ≡ ts
all_put_free [] = refl
all_put_free (t ∷ ts) = λ i. put_free t i ∷ all_put_free ts i

pub also_all_before : (σ : ℕ → Nameless) (n m c x : ℕ) → x < n → also_all σ n m c x ≡ σ x
also_all_before σ n m zero x lt = refl
also_all_before σ n m (suc c) x lt = also_all_before (also σ n (free m)) (suc n) (suc m) c x (omega arith) ∙ also_there σ n (free m) x (λ e. omega arith)

-- the new variables stand for the new variables
pub also_all_new : (σ : ℕ → Nameless) (n m c : ℕ) → map (put (also_all σ n m c)) (variables_from n c) ≡ variables_from m c
also_all_new σ n m zero = refl
also_all_new σ n m (suc c) =
    λ i. (also_all_before (also σ n (free m)) (suc n) (suc m) c n (omega arith) ∙ also_here σ n (free m) n refl) i
    ∷ also_all_new (also σ n (free m)) (suc n) (suc m) c i

-- the body of a type for all types, at a type for its variable
pub opened_closed : (n d : ℕ) (u t : Nameless) → IsBound d t → opened d u (closed_over n d t) ≡ put (also free n u) t
opened_closed n d u (bound i) h = ap (λ b. cond b u (bound i)) (unequal_is i d (λ e. omega arith))
opened_closed n d u (free x) h =
    at_number x n (opened d u (closed_over n d (free x)) ≡ also free n u x)
    (λ e. ap (λ b. opened d u (cond b (bound d) (free x))) (equal_is x n e) ∙ ap (λ b. cond b u (bound d)) (equal_is d d refl) ∙ sym (also_here free n u x e))
    (λ e. ap (λ b. opened d u (cond b (bound d) (free x))) (unequal_is x n e) ∙ sym (also_there free n u x e))
opened_closed n d u (con c) h = refl
opened_closed n d u (applied f x) h = λ i. applied (opened_closed n d u f h.0 i) (opened_closed n d u x h.1 i)
opened_closed n d u (forall k b) h = ap (forall k) (opened_closed n (suc d) u b h)
opened_closed n d u (any k) h = refl
