-- A kind-indexed type at types for its variables.
use Rattle.std.proofs.Common.{◌≡◌, ℕ, zero, suc, ◌+◌, ◌-◌, ◌<◌, ◌≤◌, Bool, true, false, cond, ◌==◌, List, [], ◌∷◌, length, map, Option, Some, None, slice_get, unwrap_or, refl, sym, ap, ◌∙◌, subst, arith}
use Rattle.gh_base.specs.declared.place.Origin.{Origin}
use Rattle.gh_typeterm.specs.declared.kind.Kind.{Kind}
use Rattle.gh_typeterm.specs.declared.kind.Kind.TheVariants as kind
use Rattle.gh_typeterm.specs.declared.ty.TyNode.{TyNode}
use Rattle.gh_typeterm.proofs.Folds.{fold-Con, fold-Var, fold-App, fold-Name, term_induction}
use Rattle.gh_core.specs.SameType.{Nameless, bound, free, con, applied, forall, any}
use Rattle.gh_core.specs.Typing.{closed_over, opened, arrow, arrows}
use Rattle.gh_kernel.specs.declared.functions.GenFun.{GenFun}
use Rattle.gh_kernel.specs.declared.functions.Dependency.{Dependency}
use Rattle.gh_kind_index.specs.KindIndex.{slot, base_step, base_at, variables_from, for_all, each_applied, function_of, Indexed, with_type, asked, at_arrow, at_star, indexed}
use Rattle.gh_kind_index.specs.Laws.{Below, AllBelow, IsBound, AreBound, opened_at}
use Rattle.gh_kind_index.proofs.Putting.{put, also, also_all, Fits, at_number, equal_is, unequal_is, below_more, all_below_more, fits_also, fits_also_all, put_for_all, put_agrees, all_put_agree, put_free, all_put_free, also_all_before, also_all_new, opened_closed, below_for_all}
use Rattle.gh_kind_index.proofs.Equations.{kind_induction, indexed_star, indexed_arrow, is_put, stays_below, variables_below, applied_below, arrows_below, asked_below, under_put}

-- ---- bound variables have their binders

pub bound_more : (d e : ℕ) (t : Nameless) → d ≤ e → IsBound d t → IsBound e t
bound_more d e (bound i) le h = omega arith
bound_more d e (free x) le h = tt
bound_more d e (con c) le h = tt
bound_more d e (applied f x) le h = (bound_more d e f le h.0, bound_more d e x le h.1)
bound_more d e (forall k b) le h = bound_more (suc d) (suc e) b (omega arith) h
bound_more d e (any k) le h = tt

bound_closed : (n d : ℕ) (t : Nameless) → IsBound d t → IsBound (suc d) (closed_over n d t)
bound_closed n d (bound i) h = let lt : i < d = h in omega arith
bound_closed n d (free x) h =
    at_number x n (IsBound (suc d) (closed_over n d (free x)))
    (λ e. subst (IsBound (suc d)) (sym (ap (λ b. cond b (bound d) (free x)) (equal_is x n e))) (omega arith))
    (λ e. subst (IsBound (suc d)) (sym (ap (λ b. cond b (bound d) (free x)) (unequal_is x n e))) tt)
bound_closed n d (con c) h = tt
bound_closed n d (applied f x) h = (bound_closed n d f h.0, bound_closed n d x h.1)
bound_closed n d (forall k b) h = bound_closed n (suc d) b h
bound_closed n d (any k) h = tt

bound_for_all : (k : Kind) (n c : ℕ) (t : Nameless) → IsBound 0 t → IsBound 0 (for_all k n c t)
bound_for_all k n zero t h = h
bound_for_all k n (suc c) t h = bound_closed n 0 (for_all k (suc n) c t) (bound_for_all k (suc n) c t h)

abbrev AllStandBound : (ℕ → Nameless) → Type 0
AllStandBound σ = (x : ℕ) → IsBound 0 (σ x)

bound_put : (σ : ℕ → Nameless) (d : ℕ) (t : Nameless) → AllStandBound σ → IsBound d t → IsBound d (put σ t)
bound_put σ d (bound i) s h = h
bound_put σ d (free x) s h = bound_more 0 d (σ x) (omega arith) (s x)
bound_put σ d (con c) s h = tt
bound_put σ d (applied f x) s h = (bound_put σ d f s h.0, bound_put σ d x s h.1)
bound_put σ d (forall k b) s h = bound_put σ (suc d) b s h
bound_put σ d (any k) s h = tt

bound_choice : (b : Bool) (u t : Nameless) → IsBound 0 u → IsBound 0 t → IsBound 0 (cond b u t)
bound_choice true u t h g = h
bound_choice false u t h g = g

also_bound : (σ : ℕ → Nameless) (n : ℕ) (u : Nameless) → AllStandBound σ → IsBound 0 u → AllStandBound (also σ n u)
also_bound σ n u s h x = bound_choice (x == n) u (σ x) h (s x)

also_all_bound : (σ : ℕ → Nameless) (n m c : ℕ) → AllStandBound σ → AllStandBound (also_all σ n m c)
also_all_bound σ n m zero s = s
also_all_bound σ n m (suc c) s = also_all_bound (also σ n (free m)) (suc n) (suc m) c (also_bound σ n (free m) s tt)

slot_bound : (o : Option Nameless) (d : Nameless) (ts : List Nameless) (i : ℕ) → o ≡ slice_get ts i → AreBound ts → IsBound 0 d → IsBound 0 (unwrap_or o d)
slot_bound None d ts i e h b = b
slot_bound (Some t) d [] i e h b = absurd (cc)
slot_bound (Some t) d (s ∷ ts) zero e h b = let is : s ≡ t = cc in subst (IsBound 0) is h.0
slot_bound (Some t) d (s ∷ ts) (suc i) e h b = slot_bound (Some t) d ts i e h.1 b

base_bound : (ts others : List Nameless) → AreBound ts → AreBound others → (u : TyNode) → IsBound 0 (base_at ts others u)
base_bound ts others h g = term_induction (λ u. IsBound 0 (base_at ts others u))
    (λ c. subst (IsBound 0) (sym (fold-Con Nameless (base_step ts others) c)) tt)
    (λ x. subst (IsBound 0) (sym (fold-Var Nameless (base_step ts others) x))
    (slot_bound (slice_get ts x) (unwrap_or (slice_get others (x - length ts)) (any kind.Star)) ts x refl h
    (slot_bound (slice_get others (x - length ts)) (any kind.Star) others (x - length ts) refl g tt)))
    (λ f x p q. subst (IsBound 0) (sym (fold-App Nameless (base_step ts others) f x)) (p, q))
    (λ m. subst (IsBound 0) (sym (fold-Name Nameless (base_step ts others) m)) tt)

variables_bound : (level c : ℕ) → AreBound (variables_from level c)
variables_bound level zero = tt
variables_bound level (suc c) = (tt, variables_bound (suc level) c)

applied_bound : (ts us : List Nameless) → AreBound ts → AreBound us → AreBound (each_applied ts us)
applied_bound [] us h g = tt
applied_bound (t ∷ ts) [] h g = tt
applied_bound (t ∷ ts) (u ∷ us) h g = ((h.0, g.0), applied_bound ts us h.1 g.1)

arrows_bound : (ts : List Nameless) (t : Nameless) → AreBound ts → IsBound 0 t → IsBound 0 (arrows ts t)
arrows_bound [] t h g = g
arrows_bound (u ∷ ts) t h g = ((tt, h.0), arrows_bound ts t h.1 g)

abbrev StaysBound : List GenFun → List Nameless → Kind → Type 0
StaysBound fs others k = (f : GenFun) (n : ℕ) (ts : List Nameless) → AreBound others → AreBound ts → IsBound 0 (indexed fs others k f n ts)

with_bound : (o : Option GenFun) (by : Indexed) (n : ℕ) (ts rest : List Nameless) → ((f : GenFun) → IsBound 0 (by f n ts)) → AreBound rest → AreBound (with_type o by n ts rest)
with_bound None by n ts rest h g = g
with_bound (Some f) by n ts rest h g = (h f, g)

asked_bound : (fs : List GenFun) (by : Indexed) (n : ℕ) (ts : List Nameless) (ds : List Dependency) → ((f : GenFun) → IsBound 0 (by f n ts)) → AreBound (asked fs by n ts ds)
asked_bound fs by n ts [] h = tt
asked_bound fs by n ts (d ∷ ds) h = with_bound (function_of fs d.function) by n ts (asked fs by n ts ds) h (asked_bound fs by n ts ds h)

pub stays_bound : (fs : List GenFun) (others : List Nameless) (k : Kind) → StaysBound fs others k
stays_bound fs others = kind_induction (StaysBound fs others)
    (λ f n ts g h. subst (λ by. IsBound 0 (by f n ts)) (sym (indexed_star fs others)) (base_bound ts others h g f.base))
    (λ k l p q f n ts g h. subst (λ by. IsBound 0 (by f n ts)) (sym (indexed_arrow fs others k l))
    (let new = variables_bound n (length ts) in
    bound_for_all k n (length ts) (arrows (asked fs (indexed fs others k) (n + length ts) (variables_from n (length ts)) f.dependencies) (indexed fs others l f (n + length ts) (each_applied ts (variables_from n (length ts)))))
    (arrows_bound _ _
    (asked_bound fs (indexed fs others k) (n + length ts) (variables_from n (length ts)) f.dependencies (λ y. p y (n + length ts) (variables_from n (length ts)) g new))
    (q f (n + length ts) (each_applied ts (variables_from n (length ts))) g (applied_bound ts (variables_from n (length ts)) h new)))))

-- ---- the body of a type for all types

put_twice : (τ σ : ℕ → Nameless) (t : Nameless) → put τ (put σ t) ≡ put (λ x. put τ (σ x)) t
put_twice τ σ (bound i) = refl
put_twice τ σ (free x) = refl
put_twice τ σ (con c) = refl
put_twice τ σ (applied f x) = λ i. applied (put_twice τ σ f i) (put_twice τ σ x i)
put_twice τ σ (forall k b) = ap (forall k) (put_twice τ σ b)
put_twice τ σ (any k) = refl

all_put_twice : (τ σ : ℕ → Nameless) (ts : List Nameless) → map (put (λ x. put τ (σ x))) ts ≡ map (put τ) (map (put σ) ts)
all_put_twice τ σ [] = refl
all_put_twice τ σ (t ∷ ts) = λ i. sym (put_twice τ σ t) i ∷ all_put_twice τ σ ts i

pub put_below : (σ : ℕ → Nameless) (n m : ℕ) (t : Nameless) → Fits σ n m → Below n t → Below m (put σ t)
put_below σ n m (bound i) s h = tt
put_below σ n m (free x) s h = s x h
put_below σ n m (con c) s h = tt
put_below σ n m (applied f x) s h = (put_below σ n m f s h.0, put_below σ n m x s h.1)
put_below σ n m (forall k b) s h = put_below σ n m b s h
put_below σ n m (any k) s h = tt

-- what stands for c new variables from n on, where these types are put for them
record Standing (k : Kind) (n c : ℕ) (us : List Nameless) : Type 0 where
  τ : ℕ → Nameless
  before : (x : ℕ) → x < n → τ x ≡ free x
  new : map (put τ) (variables_from n c) ≡ us
  fits : Fits τ (n + c) (n + c)
  opens : (t : Nameless) → IsBound 0 t → Below (n + c) t → opened_at us (for_all k n c t) ≡ put τ t

free_fits : (n m : ℕ) → n ≤ m → Fits free n m
free_fits n m le x lt = omega arith

fits_put : (n m : ℕ) (u : Nameless) → n < m → Below n u → Fits (also free n u) m m
fits_put n m u lt h x below =
    at_number x n (Below m (also free n u x))
    (λ e. subst (Below m) (sym (ap (λ b. cond b u (free x)) (equal_is x n e))) (below_more n m u (omega arith) h))
    (λ e. subst (Below m) (sym (ap (λ b. cond b u (free x)) (unequal_is x n e))) below)

also_is : (n : ℕ) (u : Nameless) → also free n u n ≡ u
also_is n u = ap (λ b. cond b u (free n)) (equal_is n n refl)

also_not : (n : ℕ) (u : Nameless) (x : ℕ) → x < n → also free n u x ≡ free x
also_not n u x lt = ap (λ b. cond b u (free x)) (unequal_is x n (λ e. omega arith))

standing : (k : Kind) (n c m : ℕ) (us : List Nameless) → m ≤ n → c ≡ length us → AllBelow m us → AreBound us → Standing k n c us
standing k n zero m [] le e h b = record { τ = free; before = λ x lt. refl; new = refl; fits = free_fits (n + 0) (n + 0) (omega arith); opens = λ t bd below. sym (put_free t) }
standing k n (suc c) m [] le e h b = absurd (cc)
standing k n zero m (u ∷ us) le e h b = absurd (cc)
standing k n (suc c) m (u ∷ us) le e h b =
    let inner = standing k (suc n) c m us (omega arith) (omega arith) h.1 b.1 in
    let α = also_all (also free n u) (suc n) (suc n) c in
    let below_u : Below n u = below_more m n u le h.0 in
    let start : Fits (also free n u) (suc n) (suc n) = fits_put n (suc n) u (omega arith) below_u in
    let fits_α : Fits α (suc n + c) (suc n + c) = fits_also_all (also free n u) (suc n) (suc n) c start in
    let bound_α : AllStandBound α = also_all_bound (also free n u) (suc n) (suc n) c (also_bound free n u (λ x. tt) b.0) in
    record {
      τ = λ x. put inner.τ (α x);
      before = λ x lt. ap (put inner.τ) (also_all_before (also free n u) (suc n) (suc n) c x (omega arith) ∙ also_not n u x lt) ∙ inner.before x (omega arith);
      new = λ i.
          (ap (put inner.τ) (also_all_before (also free n u) (suc n) (suc n) c n (omega arith) ∙ also_is n u)
          ∙ put_agrees inner.τ free n u (λ x lt. inner.before x (omega arith)) below_u ∙ put_free u) i
          ∷ (all_put_twice inner.τ α (variables_from (suc n) c) ∙ ap (map (put inner.τ)) (also_all_new (also free n u) (suc n) (suc n) c) ∙ inner.new) i;
      fits = λ x lt. below_more (suc n + c) (n + suc c) (put inner.τ (α x)) (omega arith)
          (put_below inner.τ (suc n + c) (suc n + c) (α x) inner.fits (fits_α x (omega arith)));
      opens = λ t bd below.
          let inside : Below (suc n + c) t = below_more (n + suc c) (suc n + c) t (omega arith) below in
          ap (opened_at us) (opened_closed n 0 u (for_all k (suc n) c t) (bound_for_all k (suc n) c t bd)
          ∙ put_for_all (also free n u) (suc n) (suc n) c k t start inside)
          ∙ inner.opens (put α t) (bound_put α 0 t bound_α bd) (put_below α (suc n + c) (suc n + c) t fits_α inside)
          ∙ put_twice inner.τ α t;
    }

-- ---- the laws

-- the level of the new variables plays no part
pub any_level : (fs : List GenFun) (others : List Nameless) (k : Kind) (f : GenFun) (n m : ℕ) (ts : List Nameless) → n ≤ m → AllBelow n others → AllBelow n ts
    → indexed fs others k f n ts ≡ indexed fs others k f m ts
any_level fs others k f n m ts le g h =
    sym (put_free (indexed fs others k f n ts)) ∙ is_put fs others k free f n m ts (free_fits n m le) g h
    ∙ (λ i. indexed fs (all_put_free others i) k f m (all_put_free ts i))

with_any : (fs : List GenFun) (others : List Nameless) (k : Kind) (o : Option GenFun) (n m : ℕ) (ts rest rest' : List Nameless) → n ≤ m → AllBelow n others → AllBelow n ts → rest ≡ rest'
    → with_type o (indexed fs others k) n ts rest ≡ with_type o (indexed fs others k) m ts rest'
with_any fs others k None n m ts rest rest' le g h e = e
with_any fs others k (Some f) n m ts rest rest' le g h e = λ i. any_level fs others k f n m ts le g h i ∷ e i

asked_any : (fs : List GenFun) (others : List Nameless) (k : Kind) (n m : ℕ) (ts : List Nameless) (ds : List Dependency) → n ≤ m → AllBelow n others → AllBelow n ts
    → asked fs (indexed fs others k) n ts ds ≡ asked fs (indexed fs others k) m ts ds
asked_any fs others k n m ts [] le g h = refl
asked_any fs others k n m ts (d ∷ ds) le g h =
    with_any fs others k (function_of fs d.function) n m ts (asked fs (indexed fs others k) n ts ds) (asked fs (indexed fs others k) m ts ds) le g h (asked_any fs others k n m ts ds le g h)

-- the type at `k -> l`, at types of kind `k`
pub at_arguments : (fs : List GenFun) (others : List Nameless) (k l : Kind) (f : GenFun) (n : ℕ) (ts us : List Nameless) → length ts ≡ length us
    → AllBelow n others → AllBelow n ts → AllBelow n us → AreBound others → AreBound ts → AreBound us
    → opened_at us (indexed fs others (kind.Arrow k l) f n ts) ≡ arrows (asked fs (indexed fs others k) n us f.dependencies) (indexed fs others l f n (each_applied ts us))
at_arguments fs others k l f n ts us len go ht hu bo bt bu =
    let c = length ts in
    let st = standing k n c n us (omega arith) len hu bu in
    let more = all_below_more n (n + c) others (omega arith) go in
    let inside = all_below_more n (n + c) ts (omega arith) ht in
    let new = variables_below n (n + c) c (omega arith) in
    let vb = variables_bound n c in
    ap (λ by. opened_at us (by f n ts)) (indexed_arrow fs others k l)
    ∙ st.opens (arrows (asked fs (indexed fs others k) (n + c) (variables_from n c) f.dependencies) (indexed fs others l f (n + c) (each_applied ts (variables_from n c))))
    (arrows_bound _ _
    (asked_bound fs (indexed fs others k) (n + c) (variables_from n c) f.dependencies (λ y. stays_bound fs others k y (n + c) (variables_from n c) bo vb))
    (stays_bound fs others l f (n + c) (each_applied ts (variables_from n c)) bo (applied_bound ts (variables_from n c) bt vb)))
    (arrows_below (n + c) _ _
    (asked_below fs (indexed fs others k) (n + c) (variables_from n c) f.dependencies (λ y. stays_below fs others k y (n + c) (variables_from n c) more new))
    (stays_below fs others l f (n + c) (each_applied ts (variables_from n c)) more (applied_below (n + c) ts (variables_from n c) inside new)))
    ∙ under_put fs others others k l (is_put fs others k) (is_put fs others l) st.τ f n (n + c) c ts ts (variables_from n c) us st.fits more inside new
    (all_put_agree st.τ free n others st.before go ∙ all_put_free others) (all_put_agree st.τ free n ts st.before ht ∙ all_put_free ts) st.new
    ∙ sym (λ i. arrows (asked_any fs others k n (n + c) us f.dependencies (omega arith) go hu i)
    (any_level fs others l f n (n + c) (each_applied ts us) (omega arith) go (applied_below n ts us ht hu) i))
