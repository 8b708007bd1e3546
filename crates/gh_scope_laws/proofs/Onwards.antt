-- A walk that never ends comes back.
use Rattle.std.proofs.Common.{◌≡◌, ◌⊎◌, inl, inr, ℕ, suc, zero, ◌+◌, ◌-◌, ◌<◌, ◌≤◌, Bool, true, false, ◌==◌, if◌then◌else◌, List, [], ◌∷◌, length, Option, Some, None, is_some, slice_index_or, refl, sym, ap, ◌∙◌, arith}
use Rattle.std.specs.Option.{option_or}
use Rattle.std.proofs.lemmas.Bool.{or_cases, eqb-true, eq-eqb, false≢true, cases_order}
use Rattle.gh_scopes.specs.Graph.{walk, begin_with, first_some, has_file, shortest}
use Rattle.gh_scope_laws.proofs.Pigeons.{twice}

pub some_left : {A : Type 0} (o p : Option A) → is_some o ≡ true → is_some (option_or o p) ≡ true
some_left None p e = absurd (false≢true e)
some_left (Some x) p e = refl

pub some_right : {A : Type 0} (o p : Option A) → is_some p ≡ true → is_some (option_or o p) ≡ true
some_right None p e = e
some_right (Some x) p e = refl

some_first : {B : Type 0} (h : ℕ → Option B) (xs : List ℕ) (x : ℕ) → has_file xs x ≡ true → is_some (h x) ≡ true → is_some (first_some h xs) ≡ true
some_first h [] x e s = absurd (false≢true e)
some_first {B} h (y ∷ ys) x e s = by (or_cases (y == x) (has_file ys x) e) (some_first h ys x)
  where
    by : ((y == x) ≡ true) ⊎ (has_file ys x ≡ true) → (has_file ys x ≡ true → is_some (h x) ≡ true → is_some (first_some h ys) ≡ true) → is_some (first_some h (y ∷ ys)) ≡ true
    by (inl q) ih = some_left (h y) (first_some h ys) (ap (λ k. is_some (h k)) (eqb-true y x q) ∙ s)
    by (inr q) ih = some_right (h y) (first_some h ys) (ih q s)

begun : (a : ℕ) (o : Option (List ℕ)) → is_some o ≡ true → is_some (begin_with a o) ≡ true
begun a None e = absurd (false≢true e)
begun a (Some w) e = refl

abbrev no_step : Option (List ℕ)
no_step = Some []

at_once : (b : Bool) → b ≡ true → is_some (if b then no_step else None) ≡ true
at_once true e = refl
at_once false e = absurd (false≢true e)

walk_zero : (g : List (List ℕ)) (to a : ℕ) → a ≡ to → is_some (walk g to 0 a) ≡ true
unfolding walk
walk_zero g to a e = at_once (a == to) (eq-eqb a to e)

walk_suc : (g : List (List ℕ)) (to n a b : ℕ) → has_file (slice_index_or g a []) b ≡ true → is_some (walk g to n b) ≡ true → is_some (walk g to (suc n) a) ≡ true
unfolding walk
walk_suc g to n a b e s = begun a (first_some (walk g to n) (slice_index_or g a [])) (some_first (walk g to n) (slice_index_or g a []) b e s)

abbrev iter : (ℕ → ℕ) → ℕ → ℕ → ℕ
iter s zero f = f
iter s (suc k) f = iter s k (s f)

iter_split : (s : ℕ → ℕ) (i d u : ℕ) → iter s (i + d) u ≡ iter s d (iter s i u)
iter_split s zero d u = let same : 0 + d ≡ d = omega arith in ap (λ n. iter s n u) same
iter_split s (suc i) d u = let same : suc i + d ≡ suc (i + d) = omega arith in ap (λ n. iter s n u) same ∙ iter_split s i d (s u)

-- from each of these files, the next one is imported and one of them too
pub record Goes (g : List (List ℕ)) (s : ℕ → ℕ) (P : ℕ → Type 0) : Type 0 where
  pub imports : (f : ℕ) → P f → has_file (slice_index_or g f []) (s f) ≡ true
  pub next : (f : ℕ) → P f → P (s f)
  pub below : (f : ℕ) → P f → f < length g

stays : (g : List (List ℕ)) (s : ℕ → ℕ) (P : ℕ → Type 0) → Goes g s P → (k f : ℕ) → P f → P (iter s k f)
stays g s P go zero f p = p
stays g s P go (suc k) f p = stays g s P go k (s f) (go.next f p)

walks : (g : List (List ℕ)) (s : ℕ → ℕ) (P : ℕ → Type 0) → Goes g s P → (k f to : ℕ) → P f → iter s k f ≡ to → is_some (walk g to k f) ≡ true
walks g s P go zero f to p e = walk_zero g to f e
walks g s P go (suc k) f to p e = walk_suc g to k f (s f) (go.imports f p) (walks g s P go k (s f) to (go.next f p) e)

pub shortest_some : (g : List (List ℕ)) (to n m a e : ℕ) → m ≤ e → e < m + n → is_some (walk g to e a) ≡ true → is_some (shortest g to n m a) ≡ true
shortest_some g to zero m a e le lt s = absurd (omega (arith, le, lt))
shortest_some g to (suc n) m a e le lt s = by (cases_order m e) (shortest_some g to n (suc m) a e)
  where
    by : (m ≡ e) ⊎ ((m < e) ⊎ (e < m)) → (suc m ≤ e → e < suc m + n → is_some (walk g to e a) ≡ true → is_some (shortest g to n (suc m) a) ≡ true) → is_some (shortest g to (suc n) m a) ≡ true
    by (inl q) ih = some_left (walk g to m a) (shortest g to n (suc m) a) (ap (λ k. is_some (walk g to k a)) q ∙ s)
    by (inr (inl q)) ih = some_right (walk g to m a) (shortest g to n (suc m) a) (ih (omega (arith, q)) (omega (arith, lt)) s)
    by (inr (inr q)) ih = absurd (omega (arith, q, le))

-- one of these files that a walk from the next one reaches
pub record Back (g : List (List ℕ)) (s : ℕ → ℕ) (P : ℕ → Type 0) : Type 0 where
  pub file : ℕ
  pub one : P file
  pub way : is_some (shortest g file (length g) 0 (s file)) ≡ true

pub comes_back : (g : List (List ℕ)) (s : ℕ → ℕ) (P : ℕ → Type 0) → Goes g s P → (f : ℕ) → P f → Back g s P
comes_back g s P go f p =
    let t = twice (λ k. iter s k f) (length g) (λ k. go.below (iter s k f) (stays g s P go k f p)) in
    let a = iter s t.early f in
    let e = t.late - suc t.early in
    let long : t.late ≡ t.early + suc e = omega (arith, t.order) in
    let round : iter s e (s a) ≡ a = sym (iter_split s t.early (suc e) f) ∙ ap (λ k. iter s k f) (sym long) ∙ sym t.same in
    let here : P a = stays g s P go t.early f p in
    record {
      file = a;
      one = here;
      way = shortest_some g a (length g) 0 (s a) e (omega arith) (omega (arith, t.order, t.below)) (walks g s P go e (s a) a (go.next a here) round);
    }
