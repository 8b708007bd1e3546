-- Reductions of a chosen conversion, and of many functions with their arguments.
use Rattle.std.proofs.Common.{◌≡◌, ℕ, zero, suc, ◌+◌, Bool, true, false, cond, ◌==◌, List, [], ◌∷◌, ◌++◌, length, slice_get, Option, Some, None, refl, sym, ap, ◌∙◌, arith, true≢false}
use Rattle.std.proofs.lemmas.Bool.{eqb-true}
use Rattle.std.proofs.lemmas.List.{append-nil, append_assoc}
use Rattle.gh_typeterm.specs.declared.decl.DeclData.{DeclData}
use Rattle.gh_core.specs.Closing.{Env, empty, close, put, without}
use Rattle.gh_core.specs.Reduce.{Program, State, Waiting, arg, of_case, demand, reduce, reductions}
use Rattle.gh_core.specs.Terms.{Term, var, con, lam, app, cases, con_alt, Alts, no_alt, alt}
use Rattle.gh_core.proofs.Close.{over, first_in, close-close, close-empty}
use Rattle.gh_core.proofs.Runs.{reductions_zero, reductions_first}
use Rattle.gh_adapt.specs.declared.ways.Way.{Way}
use Rattle.gh_adapt.specs.declared.ways.Way.TheVariants.{Forth, Back}
use Rattle.gh_adapt.specs.Goes.{Goes, waiting}
use Rattle.gh_adapt.specs.Pairs.{arrow_side, bimap_of, ep, lams, pair_of, picked, rebuild, rebuilding, select}
use Rattle.gh_adapt.specs.PairGoes.{rebuilt}
use Rattle.gh_adapt.proofs.Running.{one, then_run, first_none, equal_is, unequal_is}
use Rattle.gh_adapt_laws.specs.Converts.{one_of}

pub step : (p : Program) (n : ℕ) (s t u : State) → reduce p s ≡ t → reductions p n t ≡ u → reductions p (suc n) s ≡ u
step p n s t u h k = reductions_first p n s ∙ ap (reductions p n) h ∙ k

-- ---- the choice of one

abbrev choice : Way → Alts
choice way = alt (con_alt ep (0 ∷ 1 ∷ []) (var (picked way))) no_alt

chosen : (p : Program) (way : Way) (f g : Term) (stack : List Waiting) (out : List ℕ)
    → reduce p (demand (con ep) (arg f ∷ arg g ∷ of_case (choice way) ∷ stack) out) ≡ demand (one_of way f g) stack out
chosen p Forth f g stack out = refl
chosen p Back f g stack out = refl

-- a term that goes to a pair, under a choice
selects : (p : Program) (n : ℕ) (way : Way) (m f g : Term) (stack : List Waiting) (out : List ℕ)
    → reductions p n (demand m (of_case (choice way) ∷ stack) out) ≡ demand (pair_of f g) (of_case (choice way) ∷ stack) out
    → reductions p (suc (n + 3)) (demand (select way m) stack out) ≡ demand (one_of way f g) stack out
selects p n way m f g stack out h =
    let under = of_case (choice way) ∷ stack in
    let end = demand (one_of way f g) stack out in
    step p (n + 3) (demand (select way m) stack out) (demand m under out) end refl
    (then_run p n 3 (demand m under out) (demand (pair_of f g) under out) end h
    (step p 2 (demand (pair_of f g) under out) (demand (app (con ep) f) (arg g ∷ under) out) end refl
    (step p 1 (demand (app (con ep) f) (arg g ∷ under) out) (demand (con ep) (arg f ∷ arg g ∷ under) out) end refl
    (one p (demand (con ep) (arg f ∷ arg g ∷ under) out) ∙ chosen p way f g stack out))))

-- and with an argument
pub converts : (p : Program) (n : ℕ) (way : Way) (m f g e : Term) → ((stack : List Waiting) (out : List ℕ) → reductions p n (demand m stack out) ≡ demand (pair_of f g) stack out)
    → (stack : List Waiting) (out : List ℕ) → reductions p (n + 5) (demand (app (select way m) e) stack out) ≡ demand (one_of way f g) (arg e ∷ stack) out
converts p n way m f g e h stack out =
    let count : suc (suc (n + 3)) ≡ n + 5 = omega arith in
    ap (λ k. reductions p k (demand (app (select way m) e) stack out)) (sym count)
    ∙ step p (suc (n + 3)) (demand (app (select way m) e) stack out) (demand (select way m) (arg e ∷ stack) out) (demand (one_of way f g) (arg e ∷ stack) out) refl
    (selects p n way m f g (arg e ∷ stack) out (h (of_case (choice way) ∷ arg e ∷ stack) out))

-- and where what is chosen is a function
pub enters_with : (p : Program) (n : ℕ) (way : Way) (m f g e : Term) (x : ℕ) (b to : Term) → ((stack : List Waiting) (out : List ℕ) → reductions p n (demand m stack out) ≡ demand (pair_of f g) stack out)
    → one_of way f g ≡ lam x b → ((stack : List Waiting) (out : List ℕ) → demand (close b (put empty x e)) stack out ≡ demand to stack out)
    → Goes p (n + 6) (app (select way m) e) to
enters_with p n way m f g e x b to h is goes stack out =
    let count : (n + 5) + 1 ≡ n + 6 = omega arith in
    ap (λ k. reductions p k (demand (app (select way m) e) stack out)) (sym count)
    ∙ then_run p (n + 5) 1 (demand (app (select way m) e) stack out) (demand (lam x b) (arg e ∷ stack) out) (demand to stack out)
    (converts p n way m f g e h stack out ∙ ap (λ t. demand t (arg e ∷ stack) out) is)
    (one p (demand (lam x b) (arg e ∷ stack) out) ∙ goes stack out)

direct : (p : Program) (f g : Term) (stack : List Waiting) (out : List ℕ) → reductions p 0 (demand (pair_of f g) stack out) ≡ demand (pair_of f g) stack out
direct p f g stack out = reductions_zero p (demand (pair_of f g) stack out)

-- ---- at an arrow

abbrev pub closed_side : Way → Term → Term → Term
closed_side way s t = close (close (arrow_side way) (without (put empty 0 s) (λ y. y == 1))) (put empty 1 t)

-- ---- at datatypes

by_bool : (b : Bool) (o : Option Term) (t : Term) → first_in (cond b None o) (cond b (Some t) None) ≡ cond b (Some t) o
by_bool true o t = refl
by_bool false o t = first_none o

put_over : (σ : Env) (x : ℕ) (t : Term) → over (without σ (λ y. y == x)) (put empty x t) ≡ put σ x t
put_over σ x t = λ i y. by_bool (y == x) (σ y) t i

eqb_suc : (y n : ℕ) → (suc y == suc n) ≡ (y == n)
eqb_suc y n =
    elim (y == n) as (λ b. (y == n) ≡ b → (suc y == suc n) ≡ b) [
      | true ↦ (λ e. equal_is (suc y) (suc n) (ap suc (eqb-true y n e)))
      | false ↦ (λ e. unequal_is (suc y) (suc n) (λ k. let s : y ≡ n = omega (arith, k) in absurd (true≢false (sym (equal_is y n s) ∙ e))))
    ] refl

-- the next term stands for the next number
put_next : (us : List Term) (t : Term) (y : ℕ) → put (slice_get us) (length us) t y ≡ slice_get (us ++ t ∷ []) y
put_next [] t zero = refl
put_next [] t (suc y) = ap (λ b. cond b (Some t) None) (unequal_is (suc y) 0 (λ e. omega arith))
put_next (u ∷ us) t zero = ap (λ b. cond b (Some t) (Some u)) (unequal_is 0 (suc (length us)) (λ e. omega arith))
put_next (u ∷ us) t (suc y) = ap (λ b. cond b (Some t) (slice_get us y)) (eqb_suc y (length us)) ∙ put_next us t y

entered_next : (b : Term) (us : List Term) (t : Term) → close (close b (without (slice_get us) (λ y. y == length us))) (put empty (length us) t) ≡ close b (slice_get (us ++ t ∷ []))
entered_next b us t =
    close-close b (without (slice_get us) (λ y. y == length us)) (put empty (length us) t)
    ∙ ap (close b) (put_over (slice_get us) (length us) t ∙ (λ i y. put_next us t y i))

length_next : (us : List Term) (t : Term) → length (us ++ t ∷ []) ≡ suc (length us)
length_next [] t = refl
length_next (u ∷ us) t = ap suc (length_next us t)

-- so many functions with so many arguments
lams_entered : (p : Program) (ts us : List Term) (b : Term) (stack : List Waiting) (out : List ℕ)
    → reductions p (length ts) (demand (close (lams (length us) (length ts) b) (slice_get us)) (waiting ts stack) out) ≡ demand (close b (slice_get (us ++ ts))) stack out
lams_entered p [] us b stack out = reductions_zero p (demand (close b (slice_get us)) stack out) ∙ ap (λ l. demand (close b (slice_get l)) stack out) (sym (append-nil us))
lams_entered p (t ∷ ts) us b stack out =
    let inner = close (lams (suc (length us)) (length ts) b) (without (slice_get us) (λ y. y == length us)) in
    step p (length ts) (demand (lam (length us) inner) (arg t ∷ waiting ts stack) out) (demand (close inner (put empty (length us) t)) (waiting ts stack) out)
    (demand (close b (slice_get (us ++ t ∷ ts))) stack out) refl
    (ap (λ c. reductions p (length ts) (demand c (waiting ts stack) out))
    (entered_next (lams (suc (length us)) (length ts) b) us t ∙ ap (λ k. close (lams k (length ts) b) (slice_get (us ++ t ∷ []))) (sym (length_next us t)))
    ∙ lams_entered p ts (us ++ t ∷ []) b stack out ∙ ap (λ l. demand (close b (slice_get l)) stack out) (append_assoc us (t ∷ []) ts))

abbrev no_terms : List Term
no_terms = []

nothing_stands : (y : ℕ) → slice_get no_terms y ≡ None
nothing_stands y = refl

no_names : slice_get no_terms ≡ empty
no_names = λ i y. nothing_stands y i

-- a datatype's pair at pairs for its parameters
bimap_enters : (p : Program) (d : DeclData) (ts : List Term) (stack : List Waiting) (out : List ℕ) → length ts ≡ length d.params
    → reductions p (length ts) (demand (bimap_of d) (waiting ts stack) out)
    ≡ demand (pair_of (close (rebuild Forth (length d.params) d.constructors) (slice_get ts)) (close (rebuild Back (length d.params) d.constructors) (slice_get ts))) stack out
bimap_enters p d ts stack out len =
    let b = pair_of (rebuild Forth (length d.params) d.constructors) (rebuild Back (length d.params) d.constructors) in
    ap (λ t. reductions p (length ts) (demand t (waiting ts stack) out))
    (ap (λ n. lams 0 n b) (sym len) ∙ sym (close-empty (lams 0 (length ts) b)) ∙ ap (close (lams 0 (length ts) b)) (sym no_names))
    ∙ lams_entered p ts [] b stack out

abbrev turned_to : Way → DeclData → List Term → Term
turned_to way d ts = close (rebuild way (length d.params) d.constructors) (slice_get ts)

abbrev row : Way → DeclData → List Term → Term
row way d ts = close (cases (var (length d.params)) (rebuilding way (length d.params) d.constructors)) (without (slice_get ts) (λ y. y == length d.params))

picks_row : (way : Way) (d : DeclData) (ts : List Term) → one_of way (turned_to Forth d ts) (turned_to Back d ts) ≡ lam (length d.params) (row way d ts)
picks_row Forth d ts = refl
picks_row Back d ts = refl

row_entered : (way : Way) (d : DeclData) (ts : List Term) (e : Term) → length ts ≡ length d.params → close (row way d ts) (put empty (length d.params) e) ≡ rebuilt way d ts e
row_entered way d ts e len =
    let b = cases (var (length d.params)) (rebuilding way (length d.params) d.constructors) in
    ap (λ n. close (close b (without (slice_get ts) (λ y. y == n))) (put empty n e)) (sym len) ∙ entered_next b ts e

-- a term that goes to the datatype's pair, applied to pairs
pub rebuilds : (p : Program) (n : ℕ) (way : Way) (d : DeclData) (m : Term) (ts : List Term) (e : Term) → length ts ≡ length d.params
    → ((stack : List Waiting) (out : List ℕ) → reductions p n (demand m stack out) ≡ demand (bimap_of d) (waiting ts stack) out)
    → Goes p (n + length ts + 6) (app (select way m) e) (rebuilt way d ts e)
rebuilds p n way d m ts e len h =
    enters_with p (n + length ts) way m (turned_to Forth d ts) (turned_to Back d ts) e (length d.params) (row way d ts) (rebuilt way d ts e)
    (λ stack out. then_run p n (length ts) (demand m stack out) (demand (bimap_of d) (waiting ts stack) out) (demand (pair_of (turned_to Forth d ts) (turned_to Back d ts)) stack out)
    (h stack out) (bimap_enters p d ts stack out len))
    (picks_row way d ts) (λ stack out. ap (λ t. demand t stack out) (row_entered way d ts e len))
