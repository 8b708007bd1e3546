-- What the conversions of pairs do with a term.
use Rattle.std.proofs.Common.{◌≡◌, ℕ, zero, suc, ◌+◌, inl, inr, Bool, true, false, cond, ◌==◌, List, [], ◌∷◌, ◌++◌, length, map, slice_get, unwrap_or, Option, Some, None, refl, sym, ap, ◌∙◌, arith, true≢false}
use Rattle.std.proofs.lemmas.Bool.{eqb-true}
use Rattle.std.proofs.lemmas.List.{append-nil, append_assoc, length-map}
use Rattle.gh_base.specs.declared.place.Origin.{Origin}
use Rattle.gh_base.specs.declared.place.TyCon.TheVariants as tycon
use Rattle.gh_typeterm.specs.declared.decl.DeclData.{DeclData}
use Rattle.gh_typeterm.specs.declared.ty.TyNode.{TyNode}
use Rattle.gh_typeterm.specs.declared.ty.TyNode.TheVariants as ty
use Rattle.gh_typeterm.proofs.Folds.{fold-Con, fold-Var, fold-App}
use Rattle.gh_core.specs.declared.terms.CoreName.TheVariants.{Bimap}
use Rattle.gh_core.specs.Closing.{Env, empty, close, put, without}
use Rattle.gh_core.specs.Reduce.{Program, State, Waiting, arg, of_case, demand, defined, reduce, reductions, unfold_global, at}
use Rattle.gh_core.specs.Terms.{Term, var, glob, con, lam, app, cases, con_alt, Alts, no_alt, alt}
use Rattle.gh_core.proofs.Close.{over, first_in, close-close, close-empty}
use Rattle.gh_core.proofs.Runs.{reductions_zero, reductions_first}
use Rattle.gh_adapt.specs.declared.ways.Way.{Way}
use Rattle.gh_adapt.specs.declared.ways.Way.TheVariants.{Forth, Back}
use Rattle.gh_adapt.specs.Conversions.{applied_all}
use Rattle.gh_adapt.specs.Goes.{Goes, waiting}
use Rattle.gh_adapt.specs.Pairs.{adapter_of, arrow_pair, arrow_side, bimap_of, ep, given, id_pair, lams, pair_at, pair_of, pair_step, picked, rebuild, rebuilding, select}
use Rattle.gh_adapt.specs.PairGoes.{MarkerGoes, IsKept, KeptGoes, around, ArrowGoes, rebuilt, type_applied, DataGoes, BimapGoes}
use Rattle.gh_adapt.proofs.Running.{one, then_run, first_none, equal_is, unequal_is}

step : (p : Program) (n : ℕ) (s t u : State) → reduce p s ≡ t → reductions p n t ≡ u → reductions p (suc n) s ≡ u
step p n s t u h k = reductions_first p n s ∙ ap (reductions p n) h ∙ k

-- ---- the choice of one

abbrev one_of : Way → Term → Term → Term
one_of Forth f g = f
one_of Back f g = g

abbrev choice : Way → Alts
choice way = alt (con_alt ep (0 ∷ 1 ∷ []) (var (picked way))) no_alt

chosen : (p : Program) (way : Way) (f g : Term) (stack : List Waiting) (out : List ℕ)
    → reduce p (demand (con ep) (arg f ∷ arg g ∷ of_case (choice way) ∷ stack) out) ≡ demand (one_of way f g) stack out
chosen p Forth f g stack out = refl
chosen p Back f g stack out = refl

-- a term that goes to a pair, under a choice
selects : (p : Program) (n : ℕ) (way : Way) (m f g : Term) (stack : List Waiting) (out : List ℕ)
    → reductions p n (demand m (of_case (choice way) ∷ stack) out) ≡ demand (pair_of f g) (of_case (choice way) ∷ stack) out
    → reductions p (suc (n + 3)) (demand (select way m) stack out) ≡ demand (one_of way f g) stack out
selects p n way m f g stack out h =
    let under = of_case (choice way) ∷ stack in
    let end = demand (one_of way f g) stack out in
    step p (n + 3) (demand (select way m) stack out) (demand m under out) end refl
    (then_run p n 3 (demand m under out) (demand (pair_of f g) under out) end h
    (step p 2 (demand (pair_of f g) under out) (demand (app (con ep) f) (arg g ∷ under) out) end refl
    (step p 1 (demand (app (con ep) f) (arg g ∷ under) out) (demand (con ep) (arg f ∷ arg g ∷ under) out) end refl
    (one p (demand (con ep) (arg f ∷ arg g ∷ under) out) ∙ chosen p way f g stack out))))

-- and with an argument
converts : (p : Program) (n : ℕ) (way : Way) (m f g e : Term) → ((stack : List Waiting) (out : List ℕ) → reductions p n (demand m stack out) ≡ demand (pair_of f g) stack out)
    → (stack : List Waiting) (out : List ℕ) → reductions p (n + 5) (demand (app (select way m) e) stack out) ≡ demand (one_of way f g) (arg e ∷ stack) out
converts p n way m f g e h stack out =
    let count : suc (suc (n + 3)) ≡ n + 5 = omega arith in
    ap (λ k. reductions p k (demand (app (select way m) e) stack out)) (sym count)
    ∙ step p (suc (n + 3)) (demand (app (select way m) e) stack out) (demand (select way m) (arg e ∷ stack) out) (demand (one_of way f g) (arg e ∷ stack) out) refl
    (selects p n way m f g (arg e ∷ stack) out (h (of_case (choice way) ∷ arg e ∷ stack) out))

-- and where what is chosen is a function
enters_with : (p : Program) (n : ℕ) (way : Way) (m f g e : Term) (x : ℕ) (b to : Term) → ((stack : List Waiting) (out : List ℕ) → reductions p n (demand m stack out) ≡ demand (pair_of f g) stack out)
    → one_of way f g ≡ lam x b → ((stack : List Waiting) (out : List ℕ) → demand (close b (put empty x e)) stack out ≡ demand to stack out)
    → Goes p (n + 6) (app (select way m) e) to
enters_with p n way m f g e x b to h is goes stack out =
    let count : (n + 5) + 1 ≡ n + 6 = omega arith in
    ap (λ k. reductions p k (demand (app (select way m) e) stack out)) (sym count)
    ∙ then_run p (n + 5) 1 (demand (app (select way m) e) stack out) (demand (lam x b) (arg e ∷ stack) out) (demand to stack out)
    (converts p n way m f g e h stack out ∙ ap (λ t. demand t (arg e ∷ stack) out) is)
    (one p (demand (lam x b) (arg e ∷ stack) out) ∙ goes stack out)

direct : (p : Program) (f g : Term) (stack : List Waiting) (out : List ℕ) → reductions p 0 (demand (pair_of f g) stack out) ≡ demand (pair_of f g) stack out
direct p f g stack out = reductions_zero p (demand (pair_of f g) stack out)

-- ---- at a variable, and where nothing is converted

at_var : (leaf : ℕ → Term) (x : ℕ) → pair_at leaf (ty.Var x) ≡ leaf x
at_var leaf x = fold-Var Term (pair_step leaf) x

at_app : (leaf : ℕ → Term) (f s : TyNode) → pair_at leaf (ty.App f s) ≡ app (pair_at leaf f) (pair_at leaf s)
at_app leaf f s = fold-App Term (pair_step leaf) f s

pub marker_goes : (pairs : List Term) (base : TyNode) (m : Term) → m ≡ adapter_of pairs base → MarkerGoes pairs base m
marker_goes pairs base m is p x f g e var_is found stack out =
    let pair : pair_at (given pairs) base ≡ pair_of f g = ap (pair_at (given pairs)) var_is ∙ at_var (given pairs) x ∙ ap (λ o. unwrap_or o id_pair) found in
    ap (λ t. reductions p 5 (demand (app t e) stack out)) (is ∙ ap (select Back) pair) ∙ converts p 0 Back (pair_of f g) f g e (direct p f g) stack out

kept_pair : (pairs : List Term) (base : TyNode) → IsKept pairs base → pair_at (given pairs) base ≡ id_pair
kept_pair pairs base (inl h) = ap (pair_at (given pairs)) h ∙ fold-Con Term (pair_step (given pairs)) tycon.Int
kept_pair pairs base (inr (inl h)) = ap (pair_at (given pairs)) h ∙ fold-Con Term (pair_step (given pairs)) tycon.Char
kept_pair pairs base (inr (inr h)) = ap (pair_at (given pairs)) h.1 ∙ at_var (given pairs) h.0 ∙ ap (λ o. unwrap_or o id_pair) h.2

pub kept_goes : (pairs : List Term) (base : TyNode) (m : Term) → m ≡ adapter_of pairs base → KeptGoes pairs base m
kept_goes pairs base m is p e kept stack out =
    let i = lam 0 (var 0) in
    ap (λ t. reductions p 6 (demand (app t e) stack out)) (is ∙ ap (select Back) (kept_pair pairs base kept))
    ∙ enters_with p 0 Back id_pair i i e 0 (var 0) e (direct p i i) refl (λ stack out. refl) stack out

-- ---- at an arrow

abbrev closed_side : Way → Term → Term → Term
closed_side way s t = close (close (arrow_side way) (without (put empty 0 s) (λ y. y == 1))) (put empty 1 t)

arrow_enters : (p : Program) (s t : Term) (stack : List Waiting) (out : List ℕ)
    → reductions p 4 (demand (app (app arrow_pair s) t) stack out) ≡ demand (pair_of (closed_side Forth s t) (closed_side Back s t)) stack out
arrow_enters p s t stack out =
    let end = demand (pair_of (closed_side Forth s t) (closed_side Back s t)) stack out in
    let inner = lam 1 (close (pair_of (arrow_side Forth) (arrow_side Back)) (without (put empty 0 s) (λ y. y == 1))) in
    step p 3 (demand (app (app arrow_pair s) t) stack out) (demand (app arrow_pair s) (arg t ∷ stack) out) end refl
    (step p 2 (demand (app arrow_pair s) (arg t ∷ stack) out) (demand arrow_pair (arg s ∷ arg t ∷ stack) out) end refl
    (step p 1 (demand arrow_pair (arg s ∷ arg t ∷ stack) out) (demand inner (arg t ∷ stack) out) end refl
    (one p (demand inner (arg t ∷ stack) out))))

arrow_at : (leaf : ℕ → Term) (s t : TyNode) → pair_at leaf (ty.App (ty.App (ty.Con tycon.Arrow) s) t) ≡ app (app arrow_pair (pair_at leaf s)) (pair_at leaf t)
arrow_at leaf s t =
    at_app leaf (ty.App (ty.Con tycon.Arrow) s) t
    ∙ ap (λ f. app f (pair_at leaf t)) (at_app leaf (ty.Con tycon.Arrow) s ∙ ap (λ f. app f (pair_at leaf s)) (fold-Con Term (pair_step leaf) tycon.Arrow))

pub arrow_goes : (pairs : List Term) (base : TyNode) (m : Term) → m ≡ adapter_of pairs base → ArrowGoes pairs base m
arrow_goes pairs base m is p s t e arrow_is stack out =
    let l = pair_at (given pairs) s in
    let r = pair_at (given pairs) t in
    ap (λ t. reductions p 10 (demand (app t e) stack out)) (is ∙ ap (λ b. select Back (pair_at (given pairs) b)) arrow_is ∙ ap (select Back) (arrow_at (given pairs) s t))
    ∙ enters_with p 4 Back (app (app arrow_pair l) r) (closed_side Forth l r) (closed_side Back l r) e 2
    (close (close (lam 3 (app (select Back (var 1)) (app (var 2) (app (select Forth (var 0)) (var 3))))) (without (without (put empty 0 l) (λ y. y == 1)) (λ y. y == 2))) (without (put empty 1 r) (λ y. y == 2)))
    (around l r e) (arrow_enters p l r) refl (λ stack out. refl) stack out

-- ---- at datatypes

passes : (p : Program) (ts : List Term) (f : Term) (stack : List Waiting) (out : List ℕ) → reductions p (length ts) (demand (applied_all f ts) stack out) ≡ demand f (waiting ts stack) out
passes p [] f stack out = reductions_zero p (demand f stack out)
passes p (t ∷ ts) f stack out =
    let count : length ts + 1 ≡ suc (length ts) = omega arith in
    ap (λ k. reductions p k (demand (applied_all (app f t) ts) stack out)) (sym count)
    ∙ then_run p (length ts) 1 (demand (applied_all (app f t) ts) stack out) (demand (app f t) (waiting ts stack) out) (demand f (arg t ∷ waiting ts stack) out)
    (passes p ts (app f t) stack out) (one p (demand (app f t) (waiting ts stack) out))

by_bool : (b : Bool) (o : Option Term) (t : Term) → first_in (cond b None o) (cond b (Some t) None) ≡ cond b (Some t) o
by_bool true o t = refl
by_bool false o t = first_none o

put_over : (σ : Env) (x : ℕ) (t : Term) → over (without σ (λ y. y == x)) (put empty x t) ≡ put σ x t
put_over σ x t = λ i y. by_bool (y == x) (σ y) t i

eqb_suc : (y n : ℕ) → (suc y == suc n) ≡ (y == n)
eqb_suc y n =
    elim (y == n) as (λ b. (y == n) ≡ b → (suc y == suc n) ≡ b) [
      | true ↦ (λ e. equal_is (suc y) (suc n) (ap suc (eqb-true y n e)))
      | false ↦ (λ e. unequal_is (suc y) (suc n) (λ k. let s : y ≡ n = omega (arith, k) in absurd (true≢false (sym (equal_is y n s) ∙ e))))
    ] refl

-- the next term stands for the next number
put_next : (us : List Term) (t : Term) (y : ℕ) → put (slice_get us) (length us) t y ≡ slice_get (us ++ t ∷ []) y
put_next [] t zero = refl
put_next [] t (suc y) = ap (λ b. cond b (Some t) None) (unequal_is (suc y) 0 (λ e. omega arith))
put_next (u ∷ us) t zero = ap (λ b. cond b (Some t) (Some u)) (unequal_is 0 (suc (length us)) (λ e. omega arith))
put_next (u ∷ us) t (suc y) = ap (λ b. cond b (Some t) (slice_get us y)) (eqb_suc y (length us)) ∙ put_next us t y

entered_next : (b : Term) (us : List Term) (t : Term) → close (close b (without (slice_get us) (λ y. y == length us))) (put empty (length us) t) ≡ close b (slice_get (us ++ t ∷ []))
entered_next b us t =
    close-close b (without (slice_get us) (λ y. y == length us)) (put empty (length us) t)
    ∙ ap (close b) (put_over (slice_get us) (length us) t ∙ (λ i y. put_next us t y i))

length_next : (us : List Term) (t : Term) → length (us ++ t ∷ []) ≡ suc (length us)
length_next [] t = refl
length_next (u ∷ us) t = ap suc (length_next us t)

-- so many functions with so many arguments
lams_entered : (p : Program) (ts us : List Term) (b : Term) (stack : List Waiting) (out : List ℕ)
    → reductions p (length ts) (demand (close (lams (length us) (length ts) b) (slice_get us)) (waiting ts stack) out) ≡ demand (close b (slice_get (us ++ ts))) stack out
lams_entered p [] us b stack out = reductions_zero p (demand (close b (slice_get us)) stack out) ∙ ap (λ l. demand (close b (slice_get l)) stack out) (sym (append-nil us))
lams_entered p (t ∷ ts) us b stack out =
    let inner = close (lams (suc (length us)) (length ts) b) (without (slice_get us) (λ y. y == length us)) in
    step p (length ts) (demand (lam (length us) inner) (arg t ∷ waiting ts stack) out) (demand (close inner (put empty (length us) t)) (waiting ts stack) out)
    (demand (close b (slice_get (us ++ t ∷ ts))) stack out) refl
    (ap (λ c. reductions p (length ts) (demand c (waiting ts stack) out))
    (entered_next (lams (suc (length us)) (length ts) b) us t ∙ ap (λ k. close (lams k (length ts) b) (slice_get (us ++ t ∷ []))) (sym (length_next us t)))
    ∙ lams_entered p ts (us ++ t ∷ []) b stack out ∙ ap (λ l. demand (close b (slice_get l)) stack out) (append_assoc us (t ∷ []) ts))

abbrev no_terms : List Term
no_terms = []

nothing_stands : (y : ℕ) → slice_get no_terms y ≡ None
nothing_stands y = refl

no_names : slice_get no_terms ≡ empty
no_names = λ i y. nothing_stands y i

-- a datatype's pair at pairs for its parameters
bimap_enters : (p : Program) (d : DeclData) (ts : List Term) (stack : List Waiting) (out : List ℕ) → length ts ≡ length d.params
    → reductions p (length ts) (demand (bimap_of d) (waiting ts stack) out)
    ≡ demand (pair_of (close (rebuild Forth (length d.params) d.constructors) (slice_get ts)) (close (rebuild Back (length d.params) d.constructors) (slice_get ts))) stack out
bimap_enters p d ts stack out len =
    let b = pair_of (rebuild Forth (length d.params) d.constructors) (rebuild Back (length d.params) d.constructors) in
    ap (λ t. reductions p (length ts) (demand t (waiting ts stack) out))
    (ap (λ n. lams 0 n b) (sym len) ∙ sym (close-empty (lams 0 (length ts) b)) ∙ ap (close (lams 0 (length ts) b)) (sym no_names))
    ∙ lams_entered p ts [] b stack out

abbrev turned_to : Way → DeclData → List Term → Term
turned_to way d ts = close (rebuild way (length d.params) d.constructors) (slice_get ts)

abbrev row : Way → DeclData → List Term → Term
row way d ts = close (cases (var (length d.params)) (rebuilding way (length d.params) d.constructors)) (without (slice_get ts) (λ y. y == length d.params))

picks_row : (way : Way) (d : DeclData) (ts : List Term) → one_of way (turned_to Forth d ts) (turned_to Back d ts) ≡ lam (length d.params) (row way d ts)
picks_row Forth d ts = refl
picks_row Back d ts = refl

row_entered : (way : Way) (d : DeclData) (ts : List Term) (e : Term) → length ts ≡ length d.params → close (row way d ts) (put empty (length d.params) e) ≡ rebuilt way d ts e
row_entered way d ts e len =
    let b = cases (var (length d.params)) (rebuilding way (length d.params) d.constructors) in
    ap (λ n. close (close b (without (slice_get ts) (λ y. y == n))) (put empty n e)) (sym len) ∙ entered_next b ts e

-- a term that goes to the datatype's pair, applied to pairs
rebuilds : (p : Program) (n : ℕ) (way : Way) (d : DeclData) (m : Term) (ts : List Term) (e : Term) → length ts ≡ length d.params
    → ((stack : List Waiting) (out : List ℕ) → reductions p n (demand m stack out) ≡ demand (bimap_of d) (waiting ts stack) out)
    → Goes p (n + length ts + 6) (app (select way m) e) (rebuilt way d ts e)
rebuilds p n way d m ts e len h =
    enters_with p (n + length ts) way m (turned_to Forth d ts) (turned_to Back d ts) e (length d.params) (row way d ts) (rebuilt way d ts e)
    (λ stack out. then_run p n (length ts) (demand m stack out) (demand (bimap_of d) (waiting ts stack) out) (demand (pair_of (turned_to Forth d ts) (turned_to Back d ts)) stack out)
    (h stack out) (bimap_enters p d ts stack out len))
    (picks_row way d ts) (λ stack out. ap (λ t. demand t stack out) (row_entered way d ts e len))

pub bimap_goes : (d : DeclData) (m : Term) → m ≡ bimap_of d → BimapGoes d m
bimap_goes d m is p way pairs e len stack out =
    ap (λ t. reductions p (length pairs + length pairs + 6) (demand (app (select way (applied_all t pairs)) e) stack out)) is
    ∙ rebuilds p (length pairs) way d (applied_all (bimap_of d) pairs) pairs e len (passes p pairs (bimap_of d)) stack out

applied_at : (leaf : ℕ → Term) (ts : List TyNode) (f : TyNode) → pair_at leaf (type_applied f ts) ≡ applied_all (pair_at leaf f) (map (pair_at leaf) ts)
applied_at leaf [] f = refl
applied_at leaf (t ∷ ts) f = applied_at leaf ts (ty.App f t) ∙ ap (λ g. applied_all g (map (pair_at leaf) ts)) (at_app leaf f t)

global_goes : (p : Program) (o : Origin) (ts : List Term) (m : Term) (stack : List Waiting) (out : List ℕ) → defined p.defs (Bimap (tycon.Named o)) ≡ Some m
    → reductions p (length ts + 1) (demand (applied_all (glob (Bimap (tycon.Named o))) ts) stack out) ≡ demand m (waiting ts stack) out
global_goes p o ts m stack out found =
    let g = glob (Bimap (tycon.Named o)) in
    then_run p (length ts) 1 (demand (applied_all g ts) stack out) (demand g (waiting ts stack) out) (demand m (waiting ts stack) out) (passes p ts g stack out)
    (one p (demand g (waiting ts stack) out) ∙ ap (λ d. unfold_global d (waiting ts stack) out (at g (waiting ts stack) out)) found)

pub data_goes : (pairs : List Term) (base : TyNode) (m : Term) → m ≡ adapter_of pairs base → DataGoes pairs base m
data_goes pairs base m is p d o ts e base_is len found stack out =
    let leaf = given pairs in
    let us = map (pair_at leaf) ts in
    let g = glob (Bimap (tycon.Named o)) in
    let same : length us ≡ length ts = length-map ts (pair_at leaf) in
    let count : (length us + 1) + length us + 6 ≡ length ts + length ts + 7 = omega arith in
    ap (λ t. reductions p (length ts + length ts + 7) (demand (app t e) stack out))
    (is ∙ ap (λ b. select Back (pair_at leaf b)) base_is
    ∙ ap (select Back) (applied_at leaf ts (ty.Con (tycon.Named o)) ∙ ap (λ h. applied_all h us) (fold-Con Term (pair_step leaf) (tycon.Named o))))
    ∙ ap (λ k. reductions p k (demand (app (select Back (applied_all g us)) e) stack out)) (sym count)
    ∙ rebuilds p (length us + 1) Back d (applied_all g us) us e (same ∙ len) (λ stack out. global_goes p o us (bimap_of d) stack out found) stack out
