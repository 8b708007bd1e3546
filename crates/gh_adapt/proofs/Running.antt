-- Reductions of cases on constructors.
use Rattle.std.proofs.Common.{◌≡◌, ℕ, ◌+◌, Bool, true, false, cond, ◌==◌, ◌&&◌, ◌||◌, List, [], ◌∷◌, length, Option, Some, None, refl, sym, ap, ◌∙◌, arith}
use Rattle.std.proofs.lemmas.Bool.{eq-eqb, eqb-true}
use Rattle.gh_base.specs.declared.place.Origin.{Origin}
use Rattle.gh_core.specs.Primitives.{same_origin, same_space}
use Rattle.gh_base.specs.declared.place.Space.{Space}
use Rattle.gh_base.specs.declared.place.Space.TheVariants.{Values, Types}
use Rattle.gh_core.specs.Reduce.{Program, State, Waiting, arg, of_case, at, listed, demand, reduce, reductions, args_of, after_args, choose, begin_case, is_newtype, give}
use Rattle.gh_core.specs.Terms.{Term, con, lam, app, cases, contents, con_alt, Alts, alt}
use Rattle.gh_core.specs.Closing.{Env, empty, close, put, put_all, without, is_in}
use Rattle.gh_core.proofs.Runs.{reductions_zero, reductions_first, reductions_add}
use Rattle.gh_core.proofs.Close.{over, first_in, close-close}
use Rattle.gh_adapt.specs.Goes.{waiting, ComesTo}

pub one : (p : Program) (s : State) → reductions p 1 s ≡ reduce p s
one p s = reductions_first p 0 s ∙ reductions_zero p (reduce p s)

-- one run after another
pub then_run : (p : Program) (m n : ℕ) (s t u : State) → reductions p m s ≡ t → reductions p n t ≡ u → reductions p (m + n) s ≡ u
then_run p m n s t u h k = sym (reductions_add p m n s) ∙ ap (reductions p n) h ∙ k

pub args_waiting : (es : List Term) (alts : Alts) (stack : List Waiting) → args_of (waiting es (of_case alts ∷ stack)) ≡ es
args_waiting [] alts stack = refl
args_waiting (e ∷ es) alts stack = ap (λ l. e ∷ l) (args_waiting es alts stack)

pub after_waiting : (es : List Term) (alts : Alts) (stack : List Waiting) → after_args (waiting es (of_case alts ∷ stack)) ≡ of_case alts ∷ stack
after_waiting [] alts stack = refl
after_waiting (e ∷ es) alts stack = after_waiting es alts stack

-- ---- names

pub equal_is : (x n : ℕ) → x ≡ n → (x == n) ≡ true
equal_is x n e = eq-eqb x n e

pub unequal_is : (x n : ℕ) → (x ≡ n → ⊥) → (x == n) ≡ false
unequal_is x n h = elim (x == n) as (λ t. (x == n) ≡ t → (x == n) ≡ false) [ true ↦ (λ e. absurd (h (eqb-true x n e))) | false ↦ (λ e. e) ] refl

self_space : (s : Space) → same_space s s ≡ true
self_space Values = refl
self_space Types = refl

three : (a b c : Bool) → a ≡ true → b ≡ true → c ≡ true → (a && b && c) ≡ true
three a b c e f g = λ i. e i && f i && g i

pub origin_self : (o : Origin) → same_origin o o ≡ true
origin_self o =
    three (o.«module».0 == o.«module».0) (same_space o.space o.space) (o.name.0 == o.name.0) (equal_is o.«module».0 o.«module».0 refl) (self_space o.space) (equal_is o.name.0 o.name.0 refl)

-- ---- cases

pub choose_hit : (c : Origin) (xs : List ℕ) (t : Term) (more : Alts) (es : List Term) (stack : List Waiting) (out : List ℕ) (s : State) → length xs ≡ length es
    → choose (alt (con_alt c xs t) more) c es stack out s ≡ demand (close t (put_all empty xs es)) stack out
choose_hit c xs t more es stack out s len =
    λ i. cond (origin_self c i && equal_is (length xs) (length es) len i) (demand (close t (put_all empty xs es)) stack out) (choose more c es stack out s)

pub choose_miss : (c d : Origin) (xs : List ℕ) (t : Term) (more : Alts) (es : List Term) (stack : List Waiting) (out : List ℕ) (s : State) → same_origin c d ≡ false
    → choose (alt (con_alt d xs t) more) c es stack out s ≡ choose more c es stack out s
choose_miss c d xs t more es stack out s e =
    λ i. cond (e i && (length xs == length es)) (demand (close t (put_all empty xs es)) stack out) (choose more c es stack out s)

pub begin_data : (newtypes : List Origin) (e : Term) (c : Origin) (xs : List ℕ) (t : Term) (more : Alts) (stack : List Waiting) (out : List ℕ) → is_newtype newtypes c ≡ false
    → begin_case newtypes e (alt (con_alt c xs t) more) stack out ≡ demand e (of_case (alt (con_alt c xs t) more) ∷ stack) out
begin_data newtypes e c [] t more stack out h = refl
begin_data newtypes e c (x ∷ []) t more stack out h =
    ap (λ b. cond b (demand (close t (put empty x (contents c e))) stack out) (demand e (of_case (alt (con_alt c (x ∷ []) t) more) ∷ stack) out)) h
begin_data newtypes e c (x ∷ y ∷ ys) t more stack out h = refl

demand_con : (c : Origin) (es : List Term) (alts : Alts) (stack : List Waiting) (out : List ℕ)
    → demand (con c) (waiting es (of_case alts ∷ stack)) out ≡ at (con c) (waiting es (of_case alts ∷ stack)) out
demand_con c es alts stack out =
    ap (λ ws. listed c (args_of (waiting es (of_case alts ∷ stack))) ws out (at (con c) (waiting es (of_case alts ∷ stack)) out)) (after_waiting es alts stack)

arrives : (p : Program) (c : Origin) (es : List Term) (alts : Alts) (stack : List Waiting) (out : List ℕ)
    → reduce p (demand (con c) (waiting es (of_case alts ∷ stack)) out) ≡ choose alts c es stack out (at (con c) (waiting es (of_case alts ∷ stack)) out)
arrives p c es alts stack out =
    ap (reduce p) (demand_con c es alts stack out)
    ∙ (λ i. give c (args_waiting es alts stack i) (after_waiting es alts stack i) out (at (con c) (waiting es (of_case alts ∷ stack)) out))

-- a case whose scrutinee comes to a constructor chooses among its alternatives, in two reductions beside those of the scrutinee
pub case_runs : (p : Program) (n : ℕ) (e : Term) (c : Origin) (es : List Term) (alts : Alts) (stack : List Waiting) (out : List ℕ) (to : State)
    → begin_case p.newtypes e alts stack out ≡ demand e (of_case alts ∷ stack) out → ComesTo p n e c es
    → ((s : State) → choose alts c es stack out s ≡ to) → reductions p (n + 2) (demand (cases e alts) stack out) ≡ to
case_runs p n e c es alts stack out to begins comes chosen =
    let count : 1 + (n + 1) ≡ n + 2 = omega arith in
    ap (λ k. reductions p k (demand (cases e alts) stack out)) (sym count)
    ∙ then_run p 1 (n + 1) (demand (cases e alts) stack out) (demand e (of_case alts ∷ stack) out) to
    (one p (demand (cases e alts) stack out) ∙ begins)
    (then_run p n 1 (demand e (of_case alts ∷ stack) out) (demand (con c) (waiting es (of_case alts ∷ stack)) out) to (comes alts stack out)
    (one p (demand (con c) (waiting es (of_case alts ∷ stack)) out) ∙ arrives p c es alts stack out ∙ chosen (at (con c) (waiting es (of_case alts ∷ stack)) out)))

-- a function with its argument
pub enters : (p : Program) (x : ℕ) (b e : Term) (stack : List Waiting) (out : List ℕ) → reductions p 2 (demand (app (lam x b) e) stack out) ≡ demand (close b (put empty x e)) stack out
enters p x b e stack out =
    then_run p 1 1 (demand (app (lam x b) e) stack out) (demand (lam x b) (arg e ∷ stack) out) (demand (close b (put empty x e)) stack out)
    (one p (demand (app (lam x b) e) stack out)) (one p (demand (lam x b) (arg e ∷ stack) out))

-- ---- names of alternatives

-- what stands for the names once an alternative was taken
abbrev pub entered : Env → List ℕ → List Term → Env
entered σ xs es = over (without σ (is_in xs)) (put_all empty xs es)

pub entered_by : (t : Term) (σ : Env) (xs : List ℕ) (es : List Term) → close (close t (without σ (is_in xs))) (put_all empty xs es) ≡ close t (entered σ xs es)
entered_by t σ xs es = close-close t (without σ (is_in xs)) (put_all empty xs es)

pub first_none : (o : Option Term) → first_in o None ≡ o
first_none None = refl
first_none (Some t) = refl

abbrev pub two : Bool → Bool → Option Term → Term → Term → Option Term
two a b o e f = first_in (cond (a || (b || false)) None o) (cond a (Some e) (cond b (Some f) None))

abbrev pub single : Bool → Option Term → Term → Option Term
single a o e = first_in (cond (a || false) None o) (cond a (Some e) None)

single_here : (o : Option Term) (e : Term) (a : Bool) → a ≡ true → single a o e ≡ Some e
single_here o e a h = ap (λ v. single v o e) h

single_there : (o : Option Term) (e : Term) (a : Bool) → a ≡ false → single a o e ≡ o
single_there o e a h = ap (λ v. single v o e) h ∙ first_none o

pub entered_one : (σ : Env) (x : ℕ) (e : Term) → entered σ (x ∷ []) (e ∷ []) x ≡ Some e
entered_one σ x e = single_here (σ x) e (x == x) (equal_is x x refl)

pub entered_one_other : (σ : Env) (x y : ℕ) (e : Term) → (y ≡ x → ⊥) → entered σ (x ∷ []) (e ∷ []) y ≡ σ y
entered_one_other σ x y e h = single_there (σ y) e (y == x) (unequal_is y x h)

pub entered_first : (σ : Env) (x z : ℕ) (e f : Term) → entered σ (x ∷ z ∷ []) (e ∷ f ∷ []) x ≡ Some e
entered_first σ x z e f = ap (λ a. two a (x == z) (σ x) e f) (equal_is x x refl)

pub entered_second : (σ : Env) (x z : ℕ) (e f : Term) → (z ≡ x → ⊥) → entered σ (x ∷ z ∷ []) (e ∷ f ∷ []) z ≡ Some f
entered_second σ x z e f h = λ i. two (unequal_is z x h i) (equal_is z z refl i) (σ z) e f

pub entered_other : (σ : Env) (x z y : ℕ) (e f : Term) → (y ≡ x → ⊥) → (y ≡ z → ⊥) → entered σ (x ∷ z ∷ []) (e ∷ f ∷ []) y ≡ σ y
entered_other σ x z y e f h k = (λ i. two (unequal_is y x h i) (unequal_is y z k i) (σ y) e f) ∙ first_none (σ y)

pub entered_none : (σ : Env) (y : ℕ) → entered σ [] [] y ≡ σ y
entered_none σ y = first_none (σ y)
