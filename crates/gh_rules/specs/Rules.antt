-- The rules of matching (Haskell 98 Report, 3.17.2), read on core: rows of patterns whose groups, guards and bodies are terms of core; and
-- what it is that a term of core follows them.
use Rattle.std.specs.Prelude.{◌≡◌, ◌≤◌, ◌<◌, ◌⊎◌, ℕ, Bool, true, false, cond, ◌==◌, ◌&&◌, List, [], ◌∷◌, length, Option, Some, None}
use Rattle.gh_base.specs.declared.fixed.TheConstants.{TRUE, FALSE}
use Rattle.gh_base.specs.declared.place.Origin.{Origin}
use Rattle.gh_base.specs.declared.place.Span.{Span}
use Rattle.gh_core.specs.Closing.{Env, empty, without, binds_name, close, close_binds, put, put_rec}
use Rattle.gh_core.specs.Primitives.{prelude_value, same_origin}
use Rattle.gh_core.specs.Reduce.{Waiting, of_case, State, Program, opened, same_literal, demand, choose_literal, begin_case, reductions}
use Rattle.gh_core.specs.Reduce as core
use Rattle.gh_core.specs.Terms.{Literal, Term, cases, contents, Binds, Alts, con_alt, alt, no_alt}
use Rattle.gh_kernel.specs.Closing.{binds_pats}
use Rattle.gh_kernel.specs.Programs.{Exp}
use Rattle.gh_kernel.specs.States.{meet}
use Rattle.gh_kernel.specs.Steps.{count}
use Rattle.gh_kernel.specs.Terms.{Pat, pvar, pwild, pcon, plit, pstring, pas, Pats, no_pat, pat}
use Rattle.gh_kernel.specs.Terms as kernel

-- rows -------------------------------------------------------------------------------------------------------------------

-- the bodies of a row, each with its guard or without one
pub data Bodies : Type 0 where
  no_body : Bodies
  always : (e : Term) (rest : Bodies) → Bodies
  guarded : (g e : Term) (rest : Bodies) → Bodies

-- rows; the groups of a row are lists of bindings, each in the scope of those before it
pub data Rows : Type 0 where
  no_row : Rows
  row : (ps : Pats Span) (bs : List Binds) (gs : Bodies) (rest : Rows) → Rows

-- what is matched: a term of core, and what it is in the language that the rows come from, which is only carried along
pub record Argument : Type 0 where
  pub source : Exp
  pub term : Term

-- the contents of an argument, whose term is s up to marks
abbrev pub taken : Origin → Argument → Term → Argument
taken c a s = record { source = kernel.contents c a.source; term = contents c s }

-- what an argument is known to be
pub data Value : Type 0 where
  built : (c : Origin) (es : List Argument) → Value
  literal : (l : Literal) → Value

-- where a row that fails goes on: the arguments as they were, the rows that are left, and what stands for the names round them
pub record Rest : Type 0 where
  pub args : List Argument
  pub rows : Rows
  pub outer : Env

-- a row that is being matched: the patterns that are left with their arguments, and what stands for the names so far
pub record Trial : Type 0 where
  pub todo : List (Pat Span × Argument)
  pub bound : Env
  pub binds : List Binds
  pub bodies : Bodies
  pub rest : Rest

-- what the rules are at
pub data Focus : Type 0 where
  matching : (t : Trial) → Focus
  falling : (r : Rest) → Focus
  -- a guard is asked for; where it fails, the bodies after it and then the rows
  deciding : (g e : Term) (σ : Env) (more : Bodies) (r : Rest) → Focus
  -- this body is chosen, with this for its names
  goes : (e : Term) (σ : Env) → Focus

-- the rules ---------------------------------------------------------------------------------------------------------------

abbrev pub begin : List Argument → Rows → Env → Focus
begin es no_row σ = falling (record { args = es; rows = no_row; outer = σ })
begin es (row ps bs gs rest) σ =
    matching (record { todo = meet ps es []; bound = without σ (binds_pats ps); binds = bs; bodies = gs; rest = record { args = es; rows = rest; outer = σ } })

abbrev pub choose : Bodies → Env → Rest → Focus
choose no_body σ r = falling r
choose (always e more) σ r = goes e σ
choose (guarded g e more) σ r = deciding g e σ more r

abbrev pub first_of : Option Term → Option Term → Option Term
first_of None o = o
first_of (Some t) o = Some t

-- the names of a letrec, each with its term in all the bindings, over those round it
abbrev pub entered : Binds → Env → Env
entered bs σ =
    let hidden = without σ (binds_name bs) in
    let own = close_binds bs hidden in
    λ y. first_of (hidden y) (put_rec own empty own y)

-- the names of all groups of a row, each group in the scope of those before it
abbrev pub all_entered : List Binds → Env → Env
all_entered [] σ = σ
all_entered (bs ∷ rest) σ = all_entered rest (entered bs σ)

abbrev pub goes_on : List (Pat Span × Argument) → Env → Trial → Focus
goes_on todo σ t = matching (record { todo = todo; bound = σ; binds = t.binds; bodies = t.bodies; rest = t.rest })

abbrev pub next_pattern : (Origin → Bool) → Pat Span → Argument → List (Pat Span × Argument) → Trial → Option Focus
next_pattern nt (pvar n x) a todo t = Some (goes_on todo (put t.bound x a.term) t)
next_pattern nt (pwild n) a todo t = Some (goes_on todo t.bound t)
next_pattern nt (pas n x q) a todo t = Some (goes_on ((q, a) ∷ todo) (put t.bound x a.term) t)
next_pattern nt (pcon n c ps) a todo t = None
next_pattern nt (plit n l) a todo t = None
next_pattern nt (pstring n cs) a todo t = None

abbrev pub next_todo : (Origin → Bool) → List (Pat Span × Argument) → Trial → Option Focus
next_todo nt [] t = None
next_todo nt (m ∷ todo) t = next_pattern nt m.0 m.1 todo t

abbrev pub next_row : Rest → Rows → Option Focus
next_row r no_row = None
next_row r (row ps bs gs rest) = Some (begin r.args (row ps bs gs rest) r.outer)

-- one step of the rules that asks for nothing; none where they ask or take contents, where groups are entered, where a body is chosen, and where no
-- row is left
abbrev pub next : (Origin → Bool) → Focus → Option Focus
next nt (matching t) = next_todo nt t.todo t
next nt (falling r) = next_row r r.rows
next nt (deciding g e σ more r) = None
next nt (goes e σ) = None

-- a pattern that tests its argument
abbrev pub tests : (Origin → Bool) → Pat Span → Bool
tests nt (plit n l) = true
tests nt (pcon n c (pat p no_pat)) = cond (nt c) false true
tests nt (pcon n c no_pat) = true
tests nt (pcon n c (pat p (pat q ps))) = true
tests nt p = false

-- what the test of a pattern tells, with the patterns after it
abbrev pub told : Pat Span → Value → List (Pat Span × Argument) → Trial → Focus
told (pcon n c ps) (built d es) todo t = cond (same_origin d c && (count ps == length es)) (goes_on (meet ps es todo) t.bound t) (falling t.rest)
told (plit n l) (literal m) todo t = cond (same_literal m l) (goes_on todo t.bound t) (falling t.rest)
told p x todo t = falling t.rest

-- the contract ------------------------------------------------------------------------------------------------------------

abbrev pub terms_of : List Argument → List Term
terms_of [] = []
terms_of (a ∷ es) = a.term ∷ terms_of es

abbrev pub close_each : List Term → Env → List Term
close_each [] σ = []
close_each (e ∷ es) σ = close e σ ∷ close_each es σ

pub data Has : List (Argument × Value) → Argument → Value → Type 0 where
  here : {a : Argument} {x : Value} {facts : List (Argument × Value)} → Has ((a, x) ∷ facts) a x
  there : {a b : Argument} {x y : Value} {facts : List (Argument × Value)} → Has facts a x → Has ((b, y) ∷ facts) a x

-- so many reductions take the one term to the other, whatever waits
abbrev pub Reduces : Program → ℕ → Term → Term → Type 0
Reduces p i t u = (stack : List Waiting) (out : List ℕ) → reductions p i (demand t stack out) ≡ demand u stack out

-- the term is no value that a demand would print at once
abbrev pub Unsettled : Term → Type 0
Unsettled t = (stack : List Waiting) (out : List ℕ) → demand t stack out ≡ core.at t stack out

-- the case passes the demand to its scrutinee
abbrev pub Passes : Program → Term → Alts → Type 0
Passes p u alts = (stack : List Waiting) (out : List ℕ) → begin_case p.newtypes u alts stack out ≡ demand u (of_case alts ∷ stack) out

-- the alternatives go to these terms
pub record Chooses (alts : Alts) (body : Value → Term) : Type 0 where
  pub for_con : (c : Origin) (es : List Argument) (stack : List Waiting) (out : List ℕ) (s : State) → core.choose alts c (terms_of es) stack out s ≡ demand (body (built c es)) stack out
  pub for_literal : (l : Literal) (stack : List Waiting) (out : List ℕ) (s : State) → choose_literal alts l stack out s ≡ demand (body (literal l)) stack out

abbrev pub truth_alts : Term → Term → Alts
truth_alts t u = alt (con_alt (prelude_value TRUE) [] t) (alt (con_alt (prelude_value FALSE) [] u) no_alt)

-- nothing twice, or the same term up to marks
abbrev pub Alike : Option Term → Option Term → Type 0
Alike None None = Unit {0}
Alike (Some t) (Some u) = opened t ≡ opened u
Alike None (Some u) = ⊥
Alike (Some t) None = ⊥

-- the same for all names below this number, up to marks
abbrev pub Agree : ℕ → Env → Env → Type 0
Agree limit σ τ = (x : ℕ) → x < limit → Alike (σ x) (τ x)

module _ (p : Program) (nt : Origin → Bool) (limit : ℕ) (otherwise : Term) where
  -- The term t does in core what the rules do from f: it comes to the body that they choose, with its names bound as they say,
  -- or to `otherwise` where no row is left. It asks for an argument, a field or a guard only where the rules ask for it, and each
  -- step of the rules costs it at most 200 reductions beside those. What is known already need not be asked for again. The number
  -- falls at each step of the rules that costs no reduction. Names from `limit` on are the term's own.
  pub data Follows : List (Argument × Value) → ℕ → Focus → Term → Type 0 where
    chosen : {facts : List (Argument × Value)} {w : ℕ} {f : Focus} {t : Term} (e : Term) (σ ρ : Env) → f ≡ goes e σ → Agree limit ρ σ → opened t ≡ opened (close e ρ) → Follows facts w f t
    lost : {facts : List (Argument × Value)} {w : ℕ} {f : Focus} {t : Term} (i : ℕ) (r : Rest) (ρ : Env) (u : Term) → f ≡ falling r → r.rows ≡ no_row → Unsettled t → i ≤ 200 → Reduces p i t u → Agree limit ρ r.outer → opened u ≡ opened (close otherwise ρ) → Follows facts w f t
    moves : {facts : List (Argument × Value)} {w : ℕ} {f : Focus} {t : Term} (v i : ℕ) (f' : Focus) (u : Term) → next nt f ≡ Some f' → Unsettled t → i ≤ 200 → (1 ≤ i) ⊎ (v < w) → Reduces p i t u → Follows facts v f' u → Follows facts w f t
    -- the groups are entered, over names that are the same up to marks
    enters : {facts : List (Argument × Value)} {w : ℕ} {f : Focus} {t : Term} (v i : ℕ) (r : Trial) (ρ : Env) (u : Term) → f ≡ matching r → r.todo ≡ [] → Unsettled t → i ≤ 200 → (1 ≤ i) ⊎ (v < w) → Agree limit ρ r.bound → Reduces p i t u
        → Follows facts v (choose r.bodies (all_entered r.binds ρ) r.rest) u → Follows facts w f t
    -- a newtype's pattern takes the contents of its argument, which is the same up to marks
    takes : {facts : List (Argument × Value)} {w : ℕ} {f : Focus} {t : Term} (v i : ℕ) (n : Span) (c : Origin) (q : Pat Span) (a : Argument) (todo : List (Pat Span × Argument)) (r : Trial) (s u : Term)
        → f ≡ matching r → r.todo ≡ (pcon n c (pat q no_pat), a) ∷ todo → nt c ≡ true → Unsettled t → i ≤ 200 → (1 ≤ i) ⊎ (v < w) → Reduces p i t u → opened s ≡ opened a.term
        → Follows facts v (goes_on ((q, taken c a s) ∷ todo) r.bound r) u → Follows facts w f t
    known : {facts : List (Argument × Value)} {w : ℕ} {f : Focus} {t : Term} (v : ℕ) (q : Pat Span) (a : Argument) (x : Value) (todo : List (Pat Span × Argument)) (r : Trial)
        → f ≡ matching r → r.todo ≡ (q, a) ∷ todo → tests nt q ≡ true → Unsettled t → Has facts a x → v < w → Follows facts v (told q x todo r) t → Follows facts w f t
    asks : {facts : List (Argument × Value)} {w : ℕ} {f : Focus} {t : Term} (v i : ℕ) (q : Pat Span) (a : Argument) (todo : List (Pat Span × Argument)) (r : Trial) (s u : Term) (alts : Alts) (body : Value → Term)
        → f ≡ matching r → r.todo ≡ (q, a) ∷ todo → tests nt q ≡ true → Unsettled t → i ≤ 200 → Reduces p i t s → opened s ≡ cases u alts → opened u ≡ opened a.term → Passes p u alts → Chooses alts body
        → ((x : Value) → Follows ((a, x) ∷ facts) v (told q x todo r) (body x)) → Follows facts w f t
    guards : {facts : List (Argument × Value)} {w : ℕ} {f : Focus} {t : Term} (v : ℕ) (g e : Term) (σ ρ : Env) (more : Bodies) (r : Rest) (u then_to else_on : Term)
        → f ≡ deciding g e σ more r → Agree limit ρ σ → opened t ≡ cases u (truth_alts then_to else_on) → opened u ≡ opened (close g ρ)
        → Follows facts v (goes e σ) (close then_to empty) → Follows facts v (choose more σ r) (close else_on empty) → Follows facts w f t

  -- the contract of a compiled match: from its first row, with whatever stands for the names round it. Weight 0 asks for a reduction
  -- before anything else
  abbrev pub Matches : List Term → Rows → Term → Type 0
  Matches es rows t = (args : List Argument) (σ : Env) → terms_of args ≡ close_each es σ → Follows [] 0 (begin args rows σ) (close t σ)
