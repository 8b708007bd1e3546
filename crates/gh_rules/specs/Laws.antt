-- The rules over terms of core are those of the meaning.
use Rattle.std.specs.Prelude.{◌≡◌, ℕ, true, List, [], ◌∷◌, Some}
use Rattle.gh_base.specs.declared.fixed.TheConstants.{TRUE, FALSE}
use Rattle.gh_base.specs.declared.place.Origin.{Origin}
use Rattle.gh_base.specs.declared.place.Span.{Span}
use Rattle.gh_core.specs.Closing as core_closing
use Rattle.gh_core.specs.Primitives.{prelude_value}
use Rattle.gh_core.specs.Terms.{Literal, Term}
use Rattle.gh_kernel.specs.Programs.{Exp, Program, is_newtype}
use Rattle.gh_kernel.specs.States.{Waiting, State, at, listed, begin_rows, decides, demand}
use Rattle.gh_kernel.specs.States as kernel
use Rattle.gh_kernel.specs.Steps.{act, give, supply}
use Rattle.gh_kernel.specs.Terms.{Pat, pcon, no_pat, pat, Exprs}
use Rattle.gh_kernel.specs.Terms as terms
use Rattle.gh_rules.specs.Beside.{sources, SameBodies, SameRows, SameRest, Beside}
use Rattle.gh_rules.specs.Rules.{Argument, taken, built, literal, Bodies, Rows, Rest, Trial, Focus, matching, begin, choose, all_entered, goes_on, next, tests, told}

-- a match begins with its first row
abbrev pub Begins : Type 0
Begins =
    (n : Span) (es : Exprs Span) (rows : terms.Rows Span) (args : List Argument) (rs : Rows) (σ : core_closing.Env) (stack : List Waiting) (out : List ℕ)
    → listed es ≡ sources args → SameRows rows rs → Beside stack out (at (begin_rows n es rows) stack out) (begin args rs σ)

-- a pattern that asks nothing, and a row that has failed
abbrev pub Moves : Type 0
Moves =
    (p : Program) (stack : List Waiting) (out : List ℕ) (s : State) (f f' : Focus)
    → Beside stack out s f → next (is_newtype p.datatypes) f ≡ Some f' → Beside stack out (act p s) f'

-- a newtype's pattern
abbrev pub Takes : Type 0
Takes =
    (p : Program) (stack : List Waiting) (out : List ℕ) (s : State) (t : Trial) (n : Span) (c : Origin) (q : Pat Span) (a : Argument) (todo : List (Pat Span × Argument)) (u : Term)
    → Beside stack out s (matching t) → t.todo ≡ (pcon n c (pat q no_pat), a) ∷ todo → is_newtype p.datatypes c ≡ true
    → Beside stack out (act p s) (goes_on ((q, taken c a u) ∷ todo) t.bound t)

-- what waits for the argument that a pattern tests goes on as the test tells
pub record Tells (q : Pat Span) (todo : List (Pat Span × Argument)) (t : Trial) (w : Waiting) : Type 0 where
  pub constructor : (c : Origin) (es : List Argument) (stack : List Waiting) (out : List ℕ) (s : State) → Beside stack out (give c (sources es) (w ∷ stack) out s) (told q (built c es) todo t)
  pub literals : (l : Literal) (stack : List Waiting) (out : List ℕ) (s : State) → Beside stack out (supply l (w ∷ stack) out s) (told q (literal l) todo t)

-- a pattern that tests passes the demand to its argument
abbrev pub Asks : Type 0
Asks =
    (p : Program) (stack : List Waiting) (out : List ℕ) (s : State) (t : Trial) (q : Pat Span) (a : Argument) (todo : List (Pat Span × Argument))
    → Beside stack out s (matching t) → t.todo ≡ (q, a) ∷ todo → tests (is_newtype p.datatypes) q ≡ true
    → (w : Waiting) × (act p s ≡ demand a.source (w ∷ stack) out) × Tells q todo t w

-- the groups are entered, whatever stands for names in core, and the first body or guard comes
abbrev pub Enters : Type 0
Enters =
    (p : Program) (stack : List Waiting) (out : List ℕ) (s : State) (t : Trial) (ρ : core_closing.Env)
    → Beside stack out s (matching t) → t.todo ≡ [] → Beside stack out (act p s) (choose t.bodies (all_entered t.binds ρ) t.rest)

-- a guard that holds gives its body, and one that fails the bodies after it and then the rows
abbrev pub Decides : Type 0
Decides =
    (e : Exp) (more : terms.Bodies Span) (k : kernel.Rest) (others : Bodies) (r : Rest) (σ : core_closing.Env) (stack : List Waiting) (out : List ℕ) (s : State)
    → SameBodies more others → SameRest k r
    → (give (prelude_value TRUE) [] (decides e more k ∷ stack) out s ≡ demand e stack out)
    × Beside stack out (give (prelude_value FALSE) [] (decides e more k ∷ stack) out s) (choose others σ r)
