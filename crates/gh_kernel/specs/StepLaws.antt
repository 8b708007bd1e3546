-- Laws of steps: what one step is, and what costs none.
use Rattle.std.specs.Prelude.{◌≡◌, ℕ, ◌+◌, List, [], ◌∷◌, length}
use Rattle.gh_base.specs.declared.place.Origin.{Origin}
use Rattle.gh_base.specs.declared.place.Span.{Span}
use Rattle.gh_kernel.specs.declared.signatures.Signed.{Signed}
use Rattle.gh_kernel.specs.Conversions.{applied}
use Rattle.gh_kernel.specs.Programs.{Exp, Program}
use Rattle.gh_kernel.specs.States.{Waiting, arg, under, State, demand}
use Rattle.gh_kernel.specs.Steps.{act, steps}
use Rattle.gh_kernel.specs.Terms.{ann, whole, contents}

-- one step is one act
abbrev pub OneAct : Type 0
OneAct = (p : Program) (s : State) → steps p 1 s ≡ act p s

-- so many steps, and so many more
abbrev pub StepsAdd : Type 0
StepsAdd = (p : Program) (m n : ℕ) (s : State) → steps p (m + n) s ≡ steps p n (steps p m s)

-- marks and annotations cost nothing
abbrev pub MarksAreFree : Type 0
MarksAreFree = (n : Span) (e : Exp) (t : Signed) (stack : List Waiting) (out : List ℕ) → (demand (whole e) stack out ≡ demand e stack out) × (demand (ann n e t) stack out ≡ demand e stack out)

-- the arguments wait, the first first
abbrev pub waiting : List Exp → List Waiting → List Waiting
waiting [] stack = stack
waiting (e ∷ es) stack = arg e ∷ waiting es stack

-- an application to so many arguments comes to its function in so many steps, whatever the function: each link is one passing of
-- the demand
abbrev pub LinksCount : Type 0
LinksCount =
    (p : Program) (n : Span) (f : Exp) (es : List Exp) (stack : List Waiting) (out : List ℕ)
    → steps p (length es) (demand (applied n f es) stack out) ≡ demand f (waiting es stack) out

-- contents of a newtype that are demanded pass the demand on in one step
abbrev pub ContentsCount : Type 0
ContentsCount = (p : Program) (c : Origin) (e : Exp) (stack : List Waiting) (out : List ℕ) → steps p 1 (demand (contents c e) stack out) ≡ demand e (under c ∷ stack) out
