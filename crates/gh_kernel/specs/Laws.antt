-- Laws of substitution and of runs.
use Rattle.std.specs.Prelude.{◌≡◌, ℕ, ◌+◌, List, ◌++◌, Option, Some, None}
use Rattle.gh_core.specs.Reduce.{running}
use Rattle.gh_base.specs.declared.place.Span.{Span}
use Rattle.gh_kernel.specs.Closing.{Env, empty, close}
use Rattle.gh_kernel.specs.Meaning.{meaning}
use Rattle.gh_kernel.specs.Programs.{Exp, Program}
use Rattle.gh_kernel.specs.States.{State}
use Rattle.gh_kernel.specs.Steps.{act}

abbrev pub first_of : {A : Type 0} → Option A → Option A → Option A
first_of None o = o
first_of (Some a) o = Some a

-- what σ has, or else what τ has
abbrev pub over : {N : Type 0} → Env N → Env N → Env N
over σ τ y = first_of (σ y) (τ y)

-- one substitution after another is one substitution, for all terms: what was put for a name is never entered, so no premise
-- on closed terms is needed
abbrev pub SubstitutionsCompose : Type 0
SubstitutionsCompose = (e : Exp) (ρ σ : Env Span) → close (close e ρ) σ ≡ close e (over ρ σ)

-- the empty substitution changes no term
abbrev pub EmptyChangesNothing : Type 0
EmptyChangesNothing = (e : Exp) → close e empty ≡ e

-- a state that has ended or failed stays
abbrev pub OverStays : Type 0
OverStays = (p : Program) (s : State) → (s.status ≡ running → ⊥) → act p s ≡ s

-- and so does what is seen of a run that has ended or failed
abbrev pub OverStaysSeen : Type 0
OverStaysSeen = (p : Program) (e : Exp) (m n : ℕ) → ((meaning p e m).status ≡ running → ⊥) → meaning p e (m + n) ≡ meaning p e m

-- one text begins with another
abbrev pub Extends : List ℕ → List ℕ → Type 0
Extends short long = (rest : List ℕ) × (short ++ rest ≡ long)

-- what is printed after fewer steps is the beginning of what is printed after more
abbrev pub BytesExtend : Type 0
BytesExtend = (p : Program) (e : Exp) (m n : ℕ) → Extends (meaning p e m).out (meaning p e (m + n)).out
