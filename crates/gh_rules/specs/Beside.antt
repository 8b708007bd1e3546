-- The kernel's rows and states of matching beside those of core: the same patterns against the same arguments.
use Rattle.std.specs.Prelude.{◌≡◌, ℕ, List, [], ◌∷◌}
use Rattle.gh_base.specs.declared.place.Span.{Span}
use Rattle.gh_core.specs.Closing as core_closing
use Rattle.gh_core.specs.Terms.{Term}
use Rattle.gh_kernel.specs.Closing as closing
use Rattle.gh_kernel.specs.Programs.{Exp}
use Rattle.gh_kernel.specs.States.{Waiting, State, at, listed, decides, demand}
use Rattle.gh_kernel.specs.States as kernel
use Rattle.gh_kernel.specs.Terms.{Pat}
use Rattle.gh_kernel.specs.Terms as terms
use Rattle.gh_rules.specs.Rules.{Argument, Bodies, no_body, always, guarded, Rows, no_row, row, Rest, Trial, Focus, matching, falling, deciding, goes}

-- the arguments as the kernel has them
abbrev pub sources : List Argument → List Exp
sources [] = []
sources (a ∷ es) = a.source ∷ sources es

-- the patterns with what they meet, as the kernel has it
abbrev pub in_source : List (Pat Span × Argument) → List (Pat Span × Exp)
in_source [] = []
in_source (m ∷ todo) = (m.0, m.1.source) ∷ in_source todo

-- as many bodies, with and without guards in the same order
abbrev pub SameBodies : terms.Bodies Span → Bodies → Type 0
SameBodies terms.no_body no_body = Unit {0}
SameBodies (terms.always e rest) (always d more) = SameBodies rest more
SameBodies (terms.guarded g e rest) (guarded h d more) = SameBodies rest more
SameBodies bs gs = ⊥

-- as many rows, with the same patterns
abbrev pub SameRows : terms.Rows Span → Rows → Type 0
SameRows terms.no_row no_row = Unit {0}
SameRows (terms.row ps gs bs rest) (row qs ds es more) = (ps ≡ qs) × SameBodies bs es × SameRows rest more
SameRows rows rs = ⊥

-- the same arguments were bound to the same names, whatever else stands for names in core
pub data SameBound : closing.Env Span → core_closing.Env → Type 0 where
  nothing_bound : {τ : core_closing.Env} → SameBound closing.empty τ
  one_bound : {ρ : closing.Env Span} {τ : core_closing.Env} (x : ℕ) (a : Argument) → SameBound ρ τ → SameBound (closing.put ρ x a.source) (core_closing.put τ x a.term)

pub record SameRest (k : kernel.Rest) (r : Rest) : Type 0 where
  pub args : listed k.args ≡ sources r.args
  pub rows : SameRows k.rows r.rows

pub record SameTrial (k : kernel.Trial) (t : Trial) : Type 0 where
  pub todo : k.todo ≡ in_source t.todo
  pub bound : SameBound k.bound t.bound
  pub bodies : SameBodies k.bodies t.bodies
  pub rest : SameRest k.rest t.rest

-- a state of the meaning, in which this waits and these bytes were printed, beside a state of the rules: at the same row, at the
-- guard that is asked for, or at the body that is chosen
pub data Beside (stack : List Waiting) (out : List ℕ) (s : State) : Focus → Type 0 where
  at_row : (k : kernel.Trial) (t : Trial) → SameTrial k t → s ≡ at (kernel.matching k) stack out → Beside stack out s (matching t)
  at_fall : (k : kernel.Rest) (r : Rest) → SameRest k r → s ≡ at (kernel.falling k) stack out → Beside stack out s (falling r)
  at_guard : (g e : Exp) (more : terms.Bodies Span) (k : kernel.Rest) (h d : Term) (σ : core_closing.Env) (others : Bodies) (r : Rest) → SameBodies more others → SameRest k r
      → s ≡ demand g (decides e more k ∷ stack) out → Beside stack out s (deciding h d σ others r)
  at_body : (e : Exp) (d : Term) (σ : core_closing.Env) → s ≡ demand e stack out → Beside stack out s (goes d σ)
