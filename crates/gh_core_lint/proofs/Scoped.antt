-- What holds in scopes.
use Rattle.std.proofs.Common.{◌≡◌, ℕ, ◌++◌, subst, subst₂}
use Rattle.gh_core.specs.SameType.{Nameless}
use Rattle.gh_core.specs.Typing.{Code, Kinds, Types_of, Program, HasType}
use Rattle.gh_core_lint.specs.declared.scope.Scope.{Scope}
use Rattle.gh_core_lint.specs.Bound.{Adds}
use Rattle.gh_core_lint.specs.Faults.{Fault, Fails}
use Rattle.gh_core_lint.specs.Stops.{vars_of}
use Rattle.gh_core_lint.proofs.Bound.{adds_vars}

abbrev pub Has : Program → Scope → Code → Nameless → Type 0
Has p s e t = HasType p s.kinds (vars_of s.vars) e t

abbrev pub Faulty : Program → Scope → ℕ → Code → Fault → Type 0
Faulty p s n e f = Fails p s.kinds (vars_of s.vars) n e f

-- what holds inside variables that were bound
pub inside : (P : Kinds → Types_of → Type 0) (old new : Scope) (gs : Types_of) → new.kinds ≡ old.kinds → Adds gs old.vars new.vars → P new.kinds (vars_of new.vars) → P old.kinds (gs ++ vars_of old.vars)
inside P old new gs k a h = subst₂ P k (adds_vars gs old.vars new.vars a) h

-- what holds in a scope that came back
pub again : (P : Kinds → Types_of → Type 0) (old new : Scope) → new ≡ old → P new.kinds (vars_of new.vars) → P old.kinds (vars_of old.vars)
again P old new e h = subst (λ (s : Scope). P s.kinds (vars_of s.vars)) e h
