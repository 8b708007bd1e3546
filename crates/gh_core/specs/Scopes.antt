-- The binders round two types that are compared.
use Rattle.std.specs.Prelude.{ℕ, List, [], ◌∷◌}
use Rattle.gh_core.specs.declared.same.Scope.{Scope, fold-Scope}
use Rattle.gh_core.specs.declared.same.Scope.TheOpen.{Scope-F}

abbrev pub lefts_step : Scope-F (List ℕ) → List ℕ
lefts_step Scope-F.Outside = []
lefts_step (Scope-F.Inside left right outer) = left ∷ outer.now

abbrev pub rights_step : Scope-F (List ℕ) → List ℕ
rights_step Scope-F.Outside = []
rights_step (Scope-F.Inside left right outer) = right ∷ outer.now

-- the binders round the one type, the nearest first
abbrev pub lefts : Scope → List ℕ
lefts = fold-Scope (List ℕ) lefts_step

-- those round the other
abbrev pub rights : Scope → List ℕ
rights = fold-Scope (List ℕ) rights_step
