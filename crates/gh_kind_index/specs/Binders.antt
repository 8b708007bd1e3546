-- The binders that the code has round a part of a type: a view of its own state.
use Rattle.std.specs.Prelude.{ℕ, List, [], ◌∷◌}
use Rattle.gh_kind_index.specs.declared.above.Round.{Round}
use Rattle.gh_kind_index.specs.declared.above.Round.TheOpen.{Round-F}
use Rattle.gh_kind_index.specs.declared.above.Round.{fold-Round}

abbrev pub names_step : Round-F (List ℕ) → List ℕ
names_step Round-F.Outside = []
names_step (Round-F.Inside x outer) = x ∷ outer.now

-- their numbers, the nearest first
abbrev pub names_of : Round → List ℕ
names_of = fold-Round (List ℕ) names_step
