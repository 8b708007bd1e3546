use Rattle.std.proofs.Common.{◌≡◌, map, take}
use Rattle.std.specs.Prelude.{reverse}
use Rattle.gh_core.specs.Typing.{at_types}
use Rattle.gh_core_lint.specs.Types.{type_at}
use Rattle.gh_core_lint.proofs.data.types_of_fields.Given as goal

abbrev pub invariant-loop-place : goal.invariant-loop-place
invariant-loop-place l = map type_at l.made ≡ map (at_types (reverse (map type_at l.args))) (map type_at (take l.place l.terms))
