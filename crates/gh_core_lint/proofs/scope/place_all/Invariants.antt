use Rattle.std.proofs.Common.{◌≡◌, map, take}
use Rattle.gh_core.specs.Typing.{bindings_of}
use Rattle.gh_core_lint.specs.Branches.{binding_code}
use Rattle.gh_core_lint.specs.Faults.{written}
use Rattle.gh_core_lint.specs.Types.{type_at}
use Rattle.gh_core_lint.proofs.scope.place_all.Given as goal

abbrev pub invariant-loop-ty : goal.invariant-loop-ty
invariant-loop-ty l = map type_at l.types ≡ written l.kinds (bindings_of (map binding_code (take l.ty-index l.bindings)))
