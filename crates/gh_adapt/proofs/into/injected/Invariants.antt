use Rattle.std.proofs.Common.{◌≡◌, ◌-◌, map, drop}
use Rattle.gh_core.specs.Typing.{code_of, type_of}
use Rattle.gh_adapt.specs.Typed.{injected_code}
use Rattle.gh_adapt.proofs.into.injected.Given as goal

abbrev pub invariant-loop-at : goal.invariant-loop-at
invariant-loop-at l = code_of l.made ≡ injected_code (map type_of l.arguments) (drop l.at l.layers) (l.index - l.at) (code_of l.fn.layer)
