use Rattle.std.proofs.Common.{◌≡◌, drop}
use Rattle.gh_core.specs.Typing.{code_of}
use Rattle.gh_adapt.specs.TypedPairs.{with_params}
use Rattle.gh_adapt.proofs.bimap.with_params.Given as goal

abbrev pub invariant-loop-i : goal.invariant-loop-i
invariant-loop-i l = code_of l.made ≡ with_params l.i (drop l.i l.kinds) (code_of l.initial.made)
