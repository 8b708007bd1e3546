use Rattle.std.proofs.Common.{◌≡◌, map}
use Rattle.gh_core.specs.Typing.{code_of}
use Rattle.gh_adapt.specs.TypedPairs.{param_codes}
use Rattle.gh_adapt.proofs.params.params.Given as goal

abbrev pub invariant-loop-i : goal.invariant-loop-i
invariant-loop-i l = map code_of l.made ≡ param_codes 0 l.i
