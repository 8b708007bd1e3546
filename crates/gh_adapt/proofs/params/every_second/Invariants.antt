use Rattle.std.proofs.Common.{◌≡◌, map}
use Rattle.gh_core.specs.Typing.{type_of}
use Rattle.gh_adapt.specs.TypedPairs.{every_second}
use Rattle.gh_adapt.proofs.params.every_second.Given as goal

abbrev pub invariant-loop-i : goal.invariant-loop-i
invariant-loop-i l = map type_of l.made ≡ every_second l.from l.i
