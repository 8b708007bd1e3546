use Rattle.std.proofs.Common.{◌≡◌, map, take}
use Rattle.gh_fixity.specs.Parts.{part_sign}
use Rattle.gh_fixity.proofs.part.signs.Given as goal

abbrev pub invariant-loop-part : goal.invariant-loop-part
invariant-loop-part l = l.signs ≡ map part_sign (take l.part-index l.parts)
