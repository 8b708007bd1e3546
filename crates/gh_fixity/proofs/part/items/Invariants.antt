use Rattle.std.proofs.Common.{◌≡◌, map, take}
use Rattle.gh_fixity.specs.Parts.{item_of}
use Rattle.gh_fixity.proofs.part.items.Given as goal

abbrev pub invariant-loop-sign : goal.invariant-loop-sign
invariant-loop-sign l = l.items ≡ map (item_of l.tops l.locals) (take l.sign-index l.signs)
