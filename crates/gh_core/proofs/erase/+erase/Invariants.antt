use Rattle.std.proofs.Common.{◌≡◌, map, take}
use Rattle.gh_core.specs.Erase.{erased_alt, erased_bind}
use Rattle.gh_core.proofs.erase.+erase.Given as goal

abbrev pub invariant-erase_alternatives-loop-alternative : goal.invariant-erase_alternatives-loop-alternative
invariant-erase_alternatives-loop-alternative l = l.made ≡ map erased_alt (take l.alternative-index l.alternatives)

abbrev pub invariant-erase_term-loop-name : goal.invariant-erase_term-loop-name
invariant-erase_term-loop-name l = l.made ≡ map erased_bind (take l.name-index l.name-items)
