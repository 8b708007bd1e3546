use Rattle.std.proofs.Common.{◌≡◌, take}
use Rattle.gh_match.proofs.copies.+copy.Given as goal

abbrev pub invariant-copy_alternatives-loop-alternative : goal.invariant-copy_alternatives-loop-alternative
invariant-copy_alternatives-loop-alternative l = l.copies ≡ take l.alternative-index l.alternatives

abbrev pub invariant-copy_term-loop-name : goal.invariant-copy_term-loop-name
invariant-copy_term-loop-name l = l.copies ≡ take l.name-index l.name-items
