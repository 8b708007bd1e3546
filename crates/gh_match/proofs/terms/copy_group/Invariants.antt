use Rattle.std.proofs.Common.{◌≡◌, take}
use Rattle.gh_match.proofs.terms.copy_group.Given as goal

abbrev pub invariant-loop-name : goal.invariant-loop-name
invariant-loop-name l = l.copies ≡ take l.name-index l.bindings
