use Rattle.std.proofs.Common.{take}
use Rattle.gh_declarations.proofs.Listed.{Holds}
use Rattle.gh_declarations.proofs.lists.texts.Given as goal

abbrev pub invariant-loop-named : goal.invariant-loop-named
invariant-loop-named l = Holds l.set.keys (take l.named-index l.list)
