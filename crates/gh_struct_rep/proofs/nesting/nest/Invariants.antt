use Rattle.std.proofs.Common.{◌≡◌, drop}
use Rattle.gh_typeterm.specs.Representation.{joined, nested}
use Rattle.gh_struct_rep.proofs.nesting.nest.Given as goal

abbrev pub invariant-loop-at : goal.invariant-loop-at
invariant-loop-at l = l.term ≡ nested (joined l.join) (drop l.at l.parts)
