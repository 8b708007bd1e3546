use Rattle.std.proofs.Common.{◌≡◌, drop}
use Rattle.gh_tree.specs.Syms.{places}
use Rattle.gh_reader.specs.Ends.{first}
use Rattle.gh_reader.proofs.span.first_place.Given as goal

abbrev pub invariant-loop-i : goal.invariant-loop-i
invariant-loop-i l = first (places l.piece) ≡ first (places (drop l.i l.piece))
