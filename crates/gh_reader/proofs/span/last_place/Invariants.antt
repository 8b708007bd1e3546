use Rattle.std.proofs.Common.{◌≡◌, ◌-◌, length, take}
use Rattle.gh_tree.specs.Syms.{places}
use Rattle.gh_reader.specs.Ends.{last}
use Rattle.gh_reader.proofs.span.last_place.Given as goal

abbrev pub invariant-loop-i : goal.invariant-loop-i
invariant-loop-i l = last (places l.piece) ≡ last (places (take (length l.piece - l.i) l.piece))
