use Rattle.std.proofs.Common.{◌≡◌, ◌-◌}
use Rattle.gh_tree.specs.Read.{commas, comma_next, next}
use Rattle.gh_tree.specs.Read.{many}
use Rattle.gh_tree.proofs.Loops.{with_front}
use Rattle.gh_reader.proofs.marks.commas.Given as goal

abbrev pub invariant-loop-turn : goal.invariant-loop-turn
invariant-loop-turn l = commas l.fn.tokens ≡ with_front l.found (many comma_next next (l._turn-end - l._turn) l.tokens)
