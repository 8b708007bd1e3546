use Rattle.std.proofs.Common.{◌≡◌, ◌-◌}
use Rattle.gh_tree.specs.Read.{comma_next}
use Rattle.gh_tree.specs.ReadExports.{next_con, next_cons}
use Rattle.gh_tree.specs.Read.{many}
use Rattle.gh_tree.proofs.Loops.{with_front}
use Rattle.gh_parse_heads.proofs.parts.next_cons.Given as goal

abbrev pub invariant-loop-turn : goal.invariant-loop-turn
invariant-loop-turn l = next_cons l.fn.tokens ≡ with_front l.found (many comma_next next_con (l._turn-end - l._turn) l.tokens)
