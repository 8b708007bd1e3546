use Rattle.std.proofs.Common.{◌≡◌, ◌-◌}
use Rattle.gh_parse_tops.specs.Generics.{next_deps, next_dep}
use Rattle.gh_tree.specs.Read.{comma_next}
use Rattle.gh_tree.specs.Read.{many}
use Rattle.gh_tree.proofs.Loops.{with_front}
use Rattle.gh_parse_tops.proofs.generics.next_deps.Given as goal

abbrev pub invariant-loop-turn : goal.invariant-loop-turn
invariant-loop-turn l = next_deps l.fn.tokens ≡ with_front l.found (many comma_next next_dep (l._turn-end - l._turn) l.tokens)
