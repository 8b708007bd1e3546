use Rattle.std.proofs.Common.{◌≡◌, ◌-◌}
use Rattle.gh_parse_exps.specs.Marks.{semis, semi}
use Rattle.gh_parse_exps.specs.Marks.{semi_next}
use Rattle.gh_tree.specs.Read.{many}
use Rattle.gh_tree.proofs.Loops.{with_front}
use Rattle.gh_parse_exps.proofs.blocks.semis.Given as goal

abbrev pub invariant-loop-turn : goal.invariant-loop-turn
invariant-loop-turn l = semis l.fn.tokens ≡ with_front l.found (many semi_next semi (l._turn-end - l._turn) l.tokens)
