use Rattle.std.proofs.Common.{◌≡◌, ◌-◌}
use Rattle.gh_parse_tops.specs.Generics.{words}
use Rattle.gh_parse_exps.specs.Exps.{word}
use Rattle.gh_parse_tops.specs.Generics.{word_next}
use Rattle.gh_tree.specs.Read.{many}
use Rattle.gh_tree.proofs.Loops.{with_front}
use Rattle.gh_parse_tops.proofs.words.words.Given as goal

abbrev pub invariant-loop-turn : goal.invariant-loop-turn
invariant-loop-turn l = words l.fn.tokens ≡ with_front l.found (many word_next word (l._turn-end - l._turn) l.tokens)
