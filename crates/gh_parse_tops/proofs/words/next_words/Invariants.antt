use Rattle.std.proofs.Common.{◌≡◌, ◌-◌}
use Rattle.gh_parse_tops.specs.Generics.{next_words, next_word}
use Rattle.gh_tree.specs.Read.{comma_next}
use Rattle.gh_tree.specs.Read.{many}
use Rattle.gh_tree.proofs.Loops.{with_front}
use Rattle.gh_parse_tops.proofs.words.next_words.Given as goal

abbrev pub invariant-loop-turn : goal.invariant-loop-turn
invariant-loop-turn l = next_words l.fn.tokens ≡ with_front l.found (many comma_next next_word (l._turn-end - l._turn) l.tokens)
