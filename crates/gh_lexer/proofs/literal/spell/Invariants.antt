use Rattle.std.proofs.Common.{◌≡◌, ◌-◌, ◌+◌, ◌≤◌, length, drop}
use Rattle.gh_lexer.specs.Literal.{spelled_from}
use Rattle.gh_lexer.proofs.Literals.{after_chars}
use Rattle.gh_lexer.proofs.literal.spell.Given as goal

abbrev pub invariant-loop-at : goal.invariant-loop-at
invariant-loop-at l = record { within : l.at ≤ length l.body; same : spelled_from 0 1 l.body ≡ after_chars l.out (spelled_from 0 (l.at + 1) (drop l.at l.body)) }

abbrev pub decreases-loop-at : goal.decreases-loop-at
decreases-loop-at l = length l.body - l.at
