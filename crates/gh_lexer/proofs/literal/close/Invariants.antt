use Rattle.std.proofs.Common.{◌≡◌, ◌-◌, ◌≤◌, length, drop}
use Rattle.gh_lexer.specs.Literal.{close_at}
use Rattle.gh_lexer.proofs.Literals.{plus}
use Rattle.gh_lexer.proofs.literal.close.Given as goal

abbrev pub invariant-loop-at : goal.invariant-loop-at
invariant-loop-at l = record { within : l.at ≤ length l.bytes; same : close_at 0 l.bytes ≡ plus l.at (close_at 0 (drop l.at l.bytes)) }

abbrev pub decreases-loop-at : goal.decreases-loop-at
decreases-loop-at l = length l.bytes - l.at
