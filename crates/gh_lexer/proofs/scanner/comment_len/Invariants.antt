use Rattle.std.proofs.Common.{◌≡◌, ◌-◌, ◌≤◌, length, drop, false}
use Rattle.gh_lexer.specs.Scan.{comment_end}
use Rattle.gh_lexer.proofs.Literals.{plus}
use Rattle.gh_lexer.proofs.scanner.comment_len.Given as goal

abbrev pub invariant-loop-at : goal.invariant-loop-at
invariant-loop-at l = record {
  within : l.at ≤ length l.bytes;
  few : l.depth ≤ l.at;
  same : comment_end false 0 l.bytes ≡ plus l.at (comment_end false l.depth (drop l.at l.bytes));
}

abbrev pub decreases-loop-at : goal.decreases-loop-at
decreases-loop-at l = length l.bytes - l.at
