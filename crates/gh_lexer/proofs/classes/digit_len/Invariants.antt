use Rattle.std.proofs.Common.{◌≡◌, ◌+◌, drop}
use Rattle.std.specs.List.{prefix_len}
use Rattle.gh_lexer.specs.Chars.{is_digit}
use Rattle.gh_lexer.proofs.classes.digit_len.Given as goal

abbrev pub invariant-loop-byte : goal.invariant-loop-byte
invariant-loop-byte l = (l.at ≡ l.byte-index) × (prefix_len is_digit l.bytes ≡ l.at + prefix_len is_digit (drop l.byte-index l.bytes))
