use Rattle.std.proofs.Common.{◌≡◌, ◌+◌, drop}
use Rattle.std.specs.List.{prefix_len}
use Rattle.gh_lexer.specs.Chars.{is_blank}
use Rattle.gh_lexer.proofs.classes.blank_len.Given as goal

abbrev pub invariant-loop-byte : goal.invariant-loop-byte
invariant-loop-byte l = (l.at ≡ l.byte-index) × (prefix_len is_blank l.bytes ≡ l.at + prefix_len is_blank (drop l.byte-index l.bytes))
