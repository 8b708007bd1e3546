use Rattle.std.proofs.Common.{◌≡◌, ◌+◌, drop}
use Rattle.std.specs.List.{prefix_len}
use Rattle.gh_lexer.specs.Chars.{is_octal}
use Rattle.gh_lexer.proofs.classes.octal_len.Given as goal

abbrev pub invariant-loop-byte : goal.invariant-loop-byte
invariant-loop-byte l = (l.at ≡ l.byte-index) × (prefix_len is_octal l.bytes ≡ l.at + prefix_len is_octal (drop l.byte-index l.bytes))
