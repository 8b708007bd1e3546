use Rattle.std.proofs.Common.{◌≡◌, ◌+◌, drop}
use Rattle.std.specs.List.{prefix_len}
use Rattle.gh_lexer.specs.Chars.{is_symbol}
use Rattle.gh_lexer.proofs.classes.symbol_len.Given as goal

abbrev pub invariant-loop-byte : goal.invariant-loop-byte
invariant-loop-byte l = (l.at ≡ l.byte-index) × (prefix_len is_symbol l.bytes ≡ l.at + prefix_len is_symbol (drop l.byte-index l.bytes))
