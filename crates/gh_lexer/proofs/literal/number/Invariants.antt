use Rattle.std.proofs.Common.{◌≡◌, ◌<◌, ◌^◌, drop}
use Rattle.gh_lexer.specs.Literal.{value_on}
use Rattle.gh_lexer.proofs.literal.number.Given as goal

abbrev pub invariant-loop-byte : goal.invariant-loop-byte
invariant-loop-byte l = record { small : l.value < 2 ^ 63; same : value_on l.base l.value (drop l.byte-index l.digits) ≡ value_on l.base 0 l.digits }
