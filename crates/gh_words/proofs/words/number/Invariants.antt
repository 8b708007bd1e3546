use Rattle.std.proofs.Common.{◌≡◌, ◌<◌, ◌^◌, drop}
use Rattle.std.specs.List.{list_all}
use Rattle.gh_words.specs.Words.{is_digit, value_from}
use Rattle.gh_words.proofs.words.number.Given as goal

abbrev pub invariant-loop-byte : goal.invariant-loop-byte
invariant-loop-byte l = record {
  value : value_from 0 l.text ≡ value_from l.value (drop l.byte-index l.text);
  digits : list_all is_digit l.text ≡ list_all is_digit (drop l.byte-index l.text);
  small : l.value < 10 ^ l.byte-index;
}
