use Rattle.std.proofs.Common.{◌≡◌, ◌-◌, ◌+◌, ◌*◌, ◌≤◌, drop}
use Rattle.gh_lexer.specs.Place.{moved}
use Rattle.gh_lexer.proofs.place.advance.Given as goal

abbrev pub invariant-loop-at : goal.invariant-loop-at
invariant-loop-at l = record {
  same : moved (l.len - l.at) (drop l.at l.bytes) l.now ≡ moved l.len l.bytes l.fn.place;
  line : l.now.line ≤ l.fn.place.line + l.at;
  column : l.now.column ≤ l.fn.place.column + 8 * l.at;
}
