use Rattle.std.proofs.Common.{◌≡◌, ◌++◌, drop}
use Rattle.gh_sample.specs.Sample.{filled}
use Rattle.gh_sample.proofs.put_line.Given as goal

abbrev pub invariant-loop-byte : goal.invariant-loop-byte
invariant-loop-byte l = l.text ++ filled l.digits (drop l.byte-index l.line) ≡ l.initial.text ++ filled l.digits l.line
