use Rattle.std.proofs.Common.{◌≡◌, drop}
use Rattle.gh_lines.specs.Position.{moved_over}
use Rattle.gh_lines.proofs.position.moved.Given as goal

abbrev pub invariant-loop-byte : goal.invariant-loop-byte
invariant-loop-byte l = moved_over l.position (drop l.byte-index l.bytes) ≡ moved_over l.fn.position l.bytes
