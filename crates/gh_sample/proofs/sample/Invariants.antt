use Rattle.std.proofs.Common.{◌≡◌, ◌++◌}
use Rattle.gh_sample.specs.Sample.{ended, head_lines, lines_of, numbers}
use Rattle.gh_sample.proofs.sample.Given as goal

abbrev pub invariant-loop-i : goal.invariant-loop-i
invariant-loop-i l = l.text ≡ ended (head_lines ++ lines_of (numbers l.i))
