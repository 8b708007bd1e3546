use Rattle.std.proofs.Common.{◌≡◌, ◌++◌, map}
use Rattle.std.specs.Prelude.{codes}
use Rattle.gh_sample.specs.Sample.{joined, named, numbers}
use Rattle.gh_sample.proofs.put_sum.Given as goal

abbrev pub invariant-loop-i : goal.invariant-loop-i
invariant-loop-i l = l.text ≡ l.fn.text ++ joined (codes " + ") (map named (numbers l.i))
