use Rattle.std.proofs.Common.{◌≡◌, ◌++◌, drop}
use Rattle.gh_lines.specs.Lines.{ArePairs, pairs_of}
use Rattle.gh_lines.proofs.lines.add_pairs.Given as goal

abbrev pub invariant-loop-origin : goal.invariant-loop-origin
invariant-loop-origin l = record {
  known : ArePairs l.names (drop l.origin-index l.pairs);
  written : l.out ++ pairs_of l.names (drop l.origin-index l.pairs) ≡ l.initial.out ++ pairs_of l.names l.pairs;
}
