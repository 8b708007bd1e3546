use Rattle.std.proofs.Common.{◌≡◌, max, drop}
use Rattle.gh_lines.specs.Lines.{longest_name}
use Rattle.gh_lines.proofs.lines.longest.Given as goal

abbrev pub invariant-loop-source : goal.invariant-loop-source
invariant-loop-source l = max l.most (longest_name (drop l.source-index l.files)) ≡ longest_name l.files
