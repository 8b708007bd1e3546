use Rattle.std.proofs.Common.{◌≡◌, ◌++◌, drop}
use Rattle.gh_modules.specs.Files.{summaries_from}
use Rattle.gh_modules.proofs.program.summaries_of.Given as goal

abbrev pub invariant-loop-file : goal.invariant-loop-file
invariant-loop-file l = l.list ++ summaries_from l.file (drop l.file l.trees) ≡ summaries_from 0 l.trees
