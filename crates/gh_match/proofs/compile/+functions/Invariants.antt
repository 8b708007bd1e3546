use Rattle.std.proofs.Common.{length}
use Rattle.gh_match.proofs.compile.+functions.Given as goal

abbrev pub decreases-functions : goal.decreases-functions
decreases-functions l = length l.patterns.now
