use Rattle.gh_unify.specs.Types.{nodes, mono}
use Rattle.gh_unify.proofs.table.+read.Given as goal

abbrev pub decreases-read : goal.decreases-read
decreases-read l = nodes (mono l.term.now)
