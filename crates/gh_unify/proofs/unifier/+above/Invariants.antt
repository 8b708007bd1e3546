use Rattle.gh_unify.specs.Types.{nodes, mono}
use Rattle.gh_unify.proofs.unifier.+above.Given as goal

abbrev pub decreases-above : goal.decreases-above
decreases-above l = nodes (mono l.term.now)
