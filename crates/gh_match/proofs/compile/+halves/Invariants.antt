use Rattle.gh_match.proofs.compile.+halves.Given as goal

abbrev pub decreases-halves : goal.decreases-halves
decreases-halves l = l.levels
