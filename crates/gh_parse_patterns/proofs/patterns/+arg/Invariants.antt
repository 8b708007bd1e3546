use Rattle.gh_parse_patterns.proofs.patterns.+arg.Given as goal

abbrev pub decreases-arg : goal.decreases-arg
decreases-arg l = l.depth
