use Rattle.gh_parse_exps.proofs.exps.+exps.Given as goal

abbrev pub decreases-decls : goal.decreases-decls
decreases-decls l = l.depth

abbrev pub decreases-exp : goal.decreases-exp
decreases-exp l = l.depth
