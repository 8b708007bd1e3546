use Rattle.gh_parse_lefts.proofs.reader.+side.Given as goal

abbrev pub decreases-side : goal.decreases-side
decreases-side l = l.depth
