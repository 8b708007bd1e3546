use Rattle.gh_tree.proofs.CompletePatterns.{one_pattern_is}
use Rattle.gh_tree.proofs.laws.has_one_pattern.Goals as goal

pub returns : goal.returns
returns c = one_pattern_is
