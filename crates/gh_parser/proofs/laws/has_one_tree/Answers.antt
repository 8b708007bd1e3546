use Rattle.gh_parser.proofs.CompleteFile.{one_tree}
use Rattle.gh_parser.proofs.laws.has_one_tree.Goals as goal

pub returns : goal.returns
returns c = one_tree
