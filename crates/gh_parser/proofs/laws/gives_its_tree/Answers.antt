use Rattle.gh_parser.proofs.LawsOfReading.{gives_its_tree}
use Rattle.gh_parser.proofs.laws.gives_its_tree.Goals as goal

pub returns : goal.returns
returns c = gives_its_tree
