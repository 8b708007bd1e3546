use Rattle.gh_parser.proofs.CompleteFile.{each_is_read}
use Rattle.gh_parser.proofs.laws.parses_every_tree.Goals as goal

pub returns : goal.returns
returns c = each_is_read
