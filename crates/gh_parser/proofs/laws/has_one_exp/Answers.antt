use Rattle.gh_parser.proofs.LawsOfReading.{one_exp}
use Rattle.gh_parser.proofs.laws.has_one_exp.Goals as goal

pub returns : goal.returns
returns c = one_exp
