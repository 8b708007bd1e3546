use Rattle.gh_parser.proofs.LawsOfReading.{one_decls}
use Rattle.gh_parser.proofs.laws.has_one_decls.Goals as goal

pub returns : goal.returns
returns c = one_decls
