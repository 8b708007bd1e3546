use Rattle.gh_parser.proofs.LawsOfReading.{gives_first_fault}
use Rattle.gh_parser.proofs.laws.gives_first_fault.Goals as goal

pub returns : goal.returns
returns c = gives_first_fault
