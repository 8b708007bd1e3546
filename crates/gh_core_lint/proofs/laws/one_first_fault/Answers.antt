use Rattle.gh_core_lint.proofs.FirstFault.{program_one}
use Rattle.gh_core_lint.proofs.laws.one_first_fault.Goals as goal

pub returns : goal.returns
returns c = program_one
