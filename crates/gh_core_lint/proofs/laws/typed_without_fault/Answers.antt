use Rattle.gh_core_lint.proofs.FirstFault.{typed_faultless}
use Rattle.gh_core_lint.proofs.laws.typed_without_fault.Goals as goal

pub returns : goal.returns
returns c = typed_faultless
