use Rattle.gh_bindings.proofs.Keeping.{core_goes_on}
use Rattle.gh_bindings.proofs.laws.core_goes_on.Goals as goal

pub returns : goal.returns
returns c = core_goes_on
