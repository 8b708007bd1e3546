use Rattle.gh_keeps.proofs.Orders.{core_goes_on}
use Rattle.gh_keeps.proofs.laws.core_goes_on.Goals as goal

pub returns : goal.returns
returns c = core_goes_on
