use Rattle.gh_check.proofs.Scoping.{scope_is_exact}
use Rattle.gh_check.proofs.laws.scope_is_exact.Goals as goal

pub returns : goal.returns
returns c = scope_is_exact
