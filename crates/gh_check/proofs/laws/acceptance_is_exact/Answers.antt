use Rattle.gh_check.proofs.Accepted.{acceptance_is_exact}
use Rattle.gh_check.proofs.laws.acceptance_is_exact.Goals as goal

pub returns : goal.returns
returns c = acceptance_is_exact
