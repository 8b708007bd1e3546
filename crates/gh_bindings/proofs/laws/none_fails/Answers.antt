use Rattle.gh_bindings.proofs.Failing.{none_fails}
use Rattle.gh_bindings.proofs.laws.none_fails.Goals as goal

pub returns : goal.returns
returns c = none_fails
