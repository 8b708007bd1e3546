use Rattle.gh_run.proofs.Keeping.{core_keeps_meaning}
use Rattle.gh_run.proofs.laws.core_keeps_meaning.Goals as goal

pub returns : goal.returns
returns c = core_keeps_meaning
