use Rattle.gh_run.proofs.Cycles.{cycles_run_for_ever}
use Rattle.gh_run.proofs.laws.cycles_run_for_ever.Goals as goal

pub returns : goal.returns
returns c = cycles_run_for_ever
