use Rattle.gh_kernel.proofs.Printing.{act_over, meaning_over, meaning_extends}
use Rattle.gh_kernel.proofs.laws.run_laws.Goals as goal

pub returns-clause-stays : goal.returns-clause-stays
returns-clause-stays c = act_over

pub returns-clause-stays_seen : goal.returns-clause-stays_seen
returns-clause-stays_seen c = meaning_over

pub returns-clause-extends : goal.returns-clause-extends
returns-clause-extends c = meaning_extends
