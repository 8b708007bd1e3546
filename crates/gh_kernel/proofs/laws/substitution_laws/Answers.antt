use Rattle.gh_kernel.proofs.Close.{close-close, close-empty}
use Rattle.gh_kernel.proofs.laws.substitution_laws.Goals as goal

pub returns-clause-compose : goal.returns-clause-compose
returns-clause-compose c = close-close

pub returns-clause-empty : goal.returns-clause-empty
returns-clause-empty c = close-empty
