use Rattle.gh_adapt_laws.proofs.BimapTyped.{bimap_typed}
use Rattle.gh_adapt_laws.proofs.PairTyped.{adapter_typed}
use Rattle.gh_adapt_laws.proofs.laws.typing_laws.Goals as goal

pub returns-clause-adapter : goal.returns-clause-adapter
returns-clause-adapter c = adapter_typed

pub returns-clause-bimap : goal.returns-clause-bimap
returns-clause-bimap c = bimap_typed
