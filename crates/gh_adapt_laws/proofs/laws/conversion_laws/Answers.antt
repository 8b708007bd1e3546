use Rattle.std.proofs.Common.{refl}
use Rattle.gh_adapt.specs.Pairs.{adapter_of}
use Rattle.gh_adapt_laws.proofs.Converting.{there, pair_converts, adapter_converts, pairs_compose}
use Rattle.gh_adapt_laws.proofs.laws.conversion_laws.Goals as goal

pub returns-clause-there : goal.returns-clause-there
returns-clause-there c = there

pub returns-clause-converts : goal.returns-clause-converts
returns-clause-converts c = pair_converts

pub returns-clause-adapter : goal.returns-clause-adapter
returns-clause-adapter c = λ pairs base. adapter_converts pairs base (adapter_of pairs base) refl

pub returns-clause-compose : goal.returns-clause-compose
returns-clause-compose c = pairs_compose
