use Rattle.gh_core_text.proofs.KindsRead.{kind_text-injective}
use Rattle.gh_core_text.proofs.laws.kinds_by_text.Goals as goal

pub returns : goal.returns
returns c = kind_text-injective
