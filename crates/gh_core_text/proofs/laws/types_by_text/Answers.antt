use Rattle.gh_core_text.proofs.Shows.{type_text-injective}
use Rattle.gh_core_text.proofs.laws.types_by_text.Goals as goal

pub returns : goal.returns
returns c table ts a b = type_text-injective table a b ts
