use Rattle.gh_tree.proofs.CompleteTypes.{one_type_is}
use Rattle.gh_tree.proofs.laws.has_one_type.Goals as goal

pub returns : goal.returns
returns c = one_type_is
