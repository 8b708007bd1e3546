use Rattle.gh_tree.proofs.CompleteExports.{one_export_list_is}
use Rattle.gh_tree.proofs.laws.has_one_export_list.Goals as goal

pub returns : goal.returns
returns c = one_export_list_is
