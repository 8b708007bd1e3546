use Rattle.gh_tree.proofs.OneTree.{one_tree_by_items}
use Rattle.gh_tree.proofs.item_laws.has_one_tree_by_items.Goals as goal

pub returns : goal.returns
returns c = one_tree_by_items
