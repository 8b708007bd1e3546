use Rattle.gh_tree.proofs.TreeItems.{have_their_items}
use Rattle.gh_tree.proofs.item_laws.has_its_items.Goals as goal

pub returns : goal.returns
returns c = have_their_items
