use Rattle.gh_tree.proofs.Placed.{syms_placed}
use Rattle.gh_tree.proofs.item_laws.has_placed_marks.Goals as goal

pub returns : goal.returns
returns c = syms_placed
