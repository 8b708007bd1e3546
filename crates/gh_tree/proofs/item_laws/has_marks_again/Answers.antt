use Rattle.gh_tree.proofs.Placed.{open_again, semi_again, close_again}
use Rattle.gh_tree.proofs.item_laws.has_marks_again.Goals as goal

pub returns : goal.returns
returns c = record { opening = open_again; parting = semi_again; closing = close_again }
