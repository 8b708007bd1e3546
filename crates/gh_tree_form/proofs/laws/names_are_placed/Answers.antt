use Rattle.gh_tree_form.proofs.Exact.{names_are_placed}
use Rattle.gh_tree_form.proofs.laws.names_are_placed.Goals as goal

pub returns : goal.returns
returns c = names_are_placed
