use Rattle.gh_tree_form.proofs.Exact.{bindings_are_spanned}
use Rattle.gh_tree_form.proofs.laws.bindings_are_spanned.Goals as goal

pub returns : goal.returns
returns c = bindings_are_spanned
