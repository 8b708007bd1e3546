use Rattle.gh_tree_form.proofs.Exact.{form_is_exact}
use Rattle.gh_tree_form.proofs.laws.form_is_exact.Goals as goal

pub returns : goal.returns
returns c = form_is_exact
