use Rattle.gh_tree_form.proofs.Exact.{form_is_unique}
use Rattle.gh_tree_form.proofs.laws.form_is_unique.Goals as goal

pub returns : goal.returns
returns c = form_is_unique
