use Rattle.gh_tree_form.proofs.Exact.{refusal_is_exact}
use Rattle.gh_tree_form.proofs.laws.refusal_is_exact.Goals as goal

pub returns : goal.returns
returns c = refusal_is_exact
