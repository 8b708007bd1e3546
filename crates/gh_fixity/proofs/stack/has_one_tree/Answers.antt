use Rattle.gh_fixity.proofs.Laws.{one_tree}
use Rattle.gh_fixity.proofs.Whole.{one_answer}
use Rattle.gh_fixity.proofs.stack.has_one_tree.Goals as goal

pub returns : goal.returns
returns c = record { tree = one_tree; answer = one_answer }
