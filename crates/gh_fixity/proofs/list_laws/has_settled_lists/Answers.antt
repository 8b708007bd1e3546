use Rattle.gh_fixity.proofs.ListLaws.{settles_with_the_tree, operands_in_order, patterns_in_order}
use Rattle.gh_fixity.proofs.list_laws.has_settled_lists.Goals as goal

pub returns : goal.returns
returns c = record { tree = settles_with_the_tree; operands = operands_in_order; patterns = patterns_in_order }
