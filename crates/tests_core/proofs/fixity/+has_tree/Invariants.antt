use Rattle.std.proofs.Common.{length}
use Rattle.tests_core.proofs.fixity.+has_tree.Given as goal

abbrev pub decreases-has_tree : goal.decreases-has_tree
decreases-has_tree l = length l.fixities.now
