use Rattle.std.proofs.Common.{◌≡◌, vec_len}
use Rattle.gh_fixity.specs.Arrangement.{tree_in}
use Rattle.gh_fixity.specs.Frames.{opens}
use Rattle.gh_fixity.specs.Stack.{reduced}
use Rattle.gh_fixity.proofs.stack.reduce.Given as goal

abbrev pub invariant-closing : goal.invariant-closing
invariant-closing l = reduced (opens l.items l.frames.items) (tree_in l.items l.operand) l.next ≡ reduced (opens l.items l.fn.frames.items) (tree_in l.items l.fn.leaf) l.next

abbrev pub decreases-closing : goal.decreases-closing
decreases-closing l = vec_len l.frames
