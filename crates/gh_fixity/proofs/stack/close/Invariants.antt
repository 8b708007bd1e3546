use Rattle.std.proofs.Common.{◌≡◌, List, vec_len}
use Rattle.gh_fixity.specs.declared.item.Item.{Item}
use Rattle.gh_fixity.specs.Arrangement.{tree_in}
use Rattle.gh_fixity.specs.Frames.{opens}
use Rattle.gh_fixity.specs.Stack.{closed}
use Rattle.gh_fixity.proofs.stack.close.Given as goal

abbrev pub invariant-loop-frame : goal.invariant-loop-frame
invariant-loop-frame l = (items : List Item) → closed (opens items l.frames.items) (tree_in items l.operand) ≡ closed (opens items l.fn.frames.items) (tree_in items l.fn.leaf)

abbrev pub decreases-loop-frame : goal.decreases-loop-frame
decreases-loop-frame l = vec_len l.frames
