use Rattle.std.proofs.Common.{sym, ap, ◌∙◌}
use Rattle.gh_layout.specs.Entries.{block_column}
use Rattle.gh_layout.proofs.Stacks.{column_at_hand}
use Rattle.gh_layout.proofs.stack.Stack.block_column.Goals as goal

pub returns : goal.returns
returns c = c.column.ensures ∙ sym (column_at_hand c.self.inside.block c.self.inside.below c.self.invariant) ∙ ap block_column c.self.view_is
