use Rattle.std.proofs.Common.{ap, ◌∙◌}
use Rattle.gh_layout.specs.Entries.{item_filled}
use Rattle.gh_layout.specs.Levels.{is_kept, entries_of}
use Rattle.gh_layout.proofs.Stacks.{kept_filled, filled_at_hand}
use Rattle.gh_layout.proofs.stack.Stack.fill_item.Goals as goal

pub invariant_of-self : goal.invariant_of-self
invariant_of-self c =
    ap (λ l. is_kept l c.self.inside.below) c.with_filled_item-self-inside.ensures ∙ kept_filled c.self.inside.block c.self.inside.below ∙ c.self.invariant

pub returns : goal.returns
returns c =
    ap (λ l. entries_of l c.self.inside.below) c.with_filled_item-self-inside.ensures ∙ filled_at_hand c.self.inside.block c.self.inside.below ∙ ap item_filled c.self.view_is
