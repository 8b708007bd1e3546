use Rattle.std.proofs.Common.{sym, ap, ◌∙◌}
use Rattle.gh_layout.specs.Entries.{is_within}
use Rattle.gh_layout.proofs.Stacks.{within_at_hand}
use Rattle.gh_layout.proofs.stack.Stack.is_within.Goals as goal

pub returns : goal.returns
returns c =
    c.is_within.ensures ∙ sym (within_at_hand c.args.column c.self.inside.block c.self.inside.below c.self.invariant)
    ∙ ap (is_within c.args.column) c.self.view_is
