use Rattle.std.proofs.Common.{ap, sym, ◌∙◌}
use Rattle.gh_fixity.specs.Arrangement.{tree_in}
use Rattle.gh_fixity.specs.Settle.{rooted}
use Rattle.gh_fixity.proofs.Settling.{rooted_yes, rooted_no}
use Rattle.gh_fixity.proofs.settle.with_root.Goals as goal

pub returns-then-found-place : goal.returns-then-found-place
returns-then-found-place c = λ items.
    rooted_yes (tree_in items c.args.tree) c.root_of-found.result c.in-Some.place (c.root_of-found.ensures items) c.if-found-place.true
    ∙ ap (λ r. rooted r (tree_in items c.args.tree)) (sym c.in-Some.is)

pub returns-else-found-place : goal.returns-else-found-place
returns-else-found-place c = λ items.
    rooted_no (tree_in items c.args.tree) c.root_of-found.result c.in-Some.place (c.root_of-found.ensures items) c.if-found-place.false
    ∙ ap (λ r. rooted r (tree_in items c.args.tree)) (sym c.in-Some.is)
