use Rattle.std.proofs.Common.{◌≡◌, ℕ, ◌≤◌, List, Some, slice_get, get_or, subst, refl}
use Rattle.gh_groups.specs.Grouping.{Has}
use Rattle.gh_groups.specs.Plans.{GroupOk}
use Rattle.gh_groups.proofs.Right.{grouping}
use Rattle.gh_groups.proofs.check.is_right.Goals as goal

pub returns : goal.returns
returns c = λ t.
    let plan = c.args.plan.now in
    grouping c.args.count c.args.edges.now c.requires c.args.groups.now plan.places.items plan.up_ranks.items plan.down_ranks.items
    (subst (λ ps. (p : ℕ) (g : List ℕ) → slice_get c.args.groups.now p ≡ Some g → GroupOk c.args.count ps p g) c.as_slice.ensures.value (c.if-not-are_groups_ok.ensures refl))
    (c.if-not-are_vertices_ok.ensures refl)
    (subst (λ ps. (a b : ℕ) → Has c.args.edges.now (a, b) → get_or ps b 0 ≤ get_or ps a 0) c.as_slice-2.ensures.value (c.if-not-are_edges_ok.ensures refl))
    (c.in_ok-is_order_ok.ensures t)
