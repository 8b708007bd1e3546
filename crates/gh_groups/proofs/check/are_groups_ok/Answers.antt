use Rattle.std.proofs.Common.{refl, subst, ◌∙◌}
use Rattle.gh_groups.specs.Plans.{GroupOk}
use Rattle.gh_groups.proofs.Checks.{items_more, items_all}
use Rattle.gh_groups.proofs.check.are_groups_ok.Goals as goal

pub loop-place-preserved : goal.loop-place-preserved
loop-place-preserved c =
    items_more (λ p g. GroupOk c.args.count c.args.places.now p g) c.args.groups.now c.loop-place.place c.index-groups-place.result
    (subst (GroupOk c.args.count c.args.places.now c.loop-place.place) (c.as_slice.ensures ∙ c.index-groups-place.is) (c.if-not-is_group_ok.ensures refl)) c.loop-place.invariant

pub returns : goal.returns
returns c = λ t. items_all (λ p g. GroupOk c.args.count c.args.places.now p g) c.args.groups.now c.loop-place.place c.loop-place-test.false c.loop-place.invariant
