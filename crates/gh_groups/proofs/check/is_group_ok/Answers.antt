use Rattle.std.proofs.Common.{◌≡◌, ◌<◌, ◌∙◌, sym, get_or, length, refl, rules}
use Rattle.gh_groups.proofs.Checks.{items_more, items_all, first_item}
use Rattle.gh_groups.proofs.check.is_group_ok.Goals as goal

pub loop-number-preserved : goal.loop-number-preserved
loop-number-preserved c =
    items_more (λ k v. (v < c.args.count) × (get_or c.args.places.now v 0 ≡ c.args.place)) c.args.group.now c.loop-number.number-index 0
    (c.if-number-count.false, sym c.nth.ensures ∙ c.if-nth-place.false) c.loop-number.invariant

pub returns : goal.returns
returns c = λ t.
    let some : 0 < length c.args.group.now = search rules in
    record {
      some = first_item c.args.group.now some;
      ascend = c.if-not-ascends.ensures refl;
      members = λ v h. items_all (λ k v. (v < c.args.count) × (get_or c.args.places.now v 0 ≡ c.args.place)) c.args.group.now c.loop-number.number-index c.loop-number-test.false c.loop-number.invariant h.at v h.is;
    }
