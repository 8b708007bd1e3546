use Rattle.std.proofs.Common.{length, get_or, length-set, sym, ap, ◌∙◌, subst, arith}
use Rattle.std.proofs.lemmas.Option.{slice_get-get_or}
use Rattle.gh_kind_unify.specs.Orders.{BuiltTo}
use Rattle.gh_kind_unify.proofs.Grounding.{parts_built, built_next}
use Rattle.gh_kind_unify.proofs.build.build.Goals as goal

pub kind_for-requires-clause-parts : goal.kind_for-requires-clause-parts
kind_for-requires-clause-parts c = λ w part.
    parts_built c.args.cells.now c.args.order.now c.as_slice.result.now c.loop-v.v-index (get_or c.args.order.now c.loop-v.v-index 0) w c.requires.order
    (subst (BuiltTo c.args.cells.now c.args.order.now c.loop-v.v-index) (sym c.as_slice.ensures.value) c.loop-v.invariant.done)
    (slice_get-get_or c.args.order.now c.loop-v.v-index 0 c.loop-v-test.true) part

pub index_mut-requires : goal.index_mut-requires
index_mut-requires c =
    let at = slice_get-get_or c.args.order.now c.loop-v.v-index 0 c.loop-v-test.true in
    let below = c.requires.order.below c.loop-v.v-index (get_or c.args.order.now c.loop-v.v-index 0) at in
    let count = c.loop-v.invariant.count in
    let len = c.as_slice.ensures.len in
    let same = ap length c.as_slice.ensures.value in
    omega (arith, below, count, len, same)

pub loop-v-preserved : goal.loop-v-preserved
loop-v-preserved c =
    let v = get_or c.args.order.now c.loop-v.v-index 0 in
    let at = slice_get-get_or c.args.order.now c.loop-v.v-index 0 c.loop-v-test.true in
    let below = c.requires.order.below c.loop-v.v-index v at in
    let count = c.loop-v.invariant.count in
    let next = built_next c.args.cells.now c.args.order.now c.loop-v.built.items c.loop-v.v-index v c.in-Ok-kind_for.kind c.loop-v.invariant.done at
    (omega (arith, below, count)) c.in-Ok-kind_for.ensures.ok in
    record {
      count = length-set c.loop-v.built.items v c.in-Ok-kind_for.kind ∙ c.loop-v.invariant.count;
      done = λ p u l is_at. next p u (omega (arith, l)) is_at;
    }

pub returns-clause-ok : goal.returns-clause-ok
returns-clause-ok c = λ p v l at. let end = c.loop-v-test.false in c.loop-v.invariant.done p v (omega (arith, l, end)) at
