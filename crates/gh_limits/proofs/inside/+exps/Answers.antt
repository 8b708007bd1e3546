use Rattle.std.proofs.Common.{arith, sym, ap, ◌∙◌}
use Rattle.gh_limits.specs.Inside.{Declared, aexp_counts, alt_guard_counts, alt_item_counts, guard_counts, inside_at, next_operand_counts, part_counts, redef_item_counts}
use Rattle.gh_limits.specs.Places.{first_place}
use Rattle.gh_limits.proofs.Found.{push_place}
use Rattle.gh_limits.proofs.InsideAt.{next_operand_at, redef_at, redef_item_at, decl_item_at, alt_item_at, part_at}
use Rattle.gh_limits.proofs.inside.+exps.Goals as goal

pub next_operands_place-loop-part-preserved : goal.next_operands_place-loop-part-preserved
next_operands_place-loop-part-preserved t c =
    push_place next_operand_counts c.args.parts.now c.loop-part.part-index c.loop-part.best c.earlier-best.result c.operand_place.result c.part-item.result
    (omega arith) c.part-item.is (c.operand_place.ensures ∙ sym (next_operand_at _)) c.loop-part.invariant c.earlier-best.ensures

pub aexps_place-loop-part-preserved : goal.aexps_place-loop-part-preserved
aexps_place-loop-part-preserved t c =
    push_place aexp_counts c.args.parts.now c.loop-part.part-index c.loop-part.best c.earlier-best.result c.aexp_place.result c.part-item.result
    (omega arith) c.part-item.is c.aexp_place.ensures c.loop-part.invariant c.earlier-best.ensures

pub redef_items_place-loop-part-preserved : goal.redef_items_place-loop-part-preserved
redef_items_place-loop-part-preserved t c =
    push_place redef_item_counts c.args.parts.now c.loop-part.part-index c.loop-part.best c.earlier-best.result c.exp_place.result c.part-item.result
    (omega arith) c.part-item.is (c.exp_place.ensures ∙ sym (redef_at _) ∙ sym (redef_item_at _)) c.loop-part.invariant c.earlier-best.ensures

pub decl_items_place-loop-part-preserved : goal.decl_items_place-loop-part-preserved
decl_items_place-loop-part-preserved t c =
    push_place inside_at c.args.parts.now c.loop-part.part-index c.loop-part.best c.earlier-best.result c.decl_place.result c.part-item.result
    (omega arith) c.part-item.is (c.decl_place.ensures ∙ ap (λ (d : Declared). first_place d.inside) (sym (decl_item_at _))) c.loop-part.invariant c.earlier-best.ensures

pub alt_items_place-loop-part-preserved : goal.alt_items_place-loop-part-preserved
alt_items_place-loop-part-preserved t c =
    push_place alt_item_counts c.args.parts.now c.loop-part.part-index c.loop-part.best c.earlier-best.result c.alt_place.result c.part-item.result
    (omega arith) c.part-item.is (c.alt_place.ensures ∙ sym (alt_item_at _)) c.loop-part.invariant c.earlier-best.ensures

pub guards_place-loop-part-preserved : goal.guards_place-loop-part-preserved
guards_place-loop-part-preserved t c =
    push_place guard_counts c.args.parts.now c.loop-part.part-index c.loop-part.best c.earlier-best.result c.guard_place.result c.part-item.result
    (omega arith) c.part-item.is c.guard_place.ensures c.loop-part.invariant c.earlier-best.ensures

pub alt_guards_place-loop-part-preserved : goal.alt_guards_place-loop-part-preserved
alt_guards_place-loop-part-preserved t c =
    push_place alt_guard_counts c.args.parts.now c.loop-part.part-index c.loop-part.best c.earlier-best.result c.alt_guard_place.result c.part-item.result
    (omega arith) c.part-item.is c.alt_guard_place.ensures c.loop-part.invariant c.earlier-best.ensures

pub exp_parts_place-loop-part-preserved : goal.exp_parts_place-loop-part-preserved
exp_parts_place-loop-part-preserved t c =
    push_place part_counts c.args.parts.now c.loop-part.part-index c.loop-part.best c.earlier-best.result c.exp_place.result c.part-item.result
    (omega arith) c.part-item.is (c.exp_place.ensures ∙ sym (part_at _)) c.loop-part.invariant c.earlier-best.ensures
