use Rattle.std.proofs.Common.{◌≡◌, map, take}
use Rattle.gh_limits.specs.Inside.{aexp_counts, alt_guard_counts, alt_item_counts, guard_counts, inside_at, next_operand_counts, part_counts, redef_item_counts}
use Rattle.gh_limits.specs.Places.{all_of, first_place}
use Rattle.gh_limits.proofs.inside.+exps.Given as goal

abbrev pub invariant-next_operands_place-loop-part : goal.invariant-next_operands_place-loop-part
invariant-next_operands_place-loop-part l = l.best ≡ first_place (all_of (map next_operand_counts (take l.part-index l.parts)))

abbrev pub invariant-aexps_place-loop-part : goal.invariant-aexps_place-loop-part
invariant-aexps_place-loop-part l = l.best ≡ first_place (all_of (map aexp_counts (take l.part-index l.parts)))

abbrev pub invariant-redef_items_place-loop-part : goal.invariant-redef_items_place-loop-part
invariant-redef_items_place-loop-part l = l.best ≡ first_place (all_of (map redef_item_counts (take l.part-index l.parts)))

abbrev pub invariant-decl_items_place-loop-part : goal.invariant-decl_items_place-loop-part
invariant-decl_items_place-loop-part l = l.best ≡ first_place (all_of (map inside_at (take l.part-index l.parts)))

abbrev pub invariant-alt_items_place-loop-part : goal.invariant-alt_items_place-loop-part
invariant-alt_items_place-loop-part l = l.best ≡ first_place (all_of (map alt_item_counts (take l.part-index l.parts)))

abbrev pub invariant-guards_place-loop-part : goal.invariant-guards_place-loop-part
invariant-guards_place-loop-part l = l.best ≡ first_place (all_of (map guard_counts (take l.part-index l.parts)))

abbrev pub invariant-alt_guards_place-loop-part : goal.invariant-alt_guards_place-loop-part
invariant-alt_guards_place-loop-part l = l.best ≡ first_place (all_of (map alt_guard_counts (take l.part-index l.parts)))

abbrev pub invariant-exp_parts_place-loop-part : goal.invariant-exp_parts_place-loop-part
invariant-exp_parts_place-loop-part l = l.best ≡ first_place (all_of (map part_counts (take l.part-index l.parts)))
