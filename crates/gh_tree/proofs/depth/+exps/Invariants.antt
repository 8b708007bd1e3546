use Rattle.std.proofs.Common.{◌≡◌, map, take}
use Rattle.gh_tree.specs.Depth.{capped, deepest, aexp_depth, alt_guard_depth, alt_item_depth, decl_item_depth, guard_depth, next_operand_depth, part_depth, redef_item_depth}
use Rattle.gh_tree.proofs.depth.+exps.Given as goal

abbrev pub invariant-next_operands_depth-loop-part : goal.invariant-next_operands_depth-loop-part
invariant-next_operands_depth-loop-part l = l.most ≡ capped (deepest (map next_operand_depth (take l.part-index l.parts)))

abbrev pub invariant-aexps_depth-loop-part : goal.invariant-aexps_depth-loop-part
invariant-aexps_depth-loop-part l = l.most ≡ capped (deepest (map aexp_depth (take l.part-index l.parts)))

abbrev pub invariant-redef_items_depth-loop-part : goal.invariant-redef_items_depth-loop-part
invariant-redef_items_depth-loop-part l = l.most ≡ capped (deepest (map redef_item_depth (take l.part-index l.parts)))

abbrev pub invariant-decl_items_depth-loop-part : goal.invariant-decl_items_depth-loop-part
invariant-decl_items_depth-loop-part l = l.most ≡ capped (deepest (map decl_item_depth (take l.part-index l.parts)))

abbrev pub invariant-alt_items_depth-loop-part : goal.invariant-alt_items_depth-loop-part
invariant-alt_items_depth-loop-part l = l.most ≡ capped (deepest (map alt_item_depth (take l.part-index l.parts)))

abbrev pub invariant-guards_depth-loop-part : goal.invariant-guards_depth-loop-part
invariant-guards_depth-loop-part l = l.most ≡ capped (deepest (map guard_depth (take l.part-index l.parts)))

abbrev pub invariant-alt_guards_depth-loop-part : goal.invariant-alt_guards_depth-loop-part
invariant-alt_guards_depth-loop-part l = l.most ≡ capped (deepest (map alt_guard_depth (take l.part-index l.parts)))

abbrev pub invariant-exp_parts_depth-loop-part : goal.invariant-exp_parts_depth-loop-part
invariant-exp_parts_depth-loop-part l = l.most ≡ capped (deepest (map part_depth (take l.part-index l.parts)))
