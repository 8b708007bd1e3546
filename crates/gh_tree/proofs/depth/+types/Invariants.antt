use Rattle.std.proofs.Common.{◌≡◌, map, take}
use Rattle.gh_tree.specs.Depth.{capped, deepest, arg_type_depth, arrow_depth, type_part_depth}
use Rattle.gh_tree.proofs.depth.+types.Given as goal

abbrev pub invariant-arrows_depth-loop-part : goal.invariant-arrows_depth-loop-part
invariant-arrows_depth-loop-part l = l.most ≡ capped (deepest (map arrow_depth (take l.part-index l.parts)))

abbrev pub invariant-arg_types_depth-loop-part : goal.invariant-arg_types_depth-loop-part
invariant-arg_types_depth-loop-part l = l.most ≡ capped (deepest (map arg_type_depth (take l.part-index l.parts)))

abbrev pub invariant-type_parts_depth-loop-part : goal.invariant-type_parts_depth-loop-part
invariant-type_parts_depth-loop-part l = l.most ≡ capped (deepest (map type_part_depth (take l.part-index l.parts)))
