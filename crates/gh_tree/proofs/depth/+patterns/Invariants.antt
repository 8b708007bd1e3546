use Rattle.std.proofs.Common.{◌≡◌, map, take}
use Rattle.gh_tree.specs.Depth.{capped, deepest, arg_pattern_depth, next_pattern_depth, pat_part_depth}
use Rattle.gh_tree.proofs.depth.+patterns.Given as goal

abbrev pub invariant-next_patterns_depth-loop-part : goal.invariant-next_patterns_depth-loop-part
invariant-next_patterns_depth-loop-part l = l.most ≡ capped (deepest (map next_pattern_depth (take l.part-index l.parts)))

abbrev pub invariant-arg_patterns_depth-loop-part : goal.invariant-arg_patterns_depth-loop-part
invariant-arg_patterns_depth-loop-part l = l.most ≡ capped (deepest (map arg_pattern_depth (take l.part-index l.parts)))

abbrev pub invariant-pat_parts_depth-loop-part : goal.invariant-pat_parts_depth-loop-part
invariant-pat_parts_depth-loop-part l = l.most ≡ capped (deepest (map pat_part_depth (take l.part-index l.parts)))
