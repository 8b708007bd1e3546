use Rattle.std.proofs.Common.{◌≡◌, map, drop}
use Rattle.gh_limits.specs.Bound.{joined, arg_pattern_names, next_pattern_names, pat_part_names}
use Rattle.gh_limits.specs.Seen.{keeps}
use Rattle.gh_limits.proofs.bound.+patterns.Given as goal

abbrev pub invariant-see_arg_patterns-loop-part : goal.invariant-see_arg_patterns-loop-part
invariant-see_arg_patterns-loop-part l = keeps l.initial.seen.items (joined (map arg_pattern_names l.parts)) ≡ keeps l.seen.items (joined (map arg_pattern_names (drop l.part-index l.parts)))

abbrev pub invariant-see_next_patterns-loop-part : goal.invariant-see_next_patterns-loop-part
invariant-see_next_patterns-loop-part l = keeps l.initial.seen.items (joined (map next_pattern_names l.parts)) ≡ keeps l.seen.items (joined (map next_pattern_names (drop l.part-index l.parts)))

abbrev pub invariant-see_parts-loop-part : goal.invariant-see_parts-loop-part
invariant-see_parts-loop-part l = keeps l.initial.seen.items (joined (map pat_part_names l.parts)) ≡ keeps l.seen.items (joined (map pat_part_names (drop l.part-index l.parts)))
