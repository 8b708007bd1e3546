use Rattle.std.proofs.Common.{◌≡◌, ◌++◌, take}
use Rattle.std.specs.List.{flat_map}
use Rattle.gh_declarations.specs.Patterns.{arg_pattern_variables, next_pattern_variables, pat_part_variables}
use Rattle.gh_declarations.proofs.patterns.+patterns.Given as goal

abbrev pub invariant-add_arg_patterns-loop-part : goal.invariant-add_arg_patterns-loop-part
invariant-add_arg_patterns-loop-part l = l.names ≡ l.initial.names ++ flat_map arg_pattern_variables (take l.part-index l.parts)

abbrev pub invariant-add_next_patterns-loop-part : goal.invariant-add_next_patterns-loop-part
invariant-add_next_patterns-loop-part l = l.names ≡ l.initial.names ++ flat_map next_pattern_variables (take l.part-index l.parts)

abbrev pub invariant-add_parts-loop-part : goal.invariant-add_parts-loop-part
invariant-add_parts-loop-part l = l.names ≡ l.initial.names ++ flat_map pat_part_variables (take l.part-index l.parts)
