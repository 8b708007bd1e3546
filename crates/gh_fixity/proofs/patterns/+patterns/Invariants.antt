use Rattle.std.proofs.Common.{◌≡◌, ◌++◌, ◌+◌, ◌*◌, map, reverse, length}
use Rattle.gh_fixity.specs.Finish.{finished_pattern}
use Rattle.gh_fixity.specs.Patterns.{arg_pattern_out, pattern_out, next_pattern_out}
use Rattle.gh_fixity.specs.Walks.{trees, all_clashes, all_trees, least}
use Rattle.gh_fixity.proofs.patterns.+patterns.Given as goal

abbrev pub invariant-arg_patterns-loop-part : goal.invariant-arg_patterns-loop-part
invariant-arg_patterns-loop-part l = record {
  value : trees l.fn.state.locals (map (arg_pattern_out l.tops) (l.fn.node)) ≡ l.done ++ trees l.fn.state.locals (map (arg_pattern_out l.tops) (reverse l.waiting));
  found : least l.fn.state.found (all_clashes l.fn.state.locals (map (arg_pattern_out l.tops) (l.fn.node))) ≡ least l.state.found (all_clashes l.fn.state.locals (map (arg_pattern_out l.tops) (reverse l.waiting)));
  scope : l.state.locals ≡ l.fn.state.locals;
}

abbrev pub decreases-arg_patterns-loop-part : goal.decreases-arg_patterns-loop-part
decreases-arg_patterns-loop-part l = length l.waiting

abbrev pub invariant-patterns-loop-part : goal.invariant-patterns-loop-part
invariant-patterns-loop-part l = record {
  value : trees l.fn.state.locals (map (finished_pattern l.tops) (map (pattern_out l.tops) (l.fn.node))) ≡ l.done ++ trees l.fn.state.locals (map (finished_pattern l.tops) (map (pattern_out l.tops) (reverse l.waiting)));
  found : least l.fn.state.found (all_clashes l.fn.state.locals (map (finished_pattern l.tops) (map (pattern_out l.tops) (l.fn.node)))) ≡ least l.state.found (all_clashes l.fn.state.locals (map (finished_pattern l.tops) (map (pattern_out l.tops) (reverse l.waiting))));
  scope : l.state.locals ≡ l.fn.state.locals;
}

abbrev pub decreases-patterns-loop-part : goal.decreases-patterns-loop-part
decreases-patterns-loop-part l = length l.waiting

abbrev pub invariant-next_patterns-loop-part : goal.invariant-next_patterns-loop-part
invariant-next_patterns-loop-part l = record {
  value : l.fn.parts ++ all_trees l.fn.state.locals (map (next_pattern_out l.tops) (l.fn.nodes)) ≡ l.parts ++ all_trees l.fn.state.locals (map (next_pattern_out l.tops) (reverse l.waiting));
  found : least l.fn.state.found (all_clashes l.fn.state.locals (map (next_pattern_out l.tops) (l.fn.nodes))) ≡ least l.state.found (all_clashes l.fn.state.locals (map (next_pattern_out l.tops) (reverse l.waiting)));
  scope : l.state.locals ≡ l.fn.state.locals;
}

abbrev pub decreases-next_patterns-loop-part : goal.decreases-next_patterns-loop-part
decreases-next_patterns-loop-part l = length l.waiting

abbrev pub decreases-boxed_arg : goal.decreases-boxed_arg
decreases-boxed_arg l = 16 * l.depth + 0

abbrev pub decreases-finished : goal.decreases-finished
decreases-finished l = 16 * l.depth + 0

abbrev pub decreases-pattern : goal.decreases-pattern
decreases-pattern l = 16 * l.depth + 1

abbrev pub decreases-arg_pattern : goal.decreases-arg_pattern
decreases-arg_pattern l = 16 * l.depth + 3

abbrev pub decreases-patterns : goal.decreases-patterns
decreases-patterns l = 16 * l.depth + 2

abbrev pub decreases-arg_patterns : goal.decreases-arg_patterns
decreases-arg_patterns l = 16 * l.depth + 4

abbrev pub decreases-pat_operand : goal.decreases-pat_operand
decreases-pat_operand l = 16 * l.depth + 5

abbrev pub decreases-next_pattern : goal.decreases-next_pattern
decreases-next_pattern l = 16 * l.depth + 6

abbrev pub decreases-next_patterns : goal.decreases-next_patterns
decreases-next_patterns l = 16 * l.depth + 7

abbrev pub decreases-pattern_walked : goal.decreases-pattern_walked
decreases-pattern_walked l = 16 * l.depth + 8
