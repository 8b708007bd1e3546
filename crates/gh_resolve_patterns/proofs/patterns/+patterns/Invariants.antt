use Rattle.std.proofs.Common.{◌≡◌, ◌++◌, map, drop}
use Rattle.gh_resolve_names.specs.Misuses.{all_misuses, least, trees}
use Rattle.gh_resolve_patterns.specs.Patterns.{next_pattern_out, arg_pattern_out, pat_part_out}
use Rattle.gh_resolve_patterns.proofs.patterns.+patterns.Given as goal

abbrev pub invariant-next_patterns-loop-node : goal.invariant-next_patterns-loop-node
invariant-next_patterns-loop-node l = record {
  value : l.initial.list ++ trees l.locals (map (next_pattern_out l.context) l.nodes) ≡ l.list ++ trees l.locals (map (next_pattern_out l.context) (drop l.node-index l.nodes));
  found : least l.initial.found (all_misuses l.locals (map (next_pattern_out l.context) l.nodes)) ≡ least l.found (all_misuses l.locals (map (next_pattern_out l.context) (drop l.node-index l.nodes)));
}

abbrev pub invariant-arg_patterns-loop-node : goal.invariant-arg_patterns-loop-node
invariant-arg_patterns-loop-node l = record {
  value : l.initial.list ++ trees l.locals (map (arg_pattern_out l.context) l.nodes) ≡ l.list ++ trees l.locals (map (arg_pattern_out l.context) (drop l.node-index l.nodes));
  found : least l.initial.found (all_misuses l.locals (map (arg_pattern_out l.context) l.nodes)) ≡ least l.found (all_misuses l.locals (map (arg_pattern_out l.context) (drop l.node-index l.nodes)));
}

abbrev pub invariant-parts-loop-node : goal.invariant-parts-loop-node
invariant-parts-loop-node l = record {
  value : l.initial.list ++ trees l.locals (map (pat_part_out l.context) l.nodes) ≡ l.list ++ trees l.locals (map (pat_part_out l.context) (drop l.node-index l.nodes));
  found : least l.initial.found (all_misuses l.locals (map (pat_part_out l.context) l.nodes)) ≡ least l.found (all_misuses l.locals (map (pat_part_out l.context) (drop l.node-index l.nodes)));
}
