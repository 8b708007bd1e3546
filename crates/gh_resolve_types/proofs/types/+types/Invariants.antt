use Rattle.std.proofs.Common.{◌≡◌, ◌++◌, map, drop}
use Rattle.gh_resolve_names.specs.Misuses.{all_misuses, least, trees}
use Rattle.gh_resolve_types.specs.Types.{arrow_out, arg_type_out, type_part_out}
use Rattle.gh_resolve_types.proofs.types.+types.Given as goal

abbrev pub invariant-arrows-loop-node : goal.invariant-arrows-loop-node
invariant-arrows-loop-node l = record {
  value : l.initial.list ++ trees (l.names, 0) (map (arrow_out l.context) l.nodes) ≡ l.list ++ trees (l.names, 0) (map (arrow_out l.context) (drop l.node-index l.nodes));
  found : least l.initial.found (all_misuses (l.names, 0) (map (arrow_out l.context) l.nodes)) ≡ least l.found (all_misuses (l.names, 0) (map (arrow_out l.context) (drop l.node-index l.nodes)));
}

abbrev pub invariant-arg_types-loop-node : goal.invariant-arg_types-loop-node
invariant-arg_types-loop-node l = record {
  value : l.initial.list ++ trees (l.names, 0) (map (arg_type_out l.context) l.nodes) ≡ l.list ++ trees (l.names, 0) (map (arg_type_out l.context) (drop l.node-index l.nodes));
  found : least l.initial.found (all_misuses (l.names, 0) (map (arg_type_out l.context) l.nodes)) ≡ least l.found (all_misuses (l.names, 0) (map (arg_type_out l.context) (drop l.node-index l.nodes)));
}

abbrev pub invariant-parts-loop-node : goal.invariant-parts-loop-node
invariant-parts-loop-node l = record {
  value : l.initial.list ++ trees (l.names, 0) (map (type_part_out l.context) l.nodes) ≡ l.list ++ trees (l.names, 0) (map (type_part_out l.context) (drop l.node-index l.nodes));
  found : least l.initial.found (all_misuses (l.names, 0) (map (type_part_out l.context) l.nodes)) ≡ least l.found (all_misuses (l.names, 0) (map (type_part_out l.context) (drop l.node-index l.nodes)));
}
