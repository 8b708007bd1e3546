use Rattle.std.proofs.Common.{◌≡◌, ◌++◌, map, drop}
use Rattle.gh_resolve_names.specs.Misuses.{joined}
use Rattle.gh_resolve_patterns.specs.Variables.{next_vars_of, arg_vars_of, part_vars_of}
use Rattle.gh_resolve_patterns.proofs.variables.+variables.Given as goal

abbrev pub invariant-add_next_patterns-loop-node : goal.invariant-add_next_patterns-loop-node
invariant-add_next_patterns-loop-node l = l.initial.list ++ joined (map next_vars_of l.nodes) ≡ l.list ++ joined (map next_vars_of (drop l.node-index l.nodes))

abbrev pub invariant-add_arguments-loop-node : goal.invariant-add_arguments-loop-node
invariant-add_arguments-loop-node l = l.initial.list ++ joined (map arg_vars_of l.nodes) ≡ l.list ++ joined (map arg_vars_of (drop l.node-index l.nodes))

abbrev pub invariant-add_parts-loop-node : goal.invariant-add_parts-loop-node
invariant-add_parts-loop-node l = l.initial.list ++ joined (map part_vars_of l.nodes) ≡ l.list ++ joined (map part_vars_of (drop l.node-index l.nodes))
