use Rattle.std.proofs.Common.{◌≡◌, ◌++◌, map, drop}
use Rattle.gh_resolve_names.specs.Misuses.{joined}
use Rattle.gh_resolve_types.specs.TypeVariables.{arrow_vars_of, arg_vars_of, type_part_vars_of}
use Rattle.gh_resolve_types.proofs.variables.+variables.Given as goal

abbrev pub invariant-add_arrows-loop-node : goal.invariant-add_arrows-loop-node
invariant-add_arrows-loop-node l = l.initial.list ++ joined (map arrow_vars_of l.nodes) ≡ l.list ++ joined (map arrow_vars_of (drop l.node-index l.nodes))

abbrev pub invariant-add_arg_types-loop-node : goal.invariant-add_arg_types-loop-node
invariant-add_arg_types-loop-node l = l.initial.list ++ joined (map arg_vars_of l.nodes) ≡ l.list ++ joined (map arg_vars_of (drop l.node-index l.nodes))

abbrev pub invariant-add_parts-loop-node : goal.invariant-add_parts-loop-node
invariant-add_parts-loop-node l = l.initial.list ++ joined (map type_part_vars_of l.nodes) ≡ l.list ++ joined (map type_part_vars_of (drop l.node-index l.nodes))
