use Rattle.std.proofs.Common.{◌≡◌, ◌+◌, ◌*◌, [], map, take, None}
use Rattle.std.specs.Prelude.{option_map}
use Rattle.gh_core.specs.Typing.{bindings_of, branches_of, code_of}
use Rattle.gh_core_lint.specs.Branches.{alt_code, binding_code}
use Rattle.gh_core_lint.specs.Faults.{nodes, nodes_bound, nodes_branch, nodes_chosen, BindingsHave, BranchesHave}
use Rattle.gh_core_lint.specs.Programs.{program_of}
use Rattle.gh_core_lint.specs.Stops.{vars_of}
use Rattle.gh_core_lint.specs.Types.{type_at}
use Rattle.gh_core_lint.proofs.check.+check.Given as goal

abbrev pub decreases-check : goal.decreases-check
decreases-check l = 4 * nodes (code_of l.term.now)

abbrev pub decreases-check_alternative : goal.decreases-check_alternative
decreases-check_alternative l = 4 * nodes_branch (alt_code l.alternative.now) + 1

abbrev pub decreases-check_alternatives : goal.decreases-check_alternatives
decreases-check_alternatives l = 4 * nodes_chosen (branches_of (map alt_code l.alternatives.now) None) + 2

abbrev pub decreases-check_bindings : goal.decreases-check_bindings
decreases-check_bindings l = 4 * nodes_bound (bindings_of (map binding_code l.bindings.now)) + 1

abbrev pub decreases-check_case : goal.decreases-check_case
decreases-check_case l =
    4 * (nodes (code_of l.scrutinee.now) + nodes_chosen (branches_of (map alt_code l.alternatives.now) (option_map code_of l.otherwise.now))) + 3

abbrev pub decreases-check_else : goal.decreases-check_else
decreases-check_else l = 4 * nodes_chosen (branches_of [] (option_map code_of l.otherwise.now)) + 1

abbrev pub decreases-check_letrec : goal.decreases-check_letrec
decreases-check_letrec l = 4 * (nodes_bound (bindings_of (map binding_code l.bindings.now)) + nodes (code_of l.body.now)) + 2

abbrev pub invariant-check_alternatives-loop-alternative : goal.invariant-check_alternatives-loop-alternative
invariant-check_alternatives-loop-alternative l = record {
  typed :
      BranchesHave (program_of l.known) l.fn.scope.kinds (vars_of l.fn.scope.vars) (type_at l.scrutinee)
      (branches_of (map alt_code (take l.alternative-index l.alternatives)) None) (map type_at l.types);
  next : l.next ≡ l.node + nodes_chosen (branches_of (map alt_code (take l.alternative-index l.alternatives)) None);
  scope : l.scope ≡ l.fn.scope;
}

abbrev pub invariant-check_bindings-loop-term : goal.invariant-check_bindings-loop-term
invariant-check_bindings-loop-term l = record {
  typed :
      BindingsHave (program_of l.known) l.fn.scope.kinds (vars_of l.fn.scope.vars)
      (bindings_of (map binding_code (take l.term-index l.bindings))) (map type_at l.types);
  next : l.next ≡ l.node + nodes_bound (bindings_of (map binding_code (take l.term-index l.bindings)));
  scope : l.scope ≡ l.fn.scope;
}
