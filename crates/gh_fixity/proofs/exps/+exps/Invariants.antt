use Rattle.std.proofs.Common.{◌≡◌, ◌++◌, ◌+◌, ◌*◌, map, reverse, length}
use Rattle.gh_fixity.specs.Exps.{exp_out, aexp_out, guard_out, redef_out, decl_out, alt_out, next_operand_out}
use Rattle.gh_fixity.specs.Walks.{trees, all_clashes, all_trees, walks, least}
use Rattle.gh_fixity.proofs.exps.+exps.Given as goal

abbrev pub invariant-exps-loop-part : goal.invariant-exps-loop-part
invariant-exps-loop-part l = record {
  value : trees l.fn.state.locals (map (exp_out l.tops) (l.fn.node)) ≡ l.done ++ trees l.fn.state.locals (map (exp_out l.tops) (reverse l.waiting));
  found : least l.fn.state.found (all_clashes l.fn.state.locals (map (exp_out l.tops) (l.fn.node))) ≡ least l.state.found (all_clashes l.fn.state.locals (map (exp_out l.tops) (reverse l.waiting)));
  scope : l.state.locals ≡ l.fn.state.locals;
}

abbrev pub decreases-exps-loop-part : goal.decreases-exps-loop-part
decreases-exps-loop-part l = length l.waiting

abbrev pub invariant-aexps-loop-part : goal.invariant-aexps-loop-part
invariant-aexps-loop-part l = record {
  value : trees l.fn.state.locals (map (aexp_out l.tops) (l.fn.node)) ≡ l.done ++ trees l.fn.state.locals (map (aexp_out l.tops) (reverse l.waiting));
  found : least l.fn.state.found (all_clashes l.fn.state.locals (map (aexp_out l.tops) (l.fn.node))) ≡ least l.state.found (all_clashes l.fn.state.locals (map (aexp_out l.tops) (reverse l.waiting)));
  scope : l.state.locals ≡ l.fn.state.locals;
}

abbrev pub decreases-aexps-loop-part : goal.decreases-aexps-loop-part
decreases-aexps-loop-part l = length l.waiting

abbrev pub invariant-guards-loop-part : goal.invariant-guards-loop-part
invariant-guards-loop-part l = record {
  value : trees l.fn.state.locals (map (guard_out l.tops) (l.fn.node)) ≡ l.done ++ trees l.fn.state.locals (map (guard_out l.tops) (reverse l.waiting));
  found : least l.fn.state.found (all_clashes l.fn.state.locals (map (guard_out l.tops) (l.fn.node))) ≡ least l.state.found (all_clashes l.fn.state.locals (map (guard_out l.tops) (reverse l.waiting)));
  scope : l.state.locals ≡ l.fn.state.locals;
}

abbrev pub decreases-guards-loop-part : goal.decreases-guards-loop-part
decreases-guards-loop-part l = length l.waiting

abbrev pub invariant-redefs-loop-part : goal.invariant-redefs-loop-part
invariant-redefs-loop-part l = record {
  value : trees l.fn.state.locals (map (redef_out l.tops) (l.fn.node)) ≡ l.done ++ trees l.fn.state.locals (map (redef_out l.tops) (reverse l.waiting));
  found : least l.fn.state.found (all_clashes l.fn.state.locals (map (redef_out l.tops) (l.fn.node))) ≡ least l.state.found (all_clashes l.fn.state.locals (map (redef_out l.tops) (reverse l.waiting)));
  scope : l.state.locals ≡ l.fn.state.locals;
}

abbrev pub decreases-redefs-loop-part : goal.decreases-redefs-loop-part
decreases-redefs-loop-part l = length l.waiting

abbrev pub invariant-alts-loop-part : goal.invariant-alts-loop-part
invariant-alts-loop-part l = record {
  value : trees l.fn.state.locals (map (alt_out l.tops) (l.fn.node)) ≡ l.done ++ trees l.fn.state.locals (map (alt_out l.tops) (reverse l.waiting));
  found : least l.fn.state.found (all_clashes l.fn.state.locals (map (alt_out l.tops) (l.fn.node))) ≡ least l.state.found (all_clashes l.fn.state.locals (map (alt_out l.tops) (reverse l.waiting)));
  scope : l.state.locals ≡ l.fn.state.locals;
}

abbrev pub decreases-alts-loop-part : goal.decreases-alts-loop-part
decreases-alts-loop-part l = length l.waiting

abbrev pub invariant-decls-loop-part : goal.invariant-decls-loop-part
invariant-decls-loop-part l = record {
  value : trees l.fn.state.locals (walks (map (decl_out l.tops) (l.fn.node))) ≡ l.done ++ trees l.fn.state.locals (walks (map (decl_out l.tops) (reverse l.waiting)));
  found : least l.fn.state.found (all_clashes l.fn.state.locals (walks (map (decl_out l.tops) (l.fn.node)))) ≡ least l.state.found (all_clashes l.fn.state.locals (walks (map (decl_out l.tops) (reverse l.waiting))));
  scope : l.state.locals ≡ l.fn.state.locals;
}

abbrev pub decreases-decls-loop-part : goal.decreases-decls-loop-part
decreases-decls-loop-part l = length l.waiting

abbrev pub invariant-next_operands-loop-part : goal.invariant-next_operands-loop-part
invariant-next_operands-loop-part l = record {
  value : l.fn.parts ++ all_trees l.fn.state.locals (map (next_operand_out l.tops) (l.fn.nodes)) ≡ l.parts ++ all_trees l.fn.state.locals (map (next_operand_out l.tops) (reverse l.waiting));
  found : least l.fn.state.found (all_clashes l.fn.state.locals (map (next_operand_out l.tops) (l.fn.nodes))) ≡ least l.state.found (all_clashes l.fn.state.locals (map (next_operand_out l.tops) (reverse l.waiting)));
  scope : l.state.locals ≡ l.fn.state.locals;
}

abbrev pub decreases-next_operands-loop-part : goal.decreases-next_operands-loop-part
decreases-next_operands-loop-part l = length l.waiting

abbrev pub decreases-walked : goal.decreases-walked
decreases-walked l = 16 * l.depth + 0

abbrev pub decreases-decls : goal.decreases-decls
decreases-decls l = 16 * l.depth + 0

abbrev pub decreases-finished : goal.decreases-finished
decreases-finished l = 16 * l.depth + 1

abbrev pub decreases-exp : goal.decreases-exp
decreases-exp l = 16 * l.depth + 2

abbrev pub decreases-exps : goal.decreases-exps
decreases-exps l = 16 * l.depth + 3

abbrev pub decreases-guard : goal.decreases-guard
decreases-guard l = 16 * l.depth + 3

abbrev pub decreases-guards : goal.decreases-guards
decreases-guards l = 16 * l.depth + 4

abbrev pub decreases-redef : goal.decreases-redef
decreases-redef l = 16 * l.depth + 3

abbrev pub decreases-redefs : goal.decreases-redefs
decreases-redefs l = 16 * l.depth + 4

abbrev pub decreases-rhs : goal.decreases-rhs
decreases-rhs l = 16 * l.depth + 5

abbrev pub decreases-decl : goal.decreases-decl
decreases-decl l = 16 * l.depth + 6

abbrev pub decreases-alt : goal.decreases-alt
decreases-alt l = 16 * l.depth + 5

abbrev pub decreases-alts : goal.decreases-alts
decreases-alts l = 16 * l.depth + 6

abbrev pub decreases-locals_inside : goal.decreases-locals_inside
decreases-locals_inside l = 16 * l.depth + 5

abbrev pub decreases-open : goal.decreases-open
decreases-open l = 16 * l.depth + 6

abbrev pub decreases-aexp : goal.decreases-aexp
decreases-aexp l = 16 * l.depth + 4

abbrev pub decreases-aexps : goal.decreases-aexps
decreases-aexps l = 16 * l.depth + 5

abbrev pub decreases-operand : goal.decreases-operand
decreases-operand l = 16 * l.depth + 7

abbrev pub decreases-next_operand : goal.decreases-next_operand
decreases-next_operand l = 16 * l.depth + 8

abbrev pub decreases-next_operands : goal.decreases-next_operands
decreases-next_operands l = 16 * l.depth + 9

abbrev pub decreases-operands_walked : goal.decreases-operands_walked
decreases-operands_walked l = 16 * l.depth + 10
