use Rattle.std.proofs.Common.{refl, map, ◌∙◌}
use Rattle.gh_fixity.specs.Exps.{exp_out, aexp_out, guard_out, redef_out, decl_out, alt_out, next_operand_out}
use Rattle.gh_fixity.specs.Walks.{walks}
use Rattle.gh_fixity.proofs.Loops.{popped_tree, popped_clashes, popped_parts}
use Rattle.gh_fixity.proofs.exps.+exps.Goals as goal

pub exps-loop-part-preserved : goal.exps-loop-part-preserved
exps-loop-part-preserved t c = record {
  value = popped_tree (map (exp_out c.args.tops.now)) (exp_out c.args.tops.now) (λ x xs. refl) c.args.state.now.locals c.loop-part.state.locals c.loop-part.waiting c.pop.new.self c.in-Some.part c.in_ok-arranged.arranged _ c.loop-part.done c.push.new.self
      c.in-Some.ensures c.in_ok-arranged.ensures.value c.loop-part.invariant.scope c.loop-part.invariant.value c.in_ok-push.ensures.ok;
  found = popped_clashes (map (exp_out c.args.tops.now)) (exp_out c.args.tops.now) (λ x xs. refl) c.args.state.now.locals c.loop-part.state.locals c.loop-part.waiting c.pop.new.self c.in-Some.part _ c.loop-part.state.found c.exp.new.state.found
      c.in-Some.ensures c.in_ok-arranged.ensures.found c.loop-part.invariant.scope c.loop-part.invariant.found;
  scope = c.in_ok-arranged.ensures.scope ∙ c.loop-part.invariant.scope;
}

pub aexps-loop-part-preserved : goal.aexps-loop-part-preserved
aexps-loop-part-preserved t c = record {
  value = popped_tree (map (aexp_out c.args.tops.now)) (aexp_out c.args.tops.now) (λ x xs. refl) c.args.state.now.locals c.loop-part.state.locals c.loop-part.waiting c.pop.new.self c.in-Some.part c.in_ok-arranged.arranged _ c.loop-part.done c.push.new.self
      c.in-Some.ensures c.in_ok-arranged.ensures.value c.loop-part.invariant.scope c.loop-part.invariant.value c.in_ok-push.ensures.ok;
  found = popped_clashes (map (aexp_out c.args.tops.now)) (aexp_out c.args.tops.now) (λ x xs. refl) c.args.state.now.locals c.loop-part.state.locals c.loop-part.waiting c.pop.new.self c.in-Some.part _ c.loop-part.state.found c.aexp.new.state.found
      c.in-Some.ensures c.in_ok-arranged.ensures.found c.loop-part.invariant.scope c.loop-part.invariant.found;
  scope = c.in_ok-arranged.ensures.scope ∙ c.loop-part.invariant.scope;
}

pub guards-loop-part-preserved : goal.guards-loop-part-preserved
guards-loop-part-preserved t c = record {
  value = popped_tree (map (guard_out c.args.tops.now)) (guard_out c.args.tops.now) (λ x xs. refl) c.args.state.now.locals c.loop-part.state.locals c.loop-part.waiting c.pop.new.self c.in-Some.part c.in_ok-arranged.arranged _ c.loop-part.done c.push.new.self
      c.in-Some.ensures c.in_ok-arranged.ensures.value c.loop-part.invariant.scope c.loop-part.invariant.value c.in_ok-push.ensures.ok;
  found = popped_clashes (map (guard_out c.args.tops.now)) (guard_out c.args.tops.now) (λ x xs. refl) c.args.state.now.locals c.loop-part.state.locals c.loop-part.waiting c.pop.new.self c.in-Some.part _ c.loop-part.state.found c.guard.new.state.found
      c.in-Some.ensures c.in_ok-arranged.ensures.found c.loop-part.invariant.scope c.loop-part.invariant.found;
  scope = c.in_ok-arranged.ensures.scope ∙ c.loop-part.invariant.scope;
}

pub redefs-loop-part-preserved : goal.redefs-loop-part-preserved
redefs-loop-part-preserved t c = record {
  value = popped_tree (map (redef_out c.args.tops.now)) (redef_out c.args.tops.now) (λ x xs. refl) c.args.state.now.locals c.loop-part.state.locals c.loop-part.waiting c.pop.new.self c.in-Some.part c.in_ok-arranged.arranged _ c.loop-part.done c.push.new.self
      c.in-Some.ensures c.in_ok-arranged.ensures.value c.loop-part.invariant.scope c.loop-part.invariant.value c.in_ok-push.ensures.ok;
  found = popped_clashes (map (redef_out c.args.tops.now)) (redef_out c.args.tops.now) (λ x xs. refl) c.args.state.now.locals c.loop-part.state.locals c.loop-part.waiting c.pop.new.self c.in-Some.part _ c.loop-part.state.found c.redef.new.state.found
      c.in-Some.ensures c.in_ok-arranged.ensures.found c.loop-part.invariant.scope c.loop-part.invariant.found;
  scope = c.in_ok-arranged.ensures.scope ∙ c.loop-part.invariant.scope;
}

pub alts-loop-part-preserved : goal.alts-loop-part-preserved
alts-loop-part-preserved t c = record {
  value = popped_tree (map (alt_out c.args.tops.now)) (alt_out c.args.tops.now) (λ x xs. refl) c.args.state.now.locals c.loop-part.state.locals c.loop-part.waiting c.pop.new.self c.in-Some.part c.in_ok-arranged.arranged _ c.loop-part.done c.push.new.self
      c.in-Some.ensures c.in_ok-arranged.ensures.value c.loop-part.invariant.scope c.loop-part.invariant.value c.in_ok-push.ensures.ok;
  found = popped_clashes (map (alt_out c.args.tops.now)) (alt_out c.args.tops.now) (λ x xs. refl) c.args.state.now.locals c.loop-part.state.locals c.loop-part.waiting c.pop.new.self c.in-Some.part _ c.loop-part.state.found c.alt.new.state.found
      c.in-Some.ensures c.in_ok-arranged.ensures.found c.loop-part.invariant.scope c.loop-part.invariant.found;
  scope = c.in_ok-arranged.ensures.scope ∙ c.loop-part.invariant.scope;
}

pub decls-loop-part-preserved : goal.decls-loop-part-preserved
decls-loop-part-preserved t c = record {
  value = popped_tree (λ ds. walks (map (decl_out c.args.tops.now) ds)) (λ d. (decl_out c.args.tops.now d).walk) (λ x xs. refl) c.args.state.now.locals c.loop-part.state.locals c.loop-part.waiting c.pop.new.self c.in-Some.part c.in_ok-arranged.arranged _ c.loop-part.done c.push.new.self
      c.in-Some.ensures c.in_ok-arranged.ensures.value c.loop-part.invariant.scope c.loop-part.invariant.value c.in_ok-push.ensures.ok;
  found = popped_clashes (λ ds. walks (map (decl_out c.args.tops.now) ds)) (λ d. (decl_out c.args.tops.now d).walk) (λ x xs. refl) c.args.state.now.locals c.loop-part.state.locals c.loop-part.waiting c.pop.new.self c.in-Some.part _ c.loop-part.state.found c.decl.new.state.found
      c.in-Some.ensures c.in_ok-arranged.ensures.found c.loop-part.invariant.scope c.loop-part.invariant.found;
  scope = c.in_ok-arranged.ensures.scope ∙ c.loop-part.invariant.scope;
}

pub next_operands-loop-part-preserved : goal.next_operands-loop-part-preserved
next_operands-loop-part-preserved t c = record {
  value = popped_parts (map (next_operand_out c.args.tops.now)) (next_operand_out c.args.tops.now) (λ x xs. refl) c.args.state.now.locals c.loop-part.state.locals c.loop-part.waiting c.pop.new.self c.in-Some.part _ c.loop-part.parts c.next_operand.new.parts
      c.in-Some.ensures c.in_ok-next_operand.ensures.value c.loop-part.invariant.scope c.loop-part.invariant.value;
  found = popped_clashes (map (next_operand_out c.args.tops.now)) (next_operand_out c.args.tops.now) (λ x xs. refl) c.args.state.now.locals c.loop-part.state.locals c.loop-part.waiting c.pop.new.self c.in-Some.part _ c.loop-part.state.found c.next_operand.new.state.found
      c.in-Some.ensures c.in_ok-next_operand.ensures.found c.loop-part.invariant.scope c.loop-part.invariant.found;
  scope = c.in_ok-next_operand.ensures.scope ∙ c.loop-part.invariant.scope;
}
