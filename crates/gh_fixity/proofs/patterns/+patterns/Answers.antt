use Rattle.std.proofs.Common.{refl, map, ◌∙◌}
use Rattle.gh_fixity.specs.Finish.{finished_pattern}
use Rattle.gh_fixity.specs.Patterns.{arg_pattern_out, pattern_out, next_pattern_out}
use Rattle.gh_fixity.proofs.Loops.{popped_tree, popped_clashes, popped_parts}
use Rattle.gh_fixity.proofs.patterns.+patterns.Goals as goal

pub arg_patterns-loop-part-preserved : goal.arg_patterns-loop-part-preserved
arg_patterns-loop-part-preserved t c = record {
  value = popped_tree (map (arg_pattern_out c.args.tops.now)) (arg_pattern_out c.args.tops.now) (λ x xs. refl) c.args.state.now.locals c.loop-part.state.locals c.loop-part.waiting c.pop.new.self c.in-Some.part c.in_ok-arranged.arranged _ c.loop-part.done c.push.new.self
      c.in-Some.ensures c.in_ok-arranged.ensures.value c.loop-part.invariant.scope c.loop-part.invariant.value c.in_ok-push.ensures.ok;
  found = popped_clashes (map (arg_pattern_out c.args.tops.now)) (arg_pattern_out c.args.tops.now) (λ x xs. refl) c.args.state.now.locals c.loop-part.state.locals c.loop-part.waiting c.pop.new.self c.in-Some.part _ c.loop-part.state.found c.arg_pattern.new.state.found
      c.in-Some.ensures c.in_ok-arranged.ensures.found c.loop-part.invariant.scope c.loop-part.invariant.found;
  scope = c.in_ok-arranged.ensures.scope ∙ c.loop-part.invariant.scope;
}

pub patterns-loop-part-preserved : goal.patterns-loop-part-preserved
patterns-loop-part-preserved t c = record {
  value = popped_tree (λ xs. map (finished_pattern c.args.tops.now) (map (pattern_out c.args.tops.now) xs)) (λ x. finished_pattern c.args.tops.now (pattern_out c.args.tops.now x)) (λ x xs. refl) c.args.state.now.locals c.loop-part.state.locals c.loop-part.waiting c.pop.new.self c.in-Some.part c.in_ok-arranged.arranged _ c.loop-part.done c.push.new.self
      c.in-Some.ensures c.in_ok-arranged.ensures.value c.loop-part.invariant.scope c.loop-part.invariant.value c.in_ok-push.ensures.ok;
  found = popped_clashes (λ xs. map (finished_pattern c.args.tops.now) (map (pattern_out c.args.tops.now) xs)) (λ x. finished_pattern c.args.tops.now (pattern_out c.args.tops.now x)) (λ x xs. refl) c.args.state.now.locals c.loop-part.state.locals c.loop-part.waiting c.pop.new.self c.in-Some.part _ c.loop-part.state.found c.pattern.new.state.found
      c.in-Some.ensures c.in_ok-arranged.ensures.found c.loop-part.invariant.scope c.loop-part.invariant.found;
  scope = c.in_ok-arranged.ensures.scope ∙ c.loop-part.invariant.scope;
}

pub next_patterns-loop-part-preserved : goal.next_patterns-loop-part-preserved
next_patterns-loop-part-preserved t c = record {
  value = popped_parts (map (next_pattern_out c.args.tops.now)) (next_pattern_out c.args.tops.now) (λ x xs. refl) c.args.state.now.locals c.loop-part.state.locals c.loop-part.waiting c.pop.new.self c.in-Some.part _ c.loop-part.parts c.next_pattern.new.parts
      c.in-Some.ensures c.in_ok-next_pattern.ensures.value c.loop-part.invariant.scope c.loop-part.invariant.value;
  found = popped_clashes (map (next_pattern_out c.args.tops.now)) (next_pattern_out c.args.tops.now) (λ x xs. refl) c.args.state.now.locals c.loop-part.state.locals c.loop-part.waiting c.pop.new.self c.in-Some.part _ c.loop-part.state.found c.next_pattern.new.state.found
      c.in-Some.ensures c.in_ok-next_pattern.ensures.found c.loop-part.invariant.scope c.loop-part.invariant.found;
  scope = c.in_ok-next_pattern.ensures.scope ∙ c.loop-part.invariant.scope;
}
