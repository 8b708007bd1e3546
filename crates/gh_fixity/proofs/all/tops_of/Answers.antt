use Rattle.std.proofs.Common.{refl, map, ◌∙◌}
use Rattle.gh_fixity.specs.Programs.{top_out}
use Rattle.gh_fixity.proofs.Loops.{popped_tree, popped_clashes}
use Rattle.gh_fixity.proofs.all.tops_of.Goals as goal

pub loop-part-preserved : goal.loop-part-preserved
loop-part-preserved c = record {
  value = popped_tree (map (top_out c.args.tops.now)) (top_out c.args.tops.now) (λ x xs. refl) c.args.state.now.locals c.loop-part.state.locals c.loop-part.waiting c.pop.new.self c.in-Some.part c.in_ok-arranged.arranged _ c.loop-part.done c.push.new.self
      c.in-Some.ensures c.in_ok-arranged.ensures.value c.loop-part.invariant.scope c.loop-part.invariant.value c.in_ok-push.ensures.ok;
  found = popped_clashes (map (top_out c.args.tops.now)) (top_out c.args.tops.now) (λ x xs. refl) c.args.state.now.locals c.loop-part.state.locals c.loop-part.waiting c.pop.new.self c.in-Some.part _ c.loop-part.state.found c.top.new.state.found
      c.in-Some.ensures c.in_ok-arranged.ensures.found c.loop-part.invariant.scope c.loop-part.invariant.found;
  scope = c.in_ok-arranged.ensures.scope ∙ c.loop-part.invariant.scope;
}
