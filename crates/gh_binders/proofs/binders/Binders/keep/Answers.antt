use Rattle.std.proofs.Common.{ap, ◌∙◌, length, length-drop, arith, drop, drop-drop}
use Rattle.gh_binders.proofs.binders.Binders.keep.Goals as goal

pub unbind-requires : goal.unbind-requires
unbind-requires g c = let l = length-drop c.loop-done.done c.args.self.now in let e = ap length c.loop-done.invariant in let k = c.count.ensures.value in omega arith

pub loop-done-preserved : goal.loop-done-preserved
loop-done-preserved g c = c.unbind.ensures ∙ ap (drop 1) c.loop-done.invariant ∙ drop-drop 1 c.loop-done.done c.args.self.now
