use Rattle.std.proofs.Common.{◌∙◌, ap, sym}
use Rattle.gh_fixity.specs.Arrangement.{tree_in}
use Rattle.gh_fixity.specs.Frames.{opens}
use Rattle.gh_fixity.specs.Stack.{closed}
use Rattle.gh_fixity.proofs.Frames.{opens-push}
use Rattle.gh_fixity.proofs.stack.close.Goals as goal

pub loop-frame-preserved : goal.loop-frame-preserved
loop-frame-preserved c = λ items.
    ap (λ t. closed (opens items c.pop.new.self.items) t) (c.in_ok-operand.ensures items)
    ∙ ap (λ gs. closed gs (tree_in items c.loop-frame.operand)) (sym (opens-push items c.pop.new.self.items c.in-Some.frame) ∙ ap (opens items) (sym c.in-Some.ensures.items))
    ∙ c.loop-frame.invariant items
