use Rattle.std.proofs.Common.{◌≡◌, ◌∙◌, ap, sym, true, ◌∷◌}
use Rattle.gh_fixity.specs.Arrangement.{tree_in}
use Rattle.gh_fixity.specs.Frames.{open_of, opens, closes_top}
use Rattle.gh_fixity.specs.Stack.{reduced}
use Rattle.gh_fixity.proofs.Complete.{reduced_more}
use Rattle.gh_fixity.proofs.Frames.{opens-push}
use Rattle.gh_fixity.proofs.stack.reduce.Goals as goal

pub closing-preserved : goal.closing-preserved
closing-preserved c =
    let items = c.args.items.now in
    let g = open_of items c.in-Some.frame in
    let split : opens items c.closing.frames.items ≡ g ∷ opens items c.pop.new.self.items
    = ap (opens items) c.in-Some.ensures.items ∙ opens-push items c.pop.new.self.items c.in-Some.frame in
    let closes : closes_top (g ∷ opens items c.pop.new.self.items) c.args.next ≡ true
    = ap (λ gs. closes_top gs c.args.next) (sym split) ∙ ap (λ xs. closes_top (opens items xs) c.args.next) (sym c.as_slice.ensures.value) ∙ sym c.is_closed_by.ensures ∙ c.closing-test.true in
    ap (λ t. reduced (opens items c.pop.new.self.items) t c.args.next) (c.in_ok-operand-in-Some.ensures items)
    ∙ sym (reduced_more g (opens items c.pop.new.self.items) (tree_in items c.closing.operand) c.args.next closes)
    ∙ ap (λ gs. reduced gs (tree_in items c.closing.operand) c.args.next) (sym split)
    ∙ c.closing.invariant
