use Rattle.std.proofs.Common.{◌≡◌, ◌-◌, length, take, [], sym, ap, ◌∙◌, subst, arith}
use Rattle.gh_machine.specs.Stacks.{stack_in, AreWithin}
use Rattle.gh_machine.specs.Reach.{AreNear}
use Rattle.gh_machine.proofs.Reaches.{near_take}
use Rattle.gh_machine.proofs.Stacks.{drop_stack, within_take}
use Rattle.gh_machine.proofs.stack.drop_top.Goals as goal

pub returns-clause-stack : goal.returns-clause-stack
returns-clause-stack c = λ envs.
    let fs = c.args.stack.now.items in
    let e : c.len.result - c.args.n ≡ length fs - c.args.n = omega (arith, c.args.stack.now.ok.0) in
    ap (stack_in envs []) (c.truncate.ensures.items ∙ ap (λ k. take k fs) e) ∙ sym (drop_stack envs fs c.args.n (omega (arith, c.args.stack.now.ok.0)))

pub returns-clause-within : goal.returns-clause-within
returns-clause-within c = λ m h. subst (AreWithin m) (sym c.truncate.ensures.items) (within_take m (c.len.result - c.args.n) c.args.stack.now.items h)

pub returns-clause-near : goal.returns-clause-near
returns-clause-near c = λ m h. subst (AreNear m) (sym c.truncate.ensures.items) (near_take m (c.len.result - c.args.n) c.args.stack.now.items h)
