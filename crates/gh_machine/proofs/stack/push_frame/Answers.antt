use Rattle.std.proofs.Common.{[], sym, ap, ◌∙◌, subst}
use Rattle.gh_machine.specs.Stacks.{stack_in, AreWithin}
use Rattle.gh_machine.specs.Reach.{AreNear}
use Rattle.gh_machine.proofs.Reaches.{near-push}
use Rattle.gh_machine.proofs.Stacks.{stack_in-push, within-push}
use Rattle.gh_machine.proofs.stack.push_frame.Goals as goal

pub returns-clause-stack : goal.returns-clause-stack
returns-clause-stack c = λ envs. ap (stack_in envs []) c.add.ensures.items ∙ stack_in-push envs [] c.args.stack.now.items c.args.frame

pub returns-clause-within : goal.returns-clause-within
returns-clause-within c = λ m h le. subst (AreWithin m) (sym c.add.ensures.items) (within-push m c.args.stack.now.items c.args.frame h le)

pub returns-clause-near : goal.returns-clause-near
returns-clause-near c = λ m h le. subst (AreNear m) (sym c.add.ensures.items) (near-push m c.args.stack.now.items c.args.frame h le)
