use Rattle.std.proofs.Common.{◌≤◌, subst}
use Rattle.gh_machine.specs.Stacks.{env_of_frame}
use Rattle.gh_machine.specs.Reach.{frame_reach}
use Rattle.gh_machine.proofs.stack.arg_at.Goals as goal

pub returns-in-Some-Arg-clause-within : goal.returns-in-Some-Arg-clause-within
returns-in-Some-Arg-clause-within c = λ n h. subst (λ f. env_of_frame f ≤ n) c.in-Some-Arg.field-0-is (c.in-Some-Arg.ensures.within n h)

pub returns-in-Some-Arg-clause-near : goal.returns-in-Some-Arg-clause-near
returns-in-Some-Arg-clause-near c = λ n h. subst (λ f. frame_reach f ≤ n) c.in-Some-Arg.field-0-is (c.in-Some-Arg.ensures.near n h)
