use Rattle.std.proofs.Common.{◌-◌, length, arith}
use Rattle.gh_machine.proofs.Stacks.{frame_is, frame_none, within_at}
use Rattle.gh_machine.proofs.Reaches.{near_at}
use Rattle.gh_machine.proofs.stack.frame_at.Goals as goal

pub returns-then-i-stack-clause-value : goal.returns-then-i-stack-clause-value
returns-then-i-stack-clause-value c = λ envs. frame_is envs c.args.stack.now c.args.i c.index-stack-stack.result c.if-i-stack.true c.index-stack-stack.is

pub returns-then-i-stack-clause-within : goal.returns-then-i-stack-clause-within
returns-then-i-stack-clause-within c = λ n h. within_at n c.args.stack.now (length c.args.stack.now - 1 - c.args.i) c.index-stack-stack.result h (omega arith) c.index-stack-stack.is

pub returns-then-i-stack-clause-near : goal.returns-then-i-stack-clause-near
returns-then-i-stack-clause-near c = λ n h. near_at n c.args.stack.now (length c.args.stack.now - 1 - c.args.i) c.index-stack-stack.result h (omega arith) c.index-stack-stack.is

pub returns-else-i-stack-clause-value : goal.returns-else-i-stack-clause-value
returns-else-i-stack-clause-value c = λ envs. frame_none envs c.args.stack.now c.args.i c.if-i-stack.false
