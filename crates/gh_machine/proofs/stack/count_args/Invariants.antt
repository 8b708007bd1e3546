use Rattle.std.proofs.Common.{◌≡◌, ◌≤◌, ◌+◌, ◌-◌, List, [], length, drop}
use Rattle.gh_core.specs.Closing.{Env}
use Rattle.gh_core.specs.Reduce.{args_of}
use Rattle.gh_machine.specs.Stacks.{stack_in}
use Rattle.gh_machine.proofs.stack.count_args.Given as goal

abbrev pub invariant-loop-count : goal.invariant-loop-count
invariant-loop-count l = (l.count ≤ length l.stack) × ((envs : List Env) → length (args_of (stack_in envs [] l.stack)) ≡ l.count + length (args_of (drop l.count (stack_in envs [] l.stack))))

abbrev pub decreases-loop-count : goal.decreases-loop-count
decreases-loop-count l = length l.stack - l.count
