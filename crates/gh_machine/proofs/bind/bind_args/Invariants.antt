use Rattle.std.proofs.Common.{◌≡◌, ◌≤◌, ◌+◌, ℕ, [], length, vec_len, vec_capacity}
use Rattle.gh_machine.specs.Unload.{envs_of}
use Rattle.gh_machine.specs.Stacks.{stack_in}
use Rattle.gh_machine.specs.Reach.{IsNear, AreNear}
use Rattle.gh_machine.specs.Sound.{IsBound}
use Rattle.gh_machine.proofs.Bound.{from_place}
use Rattle.gh_machine.proofs.bind.bind_args.Given as goal

abbrev pub invariant-loop-left : goal.invariant-loop-left
invariant-loop-left l = record {
  within : l.left ≤ length l.names;
  bound : IsBound l.initial.cells.items l.cells.items l.top (from_place l.initial.cells.items l.env l.names (stack_in (envs_of l.initial.cells.items) [] l.stack) l.left);
  near : (n : ℕ) → IsNear n l.initial.cells.items → AreNear n l.stack → IsNear n l.cells.items;
  len : vec_len l.cells + l.left ≡ vec_len l.initial.cells + length l.names;
  capacity : vec_capacity l.initial.cells ≤ vec_capacity l.cells;
}

abbrev pub decreases-loop-left : goal.decreases-loop-left
decreases-loop-left l = l.left
