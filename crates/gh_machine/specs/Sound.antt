-- What a machine stands for, and what holds of it between reductions.
use Rattle.std.specs.Prelude.{◌≡◌, ℕ, ◌+◌, ◌*◌, ◌-◌, ◌≤◌, ◌<◌, ◌^◌, List, [], length, vec_len, vec_capacity}
use Rattle.gh_core.specs.Closing.{Env}
use Rattle.gh_core.specs.Reduce.{State, Program, opened}
use Rattle.gh_core.specs.Run.{program_of}
use Rattle.gh_machine.specs.Values.{status_of}
use Rattle.gh_machine.specs.Unload.{IsFine, envs_of, env_in, demanded_in, demand_env}
use Rattle.gh_machine.specs.Stacks.{stack_in, AreWithin}
use Rattle.gh_machine.specs.Reach.{demand_reach, IsNear, AreNear}
use Rattle.gh_machine.specs.declared.closure.Cell.{Cell}
use Rattle.gh_machine.specs.declared.parts.Parts.{Parts}

abbrev pub state_of : Parts → State
state_of p = record { focus = opened (demanded_in (envs_of p.cells.items) p.demand); stack = stack_in (envs_of p.cells.items) [] p.stack.items; out = p.pending.items; status = status_of p.turn }

abbrev pub program_in : Parts → Program
program_in p = program_of p.program

-- no text has been taken apart further
pub record IsInReach (p : Parts) : Type 0 where
  pub cells : IsNear p.furthest p.cells.items
  pub demand : demand_reach p.demand ≤ p.furthest
  pub stack : AreNear p.furthest p.stack.items

-- what the machine's own places keep
pub record IsHeld (p : Parts) : Type 0 where
  pub cells : IsFine p.cells.items
  pub demand : demand_env p.demand ≤ length p.cells.items
  pub stack : AreWithin (length p.cells.items) p.stack.items
  pub reach : IsInReach p

-- room for so many reductions: each frame may become a cell, and a text may be taken apart twice
pub record HasRoom (n : ℕ) (p : Parts) : Type 0 where
  pub cells : vec_len p.cells + vec_len p.stack + 2 * n ≤ vec_capacity p.cells
  pub few : vec_len p.cells + vec_len p.stack + 2 * n < 2 ^ 32 - 1
  pub near : p.furthest + 2 * n < 2 ^ 32
  pub stack : vec_len p.stack + n ≤ vec_capacity p.stack
  pub pending : vec_len p.pending + 4 * n ≤ vec_capacity p.pending

-- the demand has passed to a term, and what waits is as it was, but for a printed list that is taken apart
pub record Goes (old new : Parts) (s : State) : Type 0 where
  pub held : IsHeld new
  pub state : state_of new ≡ s
  pub program : new.program ≡ old.program
  pub cells : vec_len new.cells ≡ vec_len old.cells
  pub stack : vec_len new.stack ≤ vec_len old.stack + (1 - vec_len old.stack)
  pub near : new.furthest ≤ old.furthest + 1
  pub pending : vec_len new.pending ≡ vec_len old.pending
  pub cells_capacity : vec_capacity old.cells ≤ vec_capacity new.cells
  pub stack_capacity : vec_capacity old.stack ≤ vec_capacity new.stack
  pub pending_capacity : vec_capacity old.pending ≤ vec_capacity new.pending

-- from the one machine to the other, which stands for s, in one reduction that binds so many names
pub record Leads (names : ℕ) (old new : Parts) (s : State) : Type 0 where
  pub held : IsHeld new
  pub state : state_of new ≡ s
  pub program : new.program ≡ old.program
  pub cells : vec_len new.cells ≤ vec_len old.cells + names
  pub total : vec_len new.cells + vec_len new.stack ≤ vec_len old.cells + vec_len old.stack + 2
  pub stack : vec_len new.stack ≤ vec_len old.stack + 1
  pub near : new.furthest ≤ old.furthest + 2
  pub pending : vec_len new.pending ≤ vec_len old.pending + 4
  pub cells_capacity : vec_capacity old.cells ≤ vec_capacity new.cells
  pub stack_capacity : vec_capacity old.stack ≤ vec_capacity new.stack
  pub pending_capacity : vec_capacity old.pending ≤ vec_capacity new.pending

-- the cells grew, and the environment at top is ρ
pub record IsBound (old new : List Cell) (top : ℕ) (ρ : Env) : Type 0 where
  pub fine : IsFine new
  pub within : top ≤ length new
  pub env : env_in (envs_of new) top ≡ ρ
  pub keeps : (e : ℕ) → e ≤ length old → env_in (envs_of new) e ≡ env_in (envs_of old) e
  pub more : length old ≤ length new
