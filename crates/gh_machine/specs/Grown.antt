-- How much a run adds to what a machine keeps.
use Rattle.std.specs.Prelude.{ℕ, ◌+◌, ◌*◌, ◌≤◌, length}
use Rattle.gh_machine.specs.declared.parts.Parts.{Parts}

-- what so many reductions add at most
pub record Grows (n : ℕ) (old new : Parts) : Type 0 where
  pub cells : length new.cells.items + length new.stack.items ≤ length old.cells.items + length old.stack.items + 2 * n
  pub stack : length new.stack.items ≤ length old.stack.items + n
  pub pending : length new.pending.items ≤ length old.pending.items + 4 * n
