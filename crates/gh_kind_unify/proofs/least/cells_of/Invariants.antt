use Rattle.std.proofs.Common.{◌≡◌, ℕ, length}
use Rattle.gh_kind_unify.specs.declared.cells.Cell.TheVariants.{Free}
use Rattle.gh_kind_unify.specs.Cells.{cell}
use Rattle.gh_kind_unify.proofs.least.cells_of.Given as goal

abbrev pub invariant-loop-at : goal.invariant-loop-at
invariant-loop-at l = record {
  count : length l.made.items ≡ l.at;
  free : (v : ℕ) → cell l.made.items v ≡ Free;
}
