use Rattle.std.proofs.Common.{◌≡◌, ℕ, ◌<◌, length, None, slice_index_or}
use Rattle.gh_scopes.specs.Layers.{here}
use Rattle.gh_scopes.proofs.graph.first_layer.Given as goal

abbrev pub invariant-loop-file : goal.invariant-loop-file
invariant-loop-file l = (length l.layer ≡ l.file) × ((a : ℕ) → a < l.file → slice_index_or l.layer a None ≡ here l.to a)
