use Rattle.std.proofs.Common.{◌≡◌, ℕ, ◌<◌, length, None, slice_index_or}
use Rattle.gh_scopes.specs.Layers.{one_further}
use Rattle.gh_scopes.proofs.graph.next_layer.Given as goal

abbrev pub invariant-loop-file : goal.invariant-loop-file
invariant-loop-file l = (length l.next ≡ l.file) × ((a : ℕ) → a < l.file → slice_index_or l.next a None ≡ one_further l.graph l.layer a)
