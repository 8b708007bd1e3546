use Rattle.std.proofs.Common.{◌≡◌, drop}
use Rattle.gh_scopes.specs.Graph.{first_some}
use Rattle.std.proofs.Common.{ℕ, None, slice_index_or}
use Rattle.gh_scopes.proofs.graph.first_walk.Given as goal

abbrev pub invariant-loop-file : goal.invariant-loop-file
invariant-loop-file l = first_some (λ (f : ℕ). slice_index_or l.layer f None) l.files ≡ first_some (λ (f : ℕ). slice_index_or l.layer f None) (drop l.file-index l.files)
