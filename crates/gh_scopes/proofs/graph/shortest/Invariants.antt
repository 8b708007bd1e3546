use Rattle.std.proofs.Common.{◌≡◌, ℕ, ◌-◌, List, length}
use Rattle.gh_scopes.specs.Graph.{shortest}
use Rattle.gh_scopes.specs.Layers.{AreLayers}
use Rattle.gh_scopes.proofs.graph.shortest.Given as goal

abbrev pub invariant-loop-layer : goal.invariant-loop-layer
invariant-loop-layer l = (g : List (List ℕ)) (to : ℕ) → AreLayers g to (length l.layers) l.layers → shortest g to (length l.layers) 0 l.file ≡ shortest g to (length l.layers - l.layer-index) l.layer-index l.file
