use Rattle.std.proofs.Common.{◌≡◌, length}
use Rattle.gh_scopes.specs.Layers.{AreLayers, IsLayer}
use Rattle.gh_scopes.proofs.graph.layers.Given as goal

abbrev pub invariant-loop-many : goal.invariant-loop-many
invariant-loop-many l = record {
  many : length l.layers.items ≡ l.many;
  are : AreLayers l.graph l.to l.many l.layers.items;
  next : IsLayer l.graph l.to l.many l.layer;
}
