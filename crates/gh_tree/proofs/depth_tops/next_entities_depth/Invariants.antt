use Rattle.std.proofs.Common.{◌≡◌, map, take}
use Rattle.gh_tree.specs.Depth.{capped, deepest, entity_depth}
use Rattle.gh_tree.proofs.depth_tops.next_entities_depth.Given as goal

abbrev pub invariant-loop-part : goal.invariant-loop-part
invariant-loop-part l = l.most ≡ capped (deepest (map (λ x. entity_depth x.entity) (take l.part-index l.parts)))
