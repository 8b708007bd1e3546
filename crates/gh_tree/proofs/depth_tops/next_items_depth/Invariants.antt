use Rattle.std.proofs.Common.{◌≡◌, map, take}
use Rattle.gh_tree.specs.Depth.{capped, deepest, item_depth}
use Rattle.gh_tree.proofs.depth_tops.next_items_depth.Given as goal

abbrev pub invariant-loop-part : goal.invariant-loop-part
invariant-loop-part l = l.most ≡ capped (deepest (map (λ x. item_depth x.item) (take l.part-index l.parts)))
