-- The top items of a file, by its tree: the header, and each part of the body with the tokens that it is printed as.
use Rattle.std.specs.Prelude.{◌≡◌, List, ◌∷◌, map}
use Rattle.gh_tree.specs.declared.module_tree.Item.{Item}
use Rattle.gh_tree.specs.declared.module_tree.ModuleTree.{ModuleTree}
use Rattle.gh_tree.specs.Print.{header, item, flat}
use Rattle.gh_tree.specs.Items.{TopItem, ended, top_items}

-- the tokens of an item
abbrev pub printed_item : Item → TopItem
printed_item x = ended (item x).flat

-- the header, which may be empty, and behind it the items in their order
abbrev pub printed_items : ModuleTree → List TopItem
printed_items t = ended (header t.header).flat ∷ printed_item t.first ∷ map (λ x. printed_item x.item) t.others

-- what a file's tree prints is cut into these, be the tree well formed or not
abbrev pub HaveTheirItems : Type 0
HaveTheirItems = (t : ModuleTree) → top_items (flat t) ≡ printed_items t
