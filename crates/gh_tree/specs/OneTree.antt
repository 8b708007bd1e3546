-- One tree of a file, by one tree of its header and of each of its items.
use Rattle.std.specs.Prelude.{◌≡◌, Option, IsTrue}
use Rattle.gh_tree.specs.declared.module_tree.Header.{Header}
use Rattle.gh_tree.specs.declared.module_tree.Item.{Item}
use Rattle.gh_tree.specs.Print.{header, item, HaveOneTree}

-- well-formed headers with the same tokens are one header; a file without one is among them
abbrev pub HaveOneHeader : Type 0
HaveOneHeader = (t u : Option Header) → IsTrue (header t).good → IsTrue (header u).good → (header t).flat ≡ (header u).flat → t ≡ u

-- well-formed items with the same tokens are one item
abbrev pub HaveOneItem : Type 0
HaveOneItem = (t u : Item) → IsTrue (item t).good → IsTrue (item u).good → (item t).flat ≡ (item u).flat → t ≡ u

-- where both hold, a file's laid tokens are those of one well-formed tree at most
abbrev pub HaveOneTreeByItems : Type 0
HaveOneTreeByItems = HaveOneHeader → HaveOneItem → HaveOneTree
