-- The first item of a file that is no tree's, or whose tree is deeper than 2,000: all items before it are trees, and none of
-- these is deeper.
use Rattle.std.specs.Prelude.{ℕ, ◌≤◌, ◌<◌, Bool, false, List, ◌∷◌, Option}
use Rattle.gh_base.specs.declared.refusal.Refusal.{Refusal}
use Rattle.gh_base.specs.declared.refusal.Refusal.TheVariants as refusal
use Rattle.gh_tree.specs.declared.module_tree.Header.{Header}
use Rattle.gh_tree.specs.declared.module_tree.Item.{Item}
use Rattle.gh_tree.specs.Depth.{item_depth, header_depth}
use Rattle.gh_tree.specs.Items.{TopItem, item_span, IsHeader, IsItem, tops_behind}

-- of the items of a body, behind a declaration of the top or not
pub data BodyFault (limit : ℕ) : Bool → List TopItem → Refusal → Type 0 where
  item_has_no_tree : (tops : Bool) (i : TopItem) (is : List TopItem) → ((x : Item) → IsItem tops i x → ⊥) → BodyFault limit tops (i ∷ is) (refusal.NoParse (item_span i))
  item_is_too_deep : (tops : Bool) (i : TopItem) (is : List TopItem) (x : Item) → IsItem tops i x → limit < item_depth x → BodyFault limit tops (i ∷ is) (refusal.TooDeep (item_span i))
  item_is_tree : (tops : Bool) (i : TopItem) (is : List TopItem) (x : Item) (r : Refusal) → IsItem tops i x → item_depth x ≤ limit → BodyFault limit (tops_behind tops x) is r → BodyFault limit tops (i ∷ is) r

-- of all items of a file
pub data FaultWithin (limit : ℕ) : List TopItem → Refusal → Type 0 where
  header_has_no_tree : (i : TopItem) (is : List TopItem) → ((h : Option Header) → IsHeader i h → ⊥) → FaultWithin limit (i ∷ is) (refusal.NoParse (item_span i))
  header_is_too_deep : (i : TopItem) (is : List TopItem) (h : Option Header) → IsHeader i h → limit < header_depth h → FaultWithin limit (i ∷ is) (refusal.TooDeep (item_span i))
  header_is_tree : (i : TopItem) (is : List TopItem) (h : Option Header) (r : Refusal) → IsHeader i h → header_depth h ≤ limit → BodyFault limit false is r → FaultWithin limit (i ∷ is) r

abbrev pub FirstFault : List TopItem → Refusal → Type 0
FirstFault is r = FaultWithin 2000 is r
