-- Trees over an operator list, and which of them arranges it.
use Rattle.std.specs.Prelude.{◌≡◌, ℕ, suc, ◌+◌, ◌<◌, ◌≢◌, Bool, true, false, ◌&&◌, ◌||◌, nat_lt, nat_eq, IsTrue, List, [], ◌∷◌, ◌++◌, take, drop, Option, Some, None, slice_get, Result, Ok, Err}
use Rattle.gh_fixity.specs.declared.item.Side.{Side}
use Rattle.gh_fixity.specs.declared.item.Side.TheVariants.{Left, Right, Neither}
use Rattle.gh_fixity.specs.declared.item.Fixity.{Fixity}
use Rattle.gh_fixity.specs.declared.item.Item.{Item}
use Rattle.gh_fixity.specs.declared.item.Item.TheVariants as item
use Rattle.gh_fixity.specs.declared.item.ArrangeFault.{ArrangeFault}
use Rattle.gh_fixity.specs.declared.item.ArrangeFault.TheVariants as fault
use Rattle.gh_fixity.specs.declared.item.Arranged.{Arranged, fold-Arranged}
use Rattle.gh_fixity.specs.declared.item.Arranged.TheOpen.{Arranged-F}

-- a tree over a list, by places in the list; an operator has its fixity
pub data Tree : Type 0 where
  leaf : ℕ → Tree
  minus : Tree → Tree
  pair : ℕ → Fixity → Tree → Tree → Tree

-- what stands in a list, or in a tree from left to right
pub data Mark : Type 0 where
  leaf_at : ℕ → Mark
  minus_sign : Mark
  op_at : ℕ → Fixity → Mark

-- the leaves, operators and minus signs of a tree, from left to right
abbrev pub in_order : Tree → List Mark
in_order (leaf p) = leaf_at p ∷ []
in_order (minus t) = minus_sign ∷ in_order t
in_order (pair p f a b) = in_order a ++ op_at p f ∷ in_order b

abbrev pub mark_of : ℕ → Item → Mark
mark_of p (item.Leaf n) = leaf_at p
mark_of p (item.Minus s) = minus_sign
mark_of p (item.Op f s) = op_at p f

-- the items of a list whose first place is p
abbrev pub marks_from : ℕ → List Item → List Mark
marks_from p [] = []
marks_from p (x ∷ xs) = mark_of p x ∷ marks_from (suc p) xs

-- a prefix minus is left-associative, at level 6
abbrev pub minus_fixity : Fixity
minus_fixity = record { side = Left; level = 6 }

-- the fixity of the root; a leaf has none
abbrev pub rank : Tree → Option Fixity
rank (leaf p) = None
rank (minus t) = Some minus_fixity
rank (pair p f a b) = Some f

abbrev pub is_left : Side → Bool
is_left Left = true
is_left Right = false
is_left Neither = false

abbrev pub is_right : Side → Bool
is_right Left = false
is_right Right = true
is_right Neither = false

-- whether a node of fixity g may be the left child of a node of fixity f: its level is higher, or the same where both are left-associative
abbrev pub may_be_left : Fixity → Fixity → Bool
may_be_left f g = nat_lt f.level g.level || (nat_eq f.level g.level && (is_left f.side && is_left g.side))

-- whether it may be the right child: its level is higher, or the same where both are right-associative
abbrev pub may_be_right : Fixity → Fixity → Bool
may_be_right f g = nat_lt f.level g.level || (nat_eq f.level g.level && (is_right f.side && is_right g.side))

-- a leaf may be any child
abbrev pub left_fits : Fixity → Option Fixity → Bool
left_fits f None = true
left_fits f (Some g) = may_be_left f g

abbrev pub right_fits : Fixity → Option Fixity → Bool
right_fits f None = true
right_fits f (Some g) = may_be_right f g

-- each child meets the condition on levels and sides; the child of a minus, which is not right-associative, has a level above 6
abbrev pub fits : Tree → Bool
fits (leaf p) = true
fits (minus t) = right_fits minus_fixity (rank t) && fits t
fits (pair p f a b) = (left_fits f (rank a) && right_fits f (rank b)) && (fits a && fits b)

-- the tree arranges the list
pub record Arranges (items : List Item) (tree : Tree) : Type 0 where
  pub in_list : in_order tree ≡ marks_from 0 items
  pub fitting : IsTrue (fits tree)

pub record IsArrangeable (items : List Item) : Type 0 where
  pub tree : Tree
  pub arranges : Arranges items tree

abbrev pub HasNone : List Item → Type 0
HasNone items = (tree : Tree) → Arranges items tree → ⊥

-- the lists that the grammar of expressions gives: operands with operators between them, where an operand is a leaf or a minus and a leaf
abbrev mutual
  pub is_list : List Item → Bool
  is_list (item.Leaf n ∷ xs) = is_rest xs
  is_list (item.Minus s ∷ (item.Leaf n ∷ xs)) = is_rest xs
  is_list xs = false

  pub is_rest : List Item → Bool
  is_rest [] = true
  is_rest (item.Op f s ∷ xs) = is_list xs
  is_rest xs = false

-- the fixity of an operator or of a minus
abbrev pub item_fixity : Item → Option Fixity
item_fixity (item.Leaf n) = None
item_fixity (item.Minus s) = Some minus_fixity
item_fixity (item.Op f s) = Some f

abbrev pub fixity_in : Option Item → Option Fixity
fixity_in None = None
fixity_in (Some x) = item_fixity x

abbrev pub level_in : Option Fixity → Option ℕ
level_in None = None
level_in (Some f) = Some f.level

-- the level of the operator or minus at a place
abbrev pub level_at : List Item → ℕ → Option ℕ
level_at items p = level_in (fixity_in (slice_get items p))

abbrev pub or_default : Option Fixity → Fixity
or_default None = record { side = Left; level = 9 }
or_default (Some f) = f

-- the tree that an answer stands for: each operator has the fixity that it has in the list
abbrev pub tree_step : List Item → Arranged-F Tree → Tree
tree_step items (Arranged-F.Leaf p) = leaf p
tree_step items (Arranged-F.Minus t) = minus t
tree_step items (Arranged-F.Pair p a b) = pair p (or_default (fixity_in (slice_get items p))) a b

abbrev pub tree_in : List Item → Arranged → Tree
tree_in items = fold-Arranged Tree (tree_step items)

-- the first leaf of a list, as a list
abbrev pub first_leaf : List Item → List Item
first_leaf [] = []
first_leaf (item.Leaf n ∷ xs) = item.Leaf n ∷ []
first_leaf (item.Minus s ∷ xs) = first_leaf xs
first_leaf (item.Op f s ∷ xs) = first_leaf xs

-- the list up to the leaf after a place, without what stands between them: a minus directly after an operator
abbrev pub up_to : List Item → ℕ → List Item
up_to items p = take (suc p) items ++ first_leaf (drop (suc p) items)

-- the other place of a clash at an operator of this level: the nearest earlier operator or minus of the level
pub record IsNearest (items : List Item) (level left right : ℕ) : Type 0 where
  pub before : left < right
  pub same : level_at items left ≡ Some level
  pub others : (p : ℕ) → left < p → p < right → level_at items p ≢ Some level

-- at a minus it is the place directly before
abbrev pub IsOther : List Item → Option Item → ℕ → ℕ → Type 0
IsOther items (Some (item.Op f s)) left right = IsNearest items f.level left right
IsOther items (Some (item.Minus s)) left right = left + 1 ≡ right
IsOther items (Some (item.Leaf n)) left right = ⊥
IsOther items None left right = ⊥

-- where a list clashes: `right` is the first operator or minus up to which no tree arranges the list
pub record Clashes (items : List Item) (left right : ℕ) : Type 0 where
  pub whole : HasNone items
  pub none : HasNone (up_to items right)
  pub earlier : (p level : ℕ) → p < right → level_at items p ≡ Some level → IsArrangeable (up_to items p)
  pub other : IsOther items (slice_get items right) left right

-- a fact about the places of a clash, where an answer is one
abbrev pub IfClash : {T : Type 0} → Result T ArrangeFault → (ℕ → ℕ → Type 0) → Type 0
IfClash (Ok t) P = Unit {0}
IfClash (Err (fault.Clash left right)) P = P left right
IfClash (Err fault.NoMemory) P = Unit {0}

-- the laws of arrangement: no list has two trees
abbrev pub HasOneTree : Type 0
HasOneTree = (items : List Item) (a b : Tree) → Arranges items a → Arranges items b → a ≡ b

-- nor two answers
abbrev pub HasOneAnswer : Type 0
HasOneAnswer = (items : List Item) (a b : Arranged) → Arranges items (tree_in items a) → Arranges items (tree_in items b) → a ≡ b
