-- Groups of numbers that refer to one another, and their order.
use Rattle.std.specs.Prelude.{◌≡◌, ℕ, ◌<◌, ◌⊎◌, List, [], ◌∷◌, Some, slice_get}

-- the list has the item
pub record Has {A : Type 0} (xs : List A) (x : A) : Type 0 where
  pub at : ℕ
  pub is : slice_get xs at ≡ Some x

-- a number reaches itself, and what those reach that it refers to
pub data Reaches (edges : List (ℕ × ℕ)) : ℕ → ℕ → Type 0 where
  stay : {a : ℕ} → Reaches edges a a
  go : {a b c : ℕ} → Has edges (a, b) → Reaches edges b c → Reaches edges a c

abbrev pub Ascends : List ℕ → Type 0
Ascends [] = Unit {0}
Ascends (x ∷ []) = Unit {0}
Ascends (x ∷ (y ∷ ys)) = (x < y) × Ascends (y ∷ ys)

-- the number is in one of the first groups
pub record IsDone (groups : List (List ℕ)) (before v : ℕ) : Type 0 where
  pub place : ℕ
  pub earlier : place < before
  pub group : List ℕ
  pub is : slice_get groups place ≡ Some group
  pub has : Has group v

-- with that many groups done, each number that a group refers to is done or its own
abbrev pub IsReady : List (ℕ × ℕ) → List (List ℕ) → ℕ → List ℕ → Type 0
IsReady edges groups before group = (a b : ℕ) → Has edges (a, b) → Has group a → IsDone groups before b ⊎ Has group b

-- the groups of the numbers below a count
pub record IsGrouping (count : ℕ) (edges : List (ℕ × ℕ)) (groups : List (List ℕ)) : Type 0 where
  -- each number is in a group, and the groups have no other numbers
  pub every : (v : ℕ) → v < count → (place : ℕ) × (group : List ℕ) × (slice_get groups place ≡ Some group) × Has group v
  pub below : (place : ℕ) (group : List ℕ) (v : ℕ) → slice_get groups place ≡ Some group → Has group v → v < count
  pub once : (p q : ℕ) (g h : List ℕ) (v : ℕ) → slice_get groups p ≡ Some g → slice_get groups q ≡ Some h → Has g v → Has h v → p ≡ q
  -- two numbers share a group exactly where each reaches the other
  pub together : (place : ℕ) (group : List ℕ) (a b : ℕ) → slice_get groups place ≡ Some group → Has group a → Has group b → Reaches edges a b
  pub apart : (place : ℕ) (group : List ℕ) (a b : ℕ) → slice_get groups place ≡ Some group → Has group a → Reaches edges a b → Reaches edges b a → Has group b
  -- a group has a first member, and members ascend
  pub some : (place : ℕ) (group : List ℕ) → slice_get groups place ≡ Some group → (v : ℕ) × (slice_get group 0 ≡ Some v)
  pub ascend : (place : ℕ) (group : List ℕ) → slice_get groups place ≡ Some group → Ascends group
  -- a group comes after those that it refers to, and among those that are ready the one with the least member comes first
  pub ready : (place : ℕ) (group : List ℕ) → slice_get groups place ≡ Some group → IsReady edges groups place group
  pub first : (p q : ℕ) (g h : List ℕ) (v w : ℕ) → p < q → slice_get groups p ≡ Some g → slice_get groups q ≡ Some h → IsReady edges groups p h
      → slice_get g 0 ≡ Some v → slice_get h 0 ≡ Some w → v < w

-- the law of groups: they are determined
abbrev pub HasOneGrouping : Type 0
HasOneGrouping = (count : ℕ) (edges : List (ℕ × ℕ)) (a b : List (List ℕ)) → IsGrouping count edges a → IsGrouping count edges b → a ≡ b

-- each number that is referred to, or refers, is below the count
abbrev pub AreBelow : ℕ → List (ℕ × ℕ) → Type 0
AreBelow count [] = Unit {0}
AreBelow count (e ∷ edges) = (e.0 < count) × (e.1 < count) × AreBelow count edges
