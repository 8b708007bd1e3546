-- What stands open: a list of entries, the topmost first.
use Rattle.std.specs.Prelude.{ℕ, Bool, true, false, nat_le, List, [], ◌∷◌, Option, Some, None}
use Rattle.gh_layout.specs.declared.entry.Block.{Block}
use Rattle.gh_layout.specs.declared.entry.Entry.{Entry}
use Rattle.gh_layout.specs.declared.entry.Entry.TheVariants.{Implicit, Explicit, Opened}
use Rattle.gh_layout.specs.declared.entry.Opening.{Opening}
use Rattle.gh_layout.specs.declared.entry.Opening.TheVariants as opening

-- the first of a list
abbrev pub first_of : {A : Type 0} → List A → Option A
first_of [] = None
first_of (x ∷ xs) = Some x

-- the column of the topmost block, 0 where there is none
abbrev pub block_column : List Entry → ℕ
block_column [] = 0
block_column (Implicit b ∷ stack) = b.column
block_column (Explicit i ∷ stack) = 0
block_column (Opened o i ∷ stack) = block_column stack

-- whether the topmost block is implicit and a column is not right of it
abbrev pub is_within : ℕ → List Entry → Bool
is_within n [] = false
is_within n (Implicit b ∷ stack) = nat_le n b.column
is_within n (Explicit i ∷ stack) = false
is_within n (Opened o i ∷ stack) = is_within n stack

-- a new item of a block
abbrev pub new_item : Block → Block
new_item b = record b { is_empty = true; has_equals = false }

-- a block whose item is not empty
abbrev pub filled_item : Block → Block
filled_item b = record b { is_empty = false }

-- a block whose item has an `=`
abbrev pub equals_item : Block → Block
equals_item b = record b { has_equals = true }

-- a new item of the topmost block begins
abbrev pub item_begun : List Entry → List Entry
item_begun [] = []
item_begun (Implicit b ∷ stack) = Implicit (new_item b) ∷ stack
item_begun (Explicit i ∷ stack) = Explicit i ∷ stack
item_begun (Opened o i ∷ stack) = Opened o i ∷ item_begun stack

-- the item of the topmost block is not empty
abbrev pub item_filled : List Entry → List Entry
item_filled [] = []
item_filled (Implicit b ∷ stack) = Implicit (filled_item b) ∷ stack
item_filled (Explicit i ∷ stack) = Explicit i ∷ stack
item_filled (Opened o i ∷ stack) = Opened o i ∷ item_filled stack

-- if a block is on top, its item has an `=`
abbrev pub equals_noted : List Entry → List Entry
equals_noted (Implicit b ∷ stack) = Implicit (equals_item b) ∷ stack
equals_noted stack = stack

-- the openings whose parts commas separate
abbrev pub is_bracket : Opening → Bool
is_bracket opening.Parenthesis = true
is_bracket opening.Bracket = true
is_bracket opening.Banana = true
is_bracket _ = false

-- whether such an opening stands below implicit blocks alone
abbrev pub in_brackets : List Entry → Bool
in_brackets [] = false
in_brackets (Implicit b ∷ stack) = in_brackets stack
in_brackets (Explicit i ∷ stack) = false
in_brackets (Opened o i ∷ stack) = is_bracket o

-- the first of two that is there
abbrev pub or_else : Option ℕ → Option ℕ → Option ℕ
or_else None o = o
or_else (Some i) o = Some i

-- the place of the lowest entry that is no implicit block
abbrev pub lowest : List Entry → Option ℕ
lowest [] = None
lowest (Implicit b ∷ stack) = lowest stack
lowest (Explicit i ∷ stack) = or_else (lowest stack) (Some i)
lowest (Opened o i ∷ stack) = or_else (lowest stack) (Some i)

-- whether two openings are the same
abbrev pub is_same : Opening → Opening → Bool
is_same opening.Parenthesis opening.Parenthesis = true
is_same opening.Bracket opening.Bracket = true
is_same opening.Banana opening.Banana = true
is_same opening.Let opening.Let = true
is_same opening.If opening.If = true
is_same opening.Then opening.Then = true
is_same opening.Case opening.Case = true
is_same _ _ = false
