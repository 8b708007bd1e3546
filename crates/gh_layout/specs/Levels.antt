-- How the stack keeps its entries: the topmost block by itself, and in the place of each block the next one below it.
use Rattle.std.specs.Prelude.{ℕ, nat_le, Bool, true, false, ◌&&◌, List, [], ◌∷◌}
use Rattle.gh_layout.specs.Entries.{in_brackets, new_item, filled_item, equals_item}
use Rattle.gh_layout.specs.declared.entry.Entry.{Entry}
use Rattle.gh_layout.specs.declared.entry.Entry.TheVariants as entry
use Rattle.gh_layout.specs.declared.pile.Kept.{Kept}
use Rattle.gh_layout.specs.declared.pile.Kept.TheVariants as kept
use Rattle.gh_layout.specs.declared.pile.Level.{Level}
use Rattle.gh_layout.specs.declared.pile.Level.TheVariants as level

-- the entry of a block; the ground is none
abbrev pub entry_of : Level → Entry
entry_of level.Ground = entry.Explicit 0
entry_of (level.Explicit i) = entry.Explicit i
entry_of (level.Implicit b inside) = entry.Implicit b

-- the entries of a topmost block and a pile
abbrev pub entries_of : Level → List Kept → List Entry
entries_of l [] = []
entries_of l (kept.Opened o i ∷ pile) = entry.Opened o i ∷ entries_of l pile
entries_of l (kept.Below k ∷ pile) = entry_of l ∷ entries_of k pile

abbrev pub is_equal : Bool → Bool → Bool
is_equal true b = b
is_equal false true = false
is_equal false false = true

-- whether a block knows rightly if it stands in brackets
abbrev pub is_known : Level → List Entry → Bool
is_known level.Ground stack = false
is_known (level.Explicit i) stack = true
is_known (level.Implicit b inside) stack = is_equal inside (in_brackets stack)

abbrev pub is_ground : Level → Bool
is_ground level.Ground = true
is_ground _ = false

-- whether the ground lies below all, and each block knows rightly if it stands in brackets
abbrev pub is_kept : Level → List Kept → Bool
is_kept l [] = is_ground l
is_kept l (kept.Opened o i ∷ pile) = is_kept l pile
is_kept l (kept.Below k ∷ pile) = is_known l (entries_of k pile) && is_kept k pile

-- the column of an implicit block
abbrev pub level_column : Level → ℕ
level_column level.Ground = 0
level_column (level.Explicit i) = 0
level_column (level.Implicit b inside) = b.column

-- whether it is an implicit block and a column is not right of it
abbrev pub level_within : ℕ → Level → Bool
level_within n level.Ground = false
level_within n (level.Explicit i) = false
level_within n (level.Implicit b inside) = nat_le n b.column

abbrev pub new_item_of : Level → Level
new_item_of level.Ground = level.Ground
new_item_of (level.Explicit i) = level.Explicit i
new_item_of (level.Implicit b inside) = level.Implicit (new_item b) inside

abbrev pub filled_item_of : Level → Level
filled_item_of level.Ground = level.Ground
filled_item_of (level.Explicit i) = level.Explicit i
filled_item_of (level.Implicit b inside) = level.Implicit (filled_item b) inside

abbrev pub equals_item_of : Level → Level
equals_item_of level.Ground = level.Ground
equals_item_of (level.Explicit i) = level.Explicit i
equals_item_of (level.Implicit b inside) = level.Implicit (equals_item b) inside
