-- The stack as it is kept, against its list of entries.
use Rattle.std.proofs.Common.{◌≡◌, ℕ, Bool, true, false, List, [], ◌∷◌, refl, ap}
use Rattle.gh_layout.specs.Entries.{block_column, is_within, item_begun, item_filled}
use Rattle.gh_layout.specs.Levels.{entries_of, is_kept, is_equal, level_column, level_within, new_item_of, filled_item_of}
use Rattle.gh_layout.specs.declared.entry.Entry.TheVariants as entry
use Rattle.gh_layout.specs.declared.pile.Kept.{Kept}
use Rattle.gh_layout.specs.declared.pile.Kept.TheVariants.{Opened, Below}
use Rattle.gh_layout.specs.declared.pile.Level.{Level}
use Rattle.gh_layout.specs.declared.pile.Level.TheVariants.{Ground, Explicit, Implicit}

pub is_equal-same : (b : Bool) → is_equal b b ≡ true
is_equal-same true = refl
is_equal-same false = refl

pub column_at_hand : (l : Level) (pile : List Kept) → is_kept l pile ≡ true → block_column (entries_of l pile) ≡ level_column l
column_at_hand Ground [] h = refl
column_at_hand (Explicit i) [] h = absurd (cc)
column_at_hand (Implicit b inside) [] h = absurd (cc)
column_at_hand l (Opened o i ∷ pile) h = column_at_hand l pile h
column_at_hand Ground (Below k ∷ pile) h = absurd (cc)
column_at_hand (Explicit i) (Below k ∷ pile) h = refl
column_at_hand (Implicit b inside) (Below k ∷ pile) h = refl

pub within_at_hand : (n : ℕ) (l : Level) (pile : List Kept) → is_kept l pile ≡ true → is_within n (entries_of l pile) ≡ level_within n l
within_at_hand n Ground [] h = refl
within_at_hand n (Explicit i) [] h = absurd (cc)
within_at_hand n (Implicit b inside) [] h = absurd (cc)
within_at_hand n l (Opened o i ∷ pile) h = within_at_hand n l pile h
within_at_hand n Ground (Below k ∷ pile) h = absurd (cc)
within_at_hand n (Explicit i) (Below k ∷ pile) h = refl
within_at_hand n (Implicit b inside) (Below k ∷ pile) h = refl

pub begun_at_hand : (l : Level) (pile : List Kept) → entries_of (new_item_of l) pile ≡ item_begun (entries_of l pile)
begun_at_hand l [] = refl
begun_at_hand l (Opened o i ∷ pile) = ap (λ s. entry.Opened o i ∷ s) (begun_at_hand l pile)
begun_at_hand Ground (Below k ∷ pile) = refl
begun_at_hand (Explicit i) (Below k ∷ pile) = refl
begun_at_hand (Implicit b inside) (Below k ∷ pile) = refl

pub kept_begun : (l : Level) (pile : List Kept) → is_kept (new_item_of l) pile ≡ is_kept l pile
kept_begun Ground [] = refl
kept_begun (Explicit i) [] = refl
kept_begun (Implicit b inside) [] = refl
kept_begun l (Opened o i ∷ pile) = kept_begun l pile
kept_begun Ground (Below k ∷ pile) = refl
kept_begun (Explicit i) (Below k ∷ pile) = refl
kept_begun (Implicit b inside) (Below k ∷ pile) = refl

pub filled_at_hand : (l : Level) (pile : List Kept) → entries_of (filled_item_of l) pile ≡ item_filled (entries_of l pile)
filled_at_hand l [] = refl
filled_at_hand l (Opened o i ∷ pile) = ap (λ s. entry.Opened o i ∷ s) (filled_at_hand l pile)
filled_at_hand Ground (Below k ∷ pile) = refl
filled_at_hand (Explicit i) (Below k ∷ pile) = refl
filled_at_hand (Implicit b inside) (Below k ∷ pile) = refl

pub kept_filled : (l : Level) (pile : List Kept) → is_kept (filled_item_of l) pile ≡ is_kept l pile
kept_filled Ground [] = refl
kept_filled (Explicit i) [] = refl
kept_filled (Implicit b inside) [] = refl
kept_filled l (Opened o i ∷ pile) = kept_filled l pile
kept_filled Ground (Below k ∷ pile) = refl
kept_filled (Explicit i) (Below k ∷ pile) = refl
kept_filled (Implicit b inside) (Below k ∷ pile) = refl
