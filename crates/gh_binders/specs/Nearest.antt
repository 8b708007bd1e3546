-- Variables by the nearest binder of their number.
use Rattle.std.specs.Prelude.{ℕ, ◌==◌, cond, map, reverse, length, List, [], ◌∷◌, Option, Some, None}

-- binders, each a number with what is known of it, the nearest first
abbrev pub Binds : Type 0 → Type 0
Binds X = List (ℕ × X)

-- how many binders are further out than the nearest one of a number
abbrev pub place_in : {X : Type 0} → Binds X → ℕ → Option ℕ
place_in [] x = None
place_in (b ∷ bs) x = cond (b.0 == x) (Some (length bs)) (place_in bs x)

-- what is known of the binder that so many are further out than
abbrev pub item_at : {X : Type 0} → Binds X → ℕ → Option X
item_at [] place = None
item_at (b ∷ bs) place = cond (place == length bs) (Some b.1) (item_at bs place)

-- what is known of the nearest binder of a number
abbrev pub item_of : {X : Type 0} → Binds X → ℕ → Option X
item_of [] x = None
item_of (b ∷ bs) x = cond (b.0 == x) (Some b.1) (item_of bs x)

-- an entry of the table: a number, what is known of it, and the place that its number had before
abbrev pub Entry : Type 0 → Type 0
Entry X = ℕ × X × Option ℕ

abbrev pub bind_of : {X : Type 0} → Entry X → ℕ × X
bind_of e = (e.0, e.1)

-- the binders of entries, of which the last is the nearest
abbrev pub binds_of : {X : Type 0} → List (Entry X) → Binds X
binds_of es = map bind_of (reverse es)

-- the places that entries keep, and those that their numbers have before them
abbrev pub before_of : {X : Type 0} → Entry X → Option ℕ
before_of e = e.2

abbrev pub befores : {X : Type 0} → List (Entry X) → List (Option ℕ)
befores [] = []
befores (e ∷ es) = place_in (map bind_of es) e.0 ∷ befores es
