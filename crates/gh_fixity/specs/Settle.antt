-- What becomes of an operator list: its one tree, or the places at which it clashes, as functions. That they are those of
-- the definition of arrangement is a law.
use Rattle.std.specs.Prelude.{ℕ, zero, suc, ◌-◌, ◌==◌, Bool, false, cond, List, [], ◌∷◌, Option, Some, None, slice_get}
use Rattle.gh_fixity.specs.declared.item.Item.{Item}
use Rattle.gh_fixity.specs.declared.item.Item.TheVariants as item
use Rattle.gh_fixity.specs.Arrangement.{Tree, leaf, minus, pair, mark_of, level_at}
use Rattle.gh_fixity.specs.Stack.{Open, State, closed, step}

pub data Verdict : Type 0 where
  is_tree : Tree → Verdict
  stops_at : ℕ → Verdict

abbrev pub finished_by : ℕ → List Open → Option ℕ → Verdict
finished_by p gs None = stops_at p
finished_by p gs (Some q) = is_tree (closed gs (leaf q))

abbrev pub finished : ℕ → State → Verdict
finished p s = finished_by p s.0 s.1

abbrev pub or_stops : ℕ → (State → Verdict) → Option State → Verdict
or_stops p k None = stops_at p
or_stops p k (Some s) = k s

-- reading from a place on: the tree of the whole list, or the first place that cannot be read
abbrev pub read_from : State → ℕ → List Item → Verdict
read_from s p [] = finished p s
read_from s p (x ∷ xs) = or_stops p (λ u. read_from u (suc p) xs) (step s.0 s.1 (mark_of p x))

abbrev pub verdict : List Item → Verdict
verdict items = read_from ([], None) 0 items

abbrev pub is_level : Option ℕ → ℕ → Bool
is_level None n = false
is_level (Some m) n = m == n

-- the nearest place before another with an operator or a minus of a level
abbrev pub nearest_before : List Item → ℕ → ℕ → ℕ
nearest_before items level zero = 0
nearest_before items level (suc p) = cond (is_level (level_at items p) level) p (nearest_before items level p)

-- the other place of a clash
abbrev pub left_by : List Item → Option Item → ℕ → ℕ
left_by items None r = 0
left_by items (Some (item.Leaf n)) r = 0
left_by items (Some (item.Minus s)) r = r - 1
left_by items (Some (item.Op f s)) r = nearest_before items f.level r

abbrev pub left_of : List Item → ℕ → ℕ
left_of items r = left_by items (slice_get items r) r

-- the place of a tree's root; a minus that is a root stands first in its list
abbrev pub root_place : Tree → ℕ
root_place (leaf p) = p
root_place (minus t) = 0
root_place (pair p f a b) = p

pub data Settling : Type 0 where
  goes : Tree → Settling
  fails : ℕ → ℕ → Settling

abbrev pub rooted : Option ℕ → Tree → Settling
rooted None t = goes t
rooted (Some k) t = cond (root_place t == k) (goes t) (fails (root_place t) k)

abbrev pub settled_by : List Item → Option ℕ → Verdict → Settling
settled_by items root (is_tree t) = rooted root t
settled_by items root (stops_at r) = fails (left_of items r) r

-- a list of which a place has to be the root, or any may be; where only the root is wrong, it clashes with the one that should be it
abbrev pub settle : List Item → Option ℕ → Settling
settle items root = settled_by items root (verdict items)
