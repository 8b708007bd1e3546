-- What a node says of a list, tested on the node when it is there: its operands, operators and minus signs, from left to
-- right, are the list, and its shape is a tree of the definition of arrangement.
use Rattle.std.specs.Prelude.{◌≡◌, ℕ, ◌↔◌, List, [], ◌∷◌, ◌++◌, Some, None}
use Rattle.gh_base.specs.declared.place.Span.{Span}
use Rattle.gh_program.specs.declared.names.Occurrence.{Occurrence}
use Rattle.gh_fixity.specs.declared.item.Fixity.{Fixity}
use Rattle.gh_fixity.specs.declared.item.Item.{Item}
use Rattle.gh_fixity.specs.declared.part.Part.{Part}
use Rattle.gh_fixity.specs.declared.part.Part.TheVariants as part
use Rattle.gh_fixity.specs.Arrangement.{Tree, leaf, minus, pair, Arranges}
use Rattle.gh_fixity.specs.Built.{Nodes, built}
use Rattle.gh_fixity.specs.Settle.{settle, goes}

pub data Reads {N : Type 0} (B : Nodes N) : N → Tree → List Part → Type 0 where
  reads_leaf : (k : ℕ) (p : Part) (n : N) → B.leaf_of (Some p) ≡ Some n → Reads B n (leaf k) (p ∷ [])
  reads_minus : (s : Span) (n : N) (t : Tree) (ps : List Part) → Reads B n t ps → Reads B (B.negate s n) (minus t) (part.Minus s ∷ ps)
  reads_pair : (k : ℕ) (f : Fixity) (o : Occurrence) (a b : N) (t u : Tree) (ps qs : List Part) → Reads B a t ps → Reads B b u qs
      → Reads B (B.pair_of a o b) (pair k f t u) (ps ++ part.Op o ∷ qs)

-- the node that is built of a tree and a list has the tree's shape, and the parts that it took
pub record Took {N : Type 0} (B : Nodes N) (n : N) (t : Tree) (ps rest : List Part) : Type 0 where
  pub front : List Part
  pub reads : Reads B n t front
  pub all : ps ≡ front ++ rest

abbrev pub BuildsInOrder : {N : Type 0} → Nodes N → Type 0
BuildsInOrder {N} B = (t : Tree) (ps rest : List Part) (n : N) → built B t ps ≡ Some (n, rest) → Took B n t ps rest

-- a list settles with a tree exactly where that tree arranges it
abbrev pub SettlesWithTheTree : Type 0
SettlesWithTheTree = (items : List Item) (t : Tree) → (settle items None ≡ goes t) ↔ Arranges items t
