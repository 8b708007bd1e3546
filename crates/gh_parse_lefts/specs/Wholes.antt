-- What the reader of left sides promises.
use Rattle.std.specs.Prelude.{◌≡◌, ℕ, List, Option, Some, None, Result, Ok, Err, IsTrue}
use Rattle.std.specs.declared.alloc.Global.{Global}
use denote.Ref.{MutBor}
use Rattle.gh_tree.specs.declared.symbol.Sym.{Sym}
use Rattle.gh_reader.specs.Reads.{Reads}
use Rattle.gh_reader.specs.declared.stop.Stop.{Stop}
use Rattle.gh_reader.specs.declared.stop.Stop.TheVariants as stop
use Rattle.gh_parse_lefts.specs.declared.sides.Left.{Left}
use Rattle.gh_parse_lefts.specs.declared.sides.Side.{Side}
use Rattle.gh_parse_lefts.specs.Lefts.{left_print, side}

-- there is no value, unless memory ran out
abbrev pub Misses : {A : Type 0} → Stop → Option A → Type 0
Misses stop.NoParse x = x ≡ None
Misses stop.NoMemory x = Unit {0}

-- what was returned is the value, if there is one, unless memory ran out
abbrev pub Gives : {A : Type 0} → Option A → Result A Stop → Type 0
Gives x (Ok y) = x ≡ Some y
Gives x (Err e) = Misses e x

-- a function that reads left sides to a depth
pub record Nests (depth : ℕ) (pre : Global → MutBor (List Sym) → ℕ → Type 0)
    (post : Global → MutBor (List Sym) → ℕ → Result Side Stop → MutBor (List Sym) → Type 0) : Type 0 where
  pub callable : (alloc : Global) (old : MutBor (List Sym)) → pre alloc old depth
  pub reads : (alloc : Global) (old new : MutBor (List Sym)) (r : Result Side Stop) → post alloc old depth r new
      → Reads (side depth old.now) r new.now

-- these tokens are those of a well-formed left side
abbrev pub Spells : List Sym → Left → Type 0
Spells ss t = IsTrue (left_print t).good × ((left_print t).flat ≡ ss)

-- no well-formed left side has these tokens
abbrev pub Refuses : Stop → List Sym → Type 0
Refuses stop.NoParse ss = (t : Left) → Spells ss t → ⊥
Refuses stop.NoMemory ss = Unit {0}

-- well-formed left sides with the same laid tokens are one left side
abbrev pub HaveOneLeft : Type 0
HaveOneLeft = (t u : Left) → IsTrue (left_print t).good → IsTrue (left_print u).good → (left_print t).flat ≡ (left_print u).flat → t ≡ u
