-- What the reader of patterns promises.
use Rattle.std.specs.Prelude.{◌≡◌, ℕ, List, Result, IsTrue}
use Rattle.std.specs.declared.alloc.Global.{Global}
use denote.Ref.{MutBor}
use Rattle.gh_tree.specs.declared.symbol.Sym.{Sym}
use Rattle.gh_tree.specs.declared.patterns.ArgPattern.{ArgPattern}
use Rattle.gh_tree.specs.declared.patterns.Pattern.{Pattern}
use Rattle.gh_tree.specs.Print as printed
use Rattle.gh_tree.specs.ReadPatterns.{arg}
use Rattle.gh_reader.specs.Reads.{Reads}
use Rattle.gh_reader.specs.declared.stop.Stop.{Stop}
use Rattle.gh_reader.specs.declared.stop.Stop.TheVariants as stop

-- a function that reads arguments to a depth
pub record Nests (depth : ℕ) (pre : Global → MutBor (List Sym) → ℕ → Type 0)
    (post : Global → MutBor (List Sym) → ℕ → Result ArgPattern Stop → MutBor (List Sym) → Type 0) : Type 0 where
  pub callable : (alloc : Global) (old : MutBor (List Sym)) → pre alloc old depth
  pub reads : (alloc : Global) (old new : MutBor (List Sym)) (r : Result ArgPattern Stop) → post alloc old depth r new
      → Reads (arg depth old.now) r new.now

-- these tokens are those of a well-formed pattern
abbrev pub Spells : List Sym → Pattern → Type 0
Spells ss t = IsTrue (printed.pattern t).good × ((printed.pattern t).flat ≡ ss)

-- no well-formed pattern has these tokens
abbrev pub Refuses : Stop → List Sym → Type 0
Refuses stop.NoParse ss = (t : Pattern) → Spells ss t → ⊥
Refuses stop.NoMemory ss = Unit {0}
