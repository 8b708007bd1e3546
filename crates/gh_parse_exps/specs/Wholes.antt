-- What the reader of expressions promises.
use Rattle.std.specs.Prelude.{◌≡◌, List, IsTrue}
use Rattle.gh_tree.specs.declared.symbol.Sym.{Sym}
use Rattle.gh_tree.specs.declared.expressions.Exp.{Exp}
use Rattle.gh_tree.specs.Print as printed
use Rattle.gh_reader.specs.declared.stop.Stop.{Stop}
use Rattle.gh_reader.specs.declared.stop.Stop.TheVariants as stop

-- these tokens are those of a well-formed expression
abbrev pub Spells : List Sym → Exp → Type 0
Spells ss t = IsTrue (printed.exp t).good × ((printed.exp t).flat ≡ ss)

-- no well-formed expression has these tokens
abbrev pub Refuses : Stop → List Sym → Type 0
Refuses stop.NoParse ss = (t : Exp) → Spells ss t → ⊥
Refuses stop.NoMemory ss = Unit {0}
