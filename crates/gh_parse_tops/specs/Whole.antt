-- What the reader of declarations of the top promises.
use Rattle.std.specs.Prelude.{◌≡◌, List, IsTrue}
use Rattle.gh_tree.specs.declared.symbol.Sym.{Sym}
use Rattle.gh_tree.specs.declared.tops.Top.{Top}
use Rattle.gh_tree.specs.Print as printed
use Rattle.gh_reader.specs.declared.stop.Stop.{Stop}
use Rattle.gh_reader.specs.declared.stop.Stop.TheVariants as stop

-- these tokens are those of a well-formed declaration of the top
abbrev pub Spells : List Sym → Top → Type 0
Spells ss t = IsTrue (printed.top t).good × ((printed.top t).flat ≡ ss)

-- no well-formed declaration of the top has these tokens
abbrev pub Refuses : Stop → List Sym → Type 0
Refuses stop.NoParse ss = (t : Top) → Spells ss t → ⊥
Refuses stop.NoMemory ss = Unit {0}

-- well-formed declarations of the top with the same laid tokens are one
abbrev pub HaveOneTop : Type 0
HaveOneTop = (t u : Top) → IsTrue (printed.top t).good → IsTrue (printed.top u).good → (printed.top t).flat ≡ (printed.top u).flat → t ≡ u
