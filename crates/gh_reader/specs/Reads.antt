-- What the code of a reader does: it gives what reading gives.
use Rattle.std.specs.Prelude.{◌≡◌, List, Some, None, Result, Ok, Err}
use Rattle.gh_tree.specs.declared.symbol.Sym.{Sym}
use Rattle.gh_tree.specs.Read.{Outcome}
use Rattle.gh_reader.specs.declared.stop.Stop.{Stop}
use Rattle.gh_reader.specs.declared.stop.Stop.TheVariants as stop

-- reading gives nothing, unless memory ran out
abbrev pub Fails : {A : Type 0} → Stop → Outcome A → Type 0
Fails stop.NoParse read = read ≡ None
Fails stop.NoMemory read = Unit {0}

-- what was returned, with the tokens left, is what reading gives, unless memory ran out
abbrev pub Reads : {A : Type 0} → Outcome A → Result A Stop → List Sym → Type 0
Reads read (Ok x) rest = read ≡ Some (x, rest)
Reads read (Err e) rest = Fails e read
