-- A whole list of tokens, as an import.
use Rattle.std.proofs.Common.{◌≡◌, List, [], ◌++◌, sym, ap, ◌∙◌, append-nil}
use Rattle.gh_tree.specs.declared.symbol.Sym.{Sym}
use Rattle.gh_tree.specs.declared.tops.Import.{Import}
use Rattle.gh_tree.specs.Print as printed
use Rattle.gh_tree.specs.Read.{taken}
use Rattle.gh_tree.proofs.Steps.{some_is}
use Rattle.gh_reader.specs.declared.stop.Stop.{Stop}
use Rattle.gh_reader.specs.declared.stop.Stop.TheVariants as stop
use Rattle.gh_reader.specs.Reads.{Fails}
use Rattle.gh_parse_heads.specs.Imports.{import_item, Spells, Refuses}
use Rattle.gh_parse_heads.proofs.ImportsSound.{import_sound}
use Rattle.gh_parse_heads.proofs.ImportsComplete.{import_complete}

pub spelled : (ss rest : List Sym) (x : Import) → import_item ss ≡ taken x rest → rest ≡ [] → Spells ss x
spelled ss rest x e end =
    let t = import_sound ss x rest e in
    (t.good, sym (t.flat ∙ ap (λ us. (printed.import_item x).flat ++ us) end ∙ append-nil (printed.import_item x).flat))

read_back : (ss : List Sym) (x : Import) → Spells ss x → import_item ss ≡ taken x []
read_back ss x s = ap import_item (sym s.1 ∙ sym (append-nil (printed.import_item x).flat)) ∙ import_complete x s.0

pub refused : (e : Stop) (ss : List Sym) → Fails e (import_item ss) → Refuses e ss
refused stop.NoParse ss none = λ x s. let back = read_back ss x s in absurd (cc)
refused stop.NoMemory ss none = tt

pub refused_rest : (ss rest : List Sym) (u : Import) → import_item ss ≡ taken u rest → (rest ≡ [] → ⊥) → (x : Import) → Spells ss x → ⊥
refused_rest ss rest u e more x s = more (some_is u x rest [] (sym e ∙ read_back ss x s)).1
