-- A whole list of tokens.
use Rattle.std.proofs.Common.{◌≡◌, List, [], ◌++◌, Option, Some, None, sym, ap, ◌∙◌, refl, append-nil}
use Rattle.gh_tree.specs.declared.symbol.Sym.{Sym}
use Rattle.gh_tree.specs.declared.module_tree.Header.{Header}
use Rattle.gh_tree.specs.Print as printed
use Rattle.gh_tree.specs.Read.{taken}
use Rattle.gh_tree.proofs.Steps.{some_is}
use Rattle.gh_reader.specs.declared.stop.Stop.{Stop}
use Rattle.gh_reader.specs.declared.stop.Stop.TheVariants as stop
use Rattle.gh_reader.specs.Reads.{Fails}
use Rattle.gh_parse_heads.specs.Header.{header, Spells, Refuses}
use Rattle.gh_parse_heads.proofs.Sound.{header_sound}
use Rattle.gh_parse_heads.proofs.Complete.{header_complete}

pub spelled : (ss rest : List Sym) (h : Header) → header ss ≡ taken h rest → rest ≡ [] → Spells ss (Some h)
spelled ss rest h e end =
    let t = header_sound ss h rest e in
    (t.good, sym (t.flat ∙ ap (λ us. (printed.header (Some h)).flat ++ us) end ∙ append-nil (printed.header (Some h)).flat))

pub spelled_none : (ss : List Sym) → ss ≡ [] → Spells ss None
spelled_none ss e = (refl, sym e)

read_back : (ss : List Sym) (h : Header) → Spells ss (Some h) → header ss ≡ taken h []
read_back ss h s = ap header (sym s.1 ∙ sym (append-nil (printed.header (Some h)).flat)) ∙ header_complete h [] s.0

pub refused : (e : Stop) (ss : List Sym) → (ss ≡ [] → ⊥) → Fails e (header ss) → Refuses e ss
refused stop.NoParse ss some none = refuse
  where
    refuse : (h : Option Header) → Spells ss h → ⊥
    refuse None s = some (sym s.1)
    refuse (Some h) s = let back = read_back ss h s in absurd (cc)
refused stop.NoMemory ss some none = tt

pub refused_rest : (ss rest : List Sym) (u : Header) → (ss ≡ [] → ⊥) → header ss ≡ taken u rest → (rest ≡ [] → ⊥) → (h : Option Header) → Spells ss h → ⊥
refused_rest ss rest u some e more None s = some (sym s.1)
refused_rest ss rest u some e more (Some h) s = more (some_is u h rest [] (sym e ∙ read_back ss h s)).1
