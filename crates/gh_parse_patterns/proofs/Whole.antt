-- A whole list of tokens.
use Rattle.std.proofs.Common.{◌≡◌, ℕ, List, [], ◌++◌, length, sym, ap, ◌∙◌, arith, append-nil, ◌≤◌}
use Rattle.gh_tree.specs.declared.symbol.Sym.{Sym}
use Rattle.gh_tree.specs.declared.patterns.Pattern.{Pattern}
use Rattle.gh_tree.specs.Print as printed
use Rattle.gh_tree.specs.Read.{taken}
use Rattle.gh_tree.specs.ReadPatterns.{arg, pattern}
use Rattle.gh_tree.proofs.Steps.{some_is}
use Rattle.gh_tree.proofs.CompletePatterns.{arg_complete, pattern_complete, nothing_ends}
use Rattle.gh_reader.specs.declared.stop.Stop.{Stop}
use Rattle.gh_reader.specs.declared.stop.Stop.TheVariants as stop
use Rattle.gh_reader.specs.Reads.{Fails}
use Rattle.gh_parse_patterns.specs.Patterns.{Spells, Refuses}
use Rattle.gh_parse_patterns.proofs.Sound.{arg_sound, pattern_sound}

pub spelled : (n : ℕ) (ss rest : List Sym) (t : Pattern) → pattern (arg n) ss ≡ taken t rest → rest ≡ [] → Spells ss t
spelled n ss rest t e end =
    let h = pattern_sound (arg n) (arg_sound n) ss t rest e in
    (h.good, sym (h.flat ∙ ap (λ us. (printed.pattern t).flat ++ us) end ∙ append-nil (printed.pattern t).flat))

pub read_back : (ss : List Sym) (t : Pattern) → Spells ss t → pattern (arg (length ss)) ss ≡ taken t []
read_back ss t s =
    let fits : length (printed.pattern t).flat ≤ length ss = omega (arith, ap length s.1) in
    ap (pattern (arg (length ss))) (sym s.1 ∙ sym (append-nil (printed.pattern t).flat)) ∙ pattern_complete (length ss) (arg (length ss)) (arg_complete (length ss)) t [] s.0 fits nothing_ends

pub refused : (e : Stop) (ss : List Sym) → Fails e (pattern (arg (length ss)) ss) → Refuses e ss
refused stop.NoParse ss none = λ t s. let back = read_back ss t s in absurd (cc)
refused stop.NoMemory ss none = tt

pub refused_rest : (ss rest : List Sym) (u : Pattern) → pattern (arg (length ss)) ss ≡ taken u rest → (rest ≡ [] → ⊥) → (t : Pattern) → Spells ss t → ⊥
refused_rest ss rest u e some t s = some (some_is u t rest [] (sym e ∙ read_back ss t s)).1
