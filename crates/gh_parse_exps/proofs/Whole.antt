-- A whole list of tokens.
use Rattle.std.proofs.Common.{◌≡◌, ℕ, List, [], ◌++◌, length, refl, sym, ap, ◌∙◌, arith, append-nil, ◌≤◌}
use Rattle.gh_tree.specs.declared.symbol.Sym.{Sym}
use Rattle.gh_tree.specs.declared.expressions.Exp.{Exp}
use Rattle.gh_tree.specs.Print as printed
use Rattle.gh_tree.specs.Read.{taken}
use Rattle.gh_tree.proofs.Steps.{some_is}
use Rattle.gh_reader.specs.declared.stop.Stop.{Stop}
use Rattle.gh_reader.specs.declared.stop.Stop.TheVariants as stop
use Rattle.gh_reader.specs.Reads.{Fails}
use Rattle.gh_parse_lefts.proofs.Sound.{left_sound}
use Rattle.gh_parse_exps.specs.Exps.{knot}
use Rattle.gh_parse_exps.specs.Wholes.{Spells, Refuses}
use Rattle.gh_parse_exps.proofs.SoundKnot.{KnotSound}
use Rattle.gh_parse_exps.proofs.SoundExps.{knot_sound}
use Rattle.gh_parse_exps.proofs.Ends.{stops_exp}
use Rattle.gh_parse_exps.proofs.CompleteKnot.{knot_complete}

-- the knot with the reader of left sides
pub reads_trees : (n : ℕ) → KnotSound (knot n)
reads_trees n = knot_sound left_sound n

pub spelled : (n : ℕ) (ss rest : List Sym) (t : Exp) → (knot n).exp ss ≡ taken t rest → rest ≡ [] → Spells ss t
spelled n ss rest t e end =
    let h = (reads_trees n).exp ss t rest e in
    (h.good, sym (h.flat ∙ ap (λ us. (printed.exp t).flat ++ us) end ∙ append-nil (printed.exp t).flat))

pub read_back : (ss : List Sym) (t : Exp) → Spells ss t → (knot (length ss)).exp ss ≡ taken t []
read_back ss t s =
    let fits : length (printed.exp t).flat ≤ length ss = omega (arith, ap length s.1) in
    ap (knot (length ss)).exp (sym s.1 ∙ sym (append-nil (printed.exp t).flat)) ∙ (knot_complete (length ss)).exp t [] s.0 fits (stops_exp [] refl)

pub refused : (e : Stop) (ss : List Sym) → Fails e ((knot (length ss)).exp ss) → Refuses e ss
refused stop.NoParse ss none = λ t s. let back = read_back ss t s in absurd (cc)
refused stop.NoMemory ss none = tt

pub refused_rest : (ss rest : List Sym) (u : Exp) → (knot (length ss)).exp ss ≡ taken u rest → (rest ≡ [] → ⊥) → (t : Exp) → Spells ss t → ⊥
refused_rest ss rest u e some t s = some (some_is u t rest [] (sym e ∙ read_back ss t s)).1
