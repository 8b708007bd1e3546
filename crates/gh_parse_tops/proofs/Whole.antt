-- A whole list of tokens.
use Rattle.std.proofs.Common.{◌≡◌, ℕ, true, List, [], ◌++◌, length, refl, sym, ap, ◌∙◌, arith, append-nil, ◌≤◌, suc}
use Rattle.gh_tree.specs.declared.symbol.Sym.{Sym}
use Rattle.gh_tree.specs.declared.tops.Top.{Top}
use Rattle.gh_tree.specs.Print as printed
use Rattle.gh_tree.specs.Read.{taken}
use Rattle.gh_tree.proofs.Steps.{some_is}
use Rattle.gh_reader.specs.declared.stop.Stop.{Stop}
use Rattle.gh_reader.specs.declared.stop.Stop.TheVariants as stop
use Rattle.gh_reader.specs.Reads.{Fails}
use Rattle.gh_parse_exps.specs.Exps.{knot}
use Rattle.gh_parse_exps.proofs.Whole.{reads_trees}
use Rattle.gh_parse_exps.proofs.CompleteKnot.{knot_complete}
use Rattle.gh_parse_tops.specs.Tops.{top}
use Rattle.gh_parse_tops.specs.Whole.{Spells, Refuses}
use Rattle.gh_parse_tops.proofs.SoundTops.{top_sound}
use Rattle.gh_parse_tops.proofs.CompleteTops.{top_complete}

pub spelled : (n : ℕ) (ss rest : List Sym) (t : Top) → top (knot n) ss ≡ taken t rest → rest ≡ [] → Spells ss t
spelled n ss rest t e end =
    let h = top_sound (knot n) (reads_trees n) ss t rest e in
    (h.good, sym (h.flat ∙ ap (λ us. (printed.top t).flat ++ us) end ∙ append-nil (printed.top t).flat))

pub read_back : (ss : List Sym) (t : Top) → Spells ss t → top (knot (length ss)) ss ≡ taken t []
read_back ss t s =
    let fits : length (printed.top t).flat ≤ suc (length ss) = omega (arith, ap length s.1) in
    ap (top (knot (length ss))) (sym s.1 ∙ sym (append-nil (printed.top t).flat)) ∙ top_complete (knot (length ss)) (length ss) (knot_complete (length ss)) t s.0 fits

pub refused : (e : Stop) (ss : List Sym) → Fails e (top (knot (length ss)) ss) → Refuses e ss
refused stop.NoParse ss none = λ t s. let back = read_back ss t s in absurd (cc)
refused stop.NoMemory ss none = tt

pub refused_rest : (ss rest : List Sym) (u : Top) → top (knot (length ss)) ss ≡ taken u rest → (rest ≡ [] → ⊥) → (t : Top) → Spells ss t → ⊥
refused_rest ss rest u e some t s = some (some_is u t rest [] (sym e ∙ read_back ss t s)).1

-- a list of tokens has one declaration of the top
pub one_top_is : (t u : Top) → (printed.top t).good ≡ true → (printed.top u).good ≡ true → (printed.top t).flat ≡ (printed.top u).flat → t ≡ u
one_top_is t u good good' same =
    let ss = (printed.top u).flat in
    (some_is t u [] [] (sym (read_back ss t (good, same)) ∙ read_back ss u (good', refl))).0
