-- A whole list of tokens.
use Rattle.std.proofs.Common.{◌≡◌, true, ℕ, List, [], ◌++◌, length, sym, ap, ◌∙◌, arith, append-nil, ◌≤◌, refl}
use Rattle.gh_tree.specs.declared.symbol.Sym.{Sym}
use Rattle.gh_tree.specs.Read.{taken}
use Rattle.gh_tree.specs.ReadNames.{con_op_next}
use Rattle.gh_tree.proofs.Steps.{some_is}
use Rattle.gh_reader.specs.declared.stop.Stop.{Stop}
use Rattle.gh_reader.specs.declared.stop.Stop.TheVariants as stop
use Rattle.gh_reader.specs.Reads.{Fails}
use Rattle.gh_parse_lefts.specs.declared.sides.Left.{Left}
use Rattle.gh_parse_lefts.specs.Operators.{var_op_next}
use Rattle.gh_parse_lefts.specs.Lefts.{left_print, ends_left, left}
use Rattle.gh_parse_lefts.specs.Wholes.{Spells, Refuses}
use Rattle.gh_parse_lefts.proofs.Complete.{left_complete}
use Rattle.gh_parse_lefts.proofs.Sound.{left_sound}

nothing_ends : ends_left [] ≡ true
unfolding con_op_next var_op_next
nothing_ends = refl

pub spelled : (n : ℕ) (ss rest : List Sym) (t : Left) → left n ss ≡ taken t rest → rest ≡ [] → Spells ss t
spelled n ss rest t e end =
    let h = left_sound n ss t rest e in
    (h.good, sym (h.flat ∙ ap (λ us. (left_print t).flat ++ us) end ∙ append-nil (left_print t).flat))

pub read_back : (ss : List Sym) (t : Left) → Spells ss t → left (length ss) ss ≡ taken t []
read_back ss t s =
    let fits : length (left_print t).flat ≤ length ss = omega (arith, ap length s.1) in
    ap (left (length ss)) (sym s.1 ∙ sym (append-nil (left_print t).flat)) ∙ left_complete (length ss) t [] s.0 fits nothing_ends

pub refused : (e : Stop) (ss : List Sym) → Fails e (left (length ss) ss) → Refuses e ss
refused stop.NoParse ss none = λ t s. let back = read_back ss t s in absurd (cc)
refused stop.NoMemory ss none = tt

pub refused_rest : (ss rest : List Sym) (u : Left) → left (length ss) ss ≡ taken u rest → (rest ≡ [] → ⊥) → (t : Left) → Spells ss t → ⊥
refused_rest ss rest u e some t s = some (some_is u t rest [] (sym e ∙ read_back ss t s)).1

-- a list of tokens has one left side
pub one_left_is : (t u : Left) → (left_print t).good ≡ true → (left_print u).good ≡ true → (left_print t).flat ≡ (left_print u).flat → t ≡ u
one_left_is t u good good' same =
    let ss = (left_print u).flat in
    (some_is t u [] [] (sym (read_back ss t (good, same)) ∙ read_back ss u (good', refl))).0
