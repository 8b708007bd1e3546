-- A whole list of tokens.
use Rattle.std.proofs.Common.{◌≡◌, ℕ, List, [], ◌++◌, length, sym, ap, ◌∙◌, refl, arith, append-nil, ◌≤◌}
use Rattle.gh_tree.specs.declared.symbol.Sym.{Sym}
use Rattle.gh_tree.specs.declared.types.TypeExpr.{TypeExpr}
use Rattle.gh_tree.specs.Print as printed
use Rattle.gh_tree.specs.Read.{taken}
use Rattle.gh_tree.specs.ReadTypes.{type_expr}
use Rattle.gh_tree.proofs.Steps.{some_is}
use Rattle.gh_tree.proofs.CompleteTypes.{type_complete}
use Rattle.gh_reader.specs.declared.stop.Stop.{Stop}
use Rattle.gh_reader.specs.declared.stop.Stop.TheVariants as stop
use Rattle.gh_reader.specs.Reads.{Fails}
use Rattle.gh_parse_types.specs.Types.{Spells, Refuses}
use Rattle.gh_parse_types.proofs.Sound.{type_sound}

pub spelled : (n : ℕ) (ss rest : List Sym) (t : TypeExpr) → type_expr n ss ≡ taken t rest → rest ≡ [] → Spells ss t
spelled n ss rest t e end =
    let h = type_sound n ss t rest e in
    (h.good, sym (h.flat ∙ ap (λ us. (printed.type_expr t).flat ++ us) end ∙ append-nil (printed.type_expr t).flat))

pub read_back : (ss : List Sym) (t : TypeExpr) → Spells ss t → type_expr (length ss) ss ≡ taken t []
read_back ss t s =
    let fits : length (printed.type_expr t).flat ≤ length ss = omega (arith, ap length s.1) in
    ap (type_expr (length ss)) (sym s.1 ∙ sym (append-nil (printed.type_expr t).flat)) ∙ type_complete (length ss) t [] s.0 fits refl

pub refused : (e : Stop) (ss : List Sym) → Fails e (type_expr (length ss) ss) → Refuses e ss
refused stop.NoParse ss none = λ t s. let back = read_back ss t s in absurd (cc)
refused stop.NoMemory ss none = tt

pub refused_rest : (ss rest : List Sym) (u : TypeExpr) → type_expr (length ss) ss ≡ taken u rest → (rest ≡ [] → ⊥) → (t : TypeExpr) → Spells ss t → ⊥
refused_rest ss rest u e some t s = some (some_is u t rest [] (sym e ∙ read_back ss t s)).1
