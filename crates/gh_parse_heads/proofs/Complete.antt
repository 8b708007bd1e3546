-- What is printed of a well-formed header is read.
use Rattle.std.proofs.Common.{◌≡◌, Bool, true, ◌&&◌, List, [], ◌∷◌, ◌++◌, Option, Some, None, refl, ap, ◌∙◌, append_assoc}
use Rattle.gh_base.specs.declared.names.NameId.{NameId}
use Rattle.gh_base.specs.declared.place.Span.{Span}
use Rattle.gh_tree.specs.declared.symbol.Kind.TheVariants as k
use Rattle.gh_tree.specs.declared.symbol.Sym.{Sym}
use Rattle.gh_tree.specs.declared.module_tree.Header.{Header}
use Rattle.gh_tree.specs.declared.tops.Exports.{Exports}
use Rattle.gh_tree.specs.Syms.{at}
use Rattle.gh_tree.specs.Print.{is_none, plain}
use Rattle.gh_tree.specs.Print as printed
use Rattle.gh_tree.specs.Read.{taken}
use Rattle.gh_tree.specs.ReadExports.{module_name}
use Rattle.gh_tree.proofs.Steps.{chain, both, spanned_span}
use Rattle.gh_tree.proofs.CompleteExports.{exports_complete}
use Rattle.gh_parse_heads.specs.Header.{any_exports, header}

pub name_complete : (span : Span) (q : Option NameId) (n : NameId) (rest : List Sym) → is_none q ≡ true → module_name (at (k.ConId q n) span ∷ rest) ≡ taken (record { span = span; qualifier = q; id = n }) rest
unfolding module_name
name_complete span None n rest e = refl
name_complete span (Some m) n rest e = absurd (cc)

any_exports_complete : (x : Option Exports) (w : Span) (rest : List Sym) → (printed.exports x).good ≡ true → any_exports ((printed.exports x).flat ++ (at k.Where w ∷ rest)) ≡ taken x (at k.Where w ∷ rest)
unfolding any_exports
any_exports_complete None w rest good = refl
any_exports_complete (Some y) w rest good = chain _ (exports_complete y (at k.Where w ∷ rest) good) refl

pub header_complete : (h : Header) (rest : List Sym) → (printed.header (Some h)).good ≡ true → header ((printed.header (Some h)).flat ++ rest) ≡ taken h rest
unfolding header
header_complete h rest good =
    let inside = (printed.exports h.exports).flat in
    let end : List Sym = at k.Where h.begins ∷ [] in
    let flat : List Sym = at k.Module h.mark ∷ printed.con_id h.name ∷ (inside ++ end) in
    let all_good : Bool = plain h.name && (printed.exports h.exports).good in
    let g = both all_good _ good in
    let gs = both (plain h.name) (printed.exports h.exports).good g.0 in
    chain _ (name_complete h.name.span h.name.qualifier h.name.id ((inside ++ end) ++ rest) gs.0)
    (chain _ (ap any_exports (append_assoc inside end rest) ∙ any_exports_complete h.exports h.begins rest gs.1)
    (ap (λ z. taken (record h { span = z }) rest) (spanned_span h.span rest flat all_good good)))
