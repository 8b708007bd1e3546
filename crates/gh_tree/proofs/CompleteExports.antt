-- What is printed of a well-formed export list is read. So a list of tokens has one export list.
use Rattle.std.proofs.Common.{◌≡◌, ℕ, ◌≤◌, Bool, true, false, not, ◌&&◌, List, [], ◌∷◌, ◌++◌, length, map, Option, Some, None, refl, sym, ap, ◌∙◌, append_assoc, arith}
use Rattle.gh_base.specs.declared.names.NameId.{NameId}
use Rattle.gh_base.specs.declared.place.Span.{Span}
use Rattle.gh_tree.specs.declared.symbol.Kind.{Kind}
use Rattle.gh_tree.specs.declared.symbol.Kind.TheVariants as k
use Rattle.gh_tree.specs.declared.symbol.Sym.{Sym}
use Rattle.gh_tree.specs.declared.names.Name.{Name}
use Rattle.gh_tree.specs.declared.names.Var.{Var}
use Rattle.gh_tree.specs.declared.names.Var.TheVariants as n_Var
use Rattle.gh_tree.specs.declared.names.Con.{Con}
use Rattle.gh_tree.specs.declared.names.Con.TheVariants as n_Con
use Rattle.gh_tree.specs.declared.tops.Export.{Export}
use Rattle.gh_tree.specs.declared.tops.Export.TheVariants as v_Export
use Rattle.gh_tree.specs.declared.tops.ExportList.{ExportList}
use Rattle.gh_tree.specs.declared.tops.Exports.{Exports}
use Rattle.gh_tree.specs.declared.tops.NextCon.{NextCon}
use Rattle.gh_tree.specs.declared.tops.NextExport.{NextExport}
use Rattle.gh_tree.specs.declared.tops.Parts.{Parts}
use Rattle.gh_tree.specs.declared.tops.Parts.TheVariants as v_Parts
use Rattle.gh_tree.specs.Syms.{at}
use Rattle.gh_tree.specs.Print.{Print, print, spanned, flat_all, good_all, is_none, plain_con, optional}
use Rattle.gh_tree.specs.Print as printed
use Rattle.gh_tree.specs.Read.{and_then, taken, kind, after, covered, is_open, is_close, is_comma, comma_next}
use Rattle.gh_tree.specs.ReadExports.{any_var, symbol_any, sym_name, con, symbol_con, plain_con_sym, next_con, next_cons, all_parts, empty_parts, listed_parts, parts_opened, some_parts, any_parts, any_parts_by, con_export, module_name, module_export, export, next_export, goes_on, goes_on_by, next_exports, some_exports, export_list, export_list_by, last_comma, exports, ends_export}
use Rattle.gh_tree.proofs.Steps.{chain, both, not_is, spanned_span, some_is}
use Rattle.gh_tree.proofs.Many.{items_complete}

any_var_complete : (v : Var) (rest : List Sym) → any_var (printed.var v ++ rest) ≡ taken v rest
unfolding any_var symbol_any sym_name
any_var_complete (n_Var.Word n) rest = refl
any_var_complete (n_Var.Symbol a n b) rest = refl

word_complete : (span : Span) (q : Option NameId) (n : NameId) (rest : List Sym) → is_none q ≡ true → con (at (k.ConId q n) span ∷ rest) ≡ taken (n_Con.Word (record { span = span; qualifier = q; id = n })) rest
unfolding con
word_complete span None n rest e = refl
word_complete span (Some m) n rest e = absurd (cc)

symbol_complete : (a span : Span) (q : Option NameId) (n : NameId) (b : Span) (rest : List Sym) → is_none q ≡ true
    → con (at k.Open a ∷ at (k.ConSym q n) span ∷ at k.Close b ∷ rest) ≡ taken (n_Con.Symbol a (record { span = span; qualifier = q; id = n }) b) rest
unfolding con symbol_con plain_con_sym
symbol_complete a span None n b rest e = refl
symbol_complete a span (Some m) n b rest e = absurd (cc)

con_complete : (c : Con) (rest : List Sym) → plain_con c ≡ true → con (printed.con c ++ rest) ≡ taken c rest
con_complete (n_Con.Word n) rest good = word_complete n.span n.qualifier n.id rest good
con_complete (n_Con.Symbol a n b) rest good = symbol_complete a n.span n.qualifier n.id b rest good

next_con_complete : (x : NextCon) (rest : List Sym) → (printed.next_con x).good ≡ true → length (printed.next_con x).flat ≤ length (printed.next_con x).flat → true ≡ true → next_con ((printed.next_con x).flat ++ rest) ≡ taken x rest
unfolding next_con
next_con_complete x rest good fits end = chain _ (con_complete x.con rest good) refl

next_cons_complete : (xs : List NextCon) (rest : List Sym) → good_all (map printed.next_con xs) ≡ true → comma_next rest ≡ false → next_cons (flat_all (map printed.next_con xs) ++ rest) ≡ taken xs rest
unfolding next_cons
next_cons_complete xs rest good ends =
    items_complete printed.next_con comma_next next_con refl (λ ss. true) (length (flat_all (map printed.next_con xs))) (λ x rest g. refl)
    (λ x rest g f e. next_con_complete x rest g (omega arith) refl) (λ ss e. refl) xs rest good (omega arith) refl ends

-- ---- the constructors of a type

con_is_no_dots : (start : List Sym) (a : Span) (c : Con) (ss : List Sym) → parts_opened start a (printed.con c ++ ss) ≡ listed_parts start a (printed.con c ++ ss)
unfolding parts_opened
con_is_no_dots start a (n_Con.Word n) ss = refl
con_is_no_dots start a (n_Con.Symbol x n y) ss = refl

parts_none : (ss : List Sym) → ends_export ss ≡ true → any_parts ss ≡ taken None ss
unfolding any_parts
parts_none ss e = at_kind (kind ss) (not_is (is_open (kind ss)) e)
  where
    at_kind : (kind : Option Kind) → is_open kind ≡ false → any_parts_by kind ss ≡ taken None ss
    at_kind (Some k.Open) e = absurd (cc)
    at_kind _ e = refl

listed_complete : (s a : Span) (c : Con) (cs : List NextCon) (b : Span) (rest : List Sym) → (printed.parts (Some (v_Parts.Listed s a c cs b))).good ≡ true
    → any_parts ((printed.parts (Some (v_Parts.Listed s a c cs b))).flat ++ rest) ≡ taken (Some (v_Parts.Listed s a c cs b)) rest
unfolding any_parts some_parts parts_opened listed_parts
listed_complete s a c cs b rest good =
    let others = flat_all (map printed.next_con cs) in
    let flat : List Sym = at k.Open a ∷ (printed.con c ++ (others ++ at k.Close b ∷ [])) in
    let all_good : Bool = plain_con c && good_all (map printed.next_con cs) in
    let h = both all_good _ good in
    let g = both (plain_con c) (good_all (map printed.next_con cs)) h.0 in
    let tail : List Sym = others ++ (at k.Close b ∷ rest) in
    let start : List Sym = flat ++ rest in
    let read : parts_opened start a (printed.con c ++ tail) ≡ taken (v_Parts.Listed s a c cs b) rest =
    con_is_no_dots start a c tail
    ∙ chain _ (con_complete c tail g.0)
    (chain _ (next_cons_complete cs (at k.Close b ∷ rest) g.1 refl)
    (ap (λ z. taken (v_Parts.Listed z a c cs b) rest) (spanned_span s rest flat all_good good))) in
    ap (λ us. and_then (parts_opened start a us) (λ p rest. taken (Some p) rest))
    (append_assoc (printed.con c) (others ++ at k.Close b ∷ []) rest ∙ ap (λ us. printed.con c ++ us) (append_assoc others (at k.Close b ∷ []) rest))
    ∙ chain _ read refl

pub parts_complete : (p : Option Parts) (rest : List Sym) → (printed.parts p).good ≡ true → ends_export rest ≡ true → any_parts ((printed.parts p).flat ++ rest) ≡ taken p rest
unfolding any_parts some_parts parts_opened all_parts empty_parts listed_parts
parts_complete None rest good ends = parts_none rest ends
parts_complete (Some (v_Parts.All s a m b)) rest good ends = ap (λ z. taken (Some (v_Parts.All z a m b)) rest) (spanned_span s rest (at k.Open a ∷ at k.DotDot m ∷ at k.Close b ∷ []) true good)
parts_complete (Some (v_Parts.Empty s a b)) rest good ends = ap (λ z. taken (Some (v_Parts.Empty z a b)) rest) (spanned_span s rest (at k.Open a ∷ at k.Close b ∷ []) true good)
parts_complete (Some (v_Parts.Listed s a c cs b)) rest good ends = listed_complete s a c cs b rest good

-- ---- exports

module_complete : (s a span : Span) (q : Option NameId) (n : NameId) (rest : List Sym) → is_none q ≡ true → covered (at k.Module a ∷ at (k.ConId q n) span ∷ rest) rest ≡ s
    → export (at k.Module a ∷ at (k.ConId q n) span ∷ rest) ≡ taken (v_Export.Module s a (record { span = span; qualifier = q; id = n })) rest
unfolding export module_export module_name
module_complete s a span None n rest e is = ap (λ z. taken (v_Export.Module z a (record { span = span; qualifier = None; id = n })) rest) is
module_complete s a span (Some m) n rest e is = absurd (cc)

var_export : (v : Var) (rest : List Sym) → export (printed.var v ++ rest) ≡ taken (v_Export.Var v) rest
unfolding export
var_export (n_Var.Word n) rest = chain _ (any_var_complete (n_Var.Word n) rest) refl
var_export (n_Var.Symbol a n b) rest = chain _ (any_var_complete (n_Var.Symbol a n b) rest) refl

con_export_complete : (s : Span) (n : Name) (ps : Option Parts) (rest : List Sym) → (printed.export (v_Export.Con s n ps)).good ≡ true → ends_export rest ≡ true
    → export ((printed.export (v_Export.Con s n ps)).flat ++ rest) ≡ taken (v_Export.Con s n ps) rest
unfolding export con_export
con_export_complete s n ps rest good ends =
    let flat : List Sym = printed.con_id n ∷ (printed.parts ps).flat in
    let h = both (printed.parts ps).good _ good in
    chain _ (parts_complete ps rest h.0 ends) (ap (λ z. taken (v_Export.Con z n ps) rest) (spanned_span s rest flat (printed.parts ps).good good))

export_complete : (x : Export) (rest : List Sym) → (printed.export x).good ≡ true → ends_export rest ≡ true → export ((printed.export x).flat ++ rest) ≡ taken x rest
export_complete (v_Export.Var v) rest good ends = var_export v rest
export_complete (v_Export.Con s n ps) rest good ends = con_export_complete s n ps rest good ends
export_complete (v_Export.Module s a n) rest good ends =
    let h = both (printed.plain n) _ good in
    module_complete s a n.span n.qualifier n.id rest h.0 (spanned_span s rest (at k.Module a ∷ printed.con_id n ∷ []) (printed.plain n) good)

abbrev begins_export : List Sym → Bool
begins_export ss = not (is_close (kind ss)) && not (is_comma (kind ss))

export_starts : (x : Export) (rest : List Sym) → begins_export ((printed.export x).flat ++ rest) ≡ true
export_starts (v_Export.Var (n_Var.Word n)) rest = refl
export_starts (v_Export.Var (n_Var.Symbol a n b)) rest = refl
export_starts (v_Export.Con s n ps) rest = refl
export_starts (v_Export.Module s a n) rest = refl

next_starts : (x : NextExport) (rest : List Sym) → (printed.next_export x).good ≡ true → goes_on ((printed.next_export x).flat ++ rest) ≡ true
next_starts x rest good = (both (not (is_close (kind ((printed.export x.export).flat ++ rest)))) _ (export_starts x.export rest)).0

next_complete : (most : ℕ) (x : NextExport) (rest : List Sym) → (printed.next_export x).good ≡ true → length (printed.next_export x).flat ≤ most → ends_export rest ≡ true
    → next_export ((printed.next_export x).flat ++ rest) ≡ taken x rest
unfolding next_export
next_complete most x rest good fits ends = chain _ (export_complete x.export rest good ends) refl

comma_ends_by : (first second : Option Kind) → goes_on_by first second ≡ true → is_open first ≡ false
comma_ends_by (Some k.Comma) second e = refl
comma_ends_by _ second e = absurd (cc)

pub comma_ends : (ss : List Sym) → goes_on ss ≡ true → ends_export ss ≡ true
comma_ends ss e = ap not (comma_ends_by (kind ss) (kind (after ss)) e)

next_exports_complete : (xs : List NextExport) (rest : List Sym) → good_all (map printed.next_export xs) ≡ true → ends_export rest ≡ true → goes_on rest ≡ false
    → next_exports (flat_all (map printed.next_export xs) ++ rest) ≡ taken xs rest
unfolding next_exports
next_exports_complete xs rest good ends end =
    let most = length (flat_all (map printed.next_export xs)) in
    items_complete printed.next_export goes_on next_export refl ends_export most next_starts (next_complete most) comma_ends xs rest good (omega arith) ends end

nexts_end_export : (xs : List NextExport) (rest : List Sym) → ends_export rest ≡ true → ends_export (flat_all (map printed.next_export xs) ++ rest) ≡ true
nexts_end_export [] rest ends = ends
nexts_end_export (x ∷ xs) rest ends = refl

-- what stands behind the list: the last comma and the bracket
some_exports_next : (ss : List Sym) → begins_export ss ≡ true → export_list ss ≡ some_exports ss
unfolding export_list
some_exports_next ss e = at_kind (kind ss) e
  where
    at_kind : (kind : Option Kind) → (not (is_close kind) && not (is_comma kind)) ≡ true → export_list_by kind ss ≡ some_exports ss
    at_kind (Some k.Close) e = absurd (cc)
    at_kind (Some k.Comma) e = absurd (cc)
    at_kind _ e = refl

list_complete : (l : ExportList) (rest : List Sym) → (printed.export_list (Some l)).good ≡ true → ends_export rest ≡ true → goes_on rest ≡ false
    → export_list ((printed.export_list (Some l)).flat ++ rest) ≡ taken (Some l) rest
unfolding some_exports
list_complete l rest good ends end =
    let head = (printed.export l.first).flat in
    let others = flat_all (map printed.next_export l.others) in
    let g = both (printed.export l.first).good (good_all (map printed.next_export l.others)) good in
    let assoc = append_assoc head others rest in
    some_exports_next ((head ++ others) ++ rest) (ap begins_export assoc ∙ export_starts l.first (others ++ rest))
    ∙ ap some_exports assoc
    ∙ chain _ (export_complete l.first (others ++ rest) g.0 (nexts_end_export l.others rest ends))
    (chain _ (next_exports_complete l.others rest g.1 ends end) refl)

none_complete : (c : Option Span) (b : Span) (rest : List Sym) → export_list (optional c k.Comma ++ (at k.Close b ∷ rest)) ≡ taken None (optional c k.Comma ++ (at k.Close b ∷ rest))
unfolding export_list
none_complete None b rest = refl
none_complete (Some m) b rest = refl

pub end_stops : (c : Option Span) (b : Span) (rest : List Sym) → (ends_export (optional c k.Comma ++ (at k.Close b ∷ rest)) ≡ true) × (goes_on (optional c k.Comma ++ (at k.Close b ∷ rest)) ≡ false)
end_stops None b rest = (refl, refl)
end_stops (Some m) b rest = (refl, refl)

any_list_complete : (l : Option ExportList) (c : Option Span) (b : Span) (rest : List Sym) → (printed.export_list l).good ≡ true
    → export_list ((printed.export_list l).flat ++ (optional c k.Comma ++ (at k.Close b ∷ rest))) ≡ taken l (optional c k.Comma ++ (at k.Close b ∷ rest))
any_list_complete None c b rest good = none_complete c b rest
any_list_complete (Some l) c b rest good = let h = end_stops c b rest in list_complete l (optional c k.Comma ++ (at k.Close b ∷ rest)) good h.0 h.1

pub last_comma_complete : (c : Option Span) (b : Span) (rest : List Sym) → last_comma (optional c k.Comma ++ (at k.Close b ∷ rest)) ≡ taken c (at k.Close b ∷ rest)
unfolding last_comma
last_comma_complete None b rest = refl
last_comma_complete (Some m) b rest = refl

pub exports_complete : (x : Exports) (rest : List Sym) → (printed.exports (Some x)).good ≡ true → exports ((printed.exports (Some x)).flat ++ rest) ≡ taken x rest
unfolding exports
exports_complete x rest good =
    let inside = (printed.export_list x.list).flat in
    let end : List Sym = optional x.comma k.Comma ++ at k.Close x.close ∷ [] in
    let flat : List Sym = at k.Open x.open ∷ (inside ++ end) in
    let h = both (printed.export_list x.list).good _ good in
    let start : List Sym = flat ++ rest in
    let tail : List Sym = optional x.comma k.Comma ++ (at k.Close x.close ∷ rest) in
    let split : (inside ++ end) ++ rest ≡ inside ++ tail = append_assoc inside end rest ∙ ap (λ us. inside ++ us) (append_assoc (optional x.comma k.Comma) (at k.Close x.close ∷ []) rest) in
    chain _ (ap export_list split ∙ any_list_complete x.list x.comma x.close rest h.0)
    (chain _ (last_comma_complete x.comma x.close rest)
    (ap (λ z. taken (record x { span = z }) rest) (spanned_span x.span rest flat (printed.export_list x.list).good good)))

-- ---- a list of tokens has one export list
pub one_export_list_is : (x y : Exports) → (printed.exports (Some x)).good ≡ true → (printed.exports (Some y)).good ≡ true → (printed.exports (Some x)).flat ≡ (printed.exports (Some y)).flat → x ≡ y
one_export_list_is x y gx gy same =
    (some_is x y [] [] (sym (exports_complete x [] gx) ∙ ap (λ us. exports (us ++ [])) same ∙ exports_complete y [] gy)).0
