-- What is read as an export list or a header is the print of a well-formed one.
use Rattle.std.proofs.Common.{◌≡◌, true, not, List, [], ◌∷◌, ◌++◌, length, map, Option, Some, None, refl, ap, ◌∙◌}
use Rattle.gh_base.specs.declared.place.Span.{Span}
use Rattle.gh_tree.specs.declared.symbol.Kind.{Kind}
use Rattle.gh_tree.specs.declared.symbol.Kind.TheVariants as k
use Rattle.gh_tree.specs.declared.symbol.Sym.{Sym}
use Rattle.gh_tree.specs.declared.names.Name.{Name}
use Rattle.gh_tree.specs.declared.names.Var.{Var}
use Rattle.gh_tree.specs.declared.names.Var.TheVariants as n_Var
use Rattle.gh_tree.specs.declared.names.Con.{Con}
use Rattle.gh_tree.specs.declared.names.Con.TheVariants as n_Con
use Rattle.gh_tree.specs.declared.module_tree.Header.{Header}
use Rattle.gh_tree.specs.declared.tops.Export.{Export}
use Rattle.gh_tree.specs.declared.tops.Export.TheVariants as v_Export
use Rattle.gh_tree.specs.declared.tops.ExportList.{ExportList}
use Rattle.gh_tree.specs.declared.tops.Exports.{Exports}
use Rattle.gh_tree.specs.declared.tops.NextCon.{NextCon}
use Rattle.gh_tree.specs.declared.tops.NextExport.{NextExport}
use Rattle.gh_tree.specs.declared.tops.Parts.{Parts}
use Rattle.gh_tree.specs.declared.tops.Parts.TheVariants as v_Parts
use Rattle.gh_tree.specs.Syms.{at}
use Rattle.gh_tree.specs.Print.{Print, print, flat_all, good_all, plain, plain_con, optional}
use Rattle.gh_tree.specs.Print as printed
use Rattle.gh_tree.specs.Read.{and_then, taken, kind, expect, covered, is_open, is_close, is_comma, comma_next}
use Rattle.gh_tree.specs.ReadExports.{any_var, any_var_by, symbol_any, sym_name, sym_by, con, con_by, symbol_con, plain_con_sym, plain_con_sym_by, next_con, next_cons, all_parts, empty_parts, listed_parts, parts_by, parts_opened, some_parts, any_parts, any_parts_by, con_export, module_name, module_name_by, module_export, export, export_by, next_export, goes_on, next_exports, some_exports, export_list, export_list_by, last_comma, last_comma_by, exports}
use Rattle.gh_tree.proofs.Steps.{bound, both, and_is, spanned_taken}
use Rattle.gh_tree.proofs.Many.{Taken, AllTaken, many_sound}
use Rattle.gh_reader.proofs.Sound.{SoundAt, built, expect_sound, close_sound, comma_first, between, between3}
use Rattle.gh_parse_heads.specs.Header.{is_module, is_where, any_exports, any_exports_by, header}

abbrev pub any_print : Var → Print
any_print v = print (printed.var v) true

abbrev any_sym_print : Name → Print
any_sym_print n = print (printed.var_sym n ∷ []) true

abbrev pub con_print : Con → Print
con_print c = print (printed.con c) (plain_con c)

abbrev con_sym_print : Name → Print
con_sym_print n = print (printed.con_sym n ∷ []) (plain n)

abbrev pub name_print : Name → Print
name_print n = print (printed.con_id n ∷ []) (plain n)

-- ---- names

sym_by_sound : (kind : Kind) (span : Span) (ss : List Sym) (x : Name) (rest : List Sym) → sym_by (Some kind) (at kind span ∷ ss) ≡ taken x rest → Taken any_sym_print (at kind span ∷ ss) x rest
sym_by_sound (k.VarSym q n) a ss x rest e = built any_sym_print (any_sym_print (record { span = a; qualifier = q; id = n })) _ ss _ x rest refl e refl refl
sym_by_sound _ a ss x rest e = absurd (cc)

sym_name_sound : SoundAt any_sym_print sym_name
unfolding sym_name
sym_name_sound [] x rest e = absurd (cc)
sym_name_sound (s ∷ ss) x rest e = sym_by_sound s.kind s.span ss x rest e

symbol_any_sound : (a : Span) (ss : List Sym) (x : Var) (rest : List Sym) → symbol_any a ss ≡ taken x rest → Taken any_print (at k.Open a ∷ ss) x rest
unfolding symbol_any
symbol_any_sound a ss x rest e =
    let h = bound (sym_name ss) _ x rest e in
    let i = bound (expect is_close h.mid) _ x rest h.then in
    let name = sym_name_sound ss h.x h.mid h.first in
    let last = close_sound h.mid i.x i.mid i.first in
    built any_print (any_print (n_Var.Symbol a h.x i.x)) _ i.mid _ x rest refl i.then (ap (λ us. at k.Open a ∷ us) (name.flat ∙ ap (λ us. printed.var_sym h.x ∷ us) last)) refl

any_by_sound : (kind : Kind) (span : Span) (ss : List Sym) (x : Var) (rest : List Sym) → any_var_by (Some kind) (at kind span ∷ ss) ≡ taken x rest → Taken any_print (at kind span ∷ ss) x rest
any_by_sound (k.VarId q n) a ss x rest e = built any_print (any_print (n_Var.Word (record { span = a; qualifier = q; id = n }))) _ ss _ x rest refl e refl refl
any_by_sound k.Open a ss x rest e = symbol_any_sound a ss x rest e
any_by_sound _ a ss x rest e = absurd (cc)

pub any_var_sound : SoundAt any_print any_var
unfolding any_var
any_var_sound [] x rest e = absurd (cc)
any_var_sound (s ∷ ss) x rest e = any_by_sound s.kind s.span ss x rest e

con_sym_by_sound : (kind : Kind) (span : Span) (ss : List Sym) (x : Name) (rest : List Sym) → plain_con_sym_by (Some kind) (at kind span ∷ ss) ≡ taken x rest → Taken con_sym_print (at kind span ∷ ss) x rest
con_sym_by_sound (k.ConSym None n) a ss x rest e = built con_sym_print (con_sym_print (record { span = a; qualifier = None; id = n })) _ ss _ x rest refl e refl refl
con_sym_by_sound _ a ss x rest e = absurd (cc)

con_sym_sound : SoundAt con_sym_print plain_con_sym
unfolding plain_con_sym
con_sym_sound [] x rest e = absurd (cc)
con_sym_sound (s ∷ ss) x rest e = con_sym_by_sound s.kind s.span ss x rest e

symbol_con_sound : (a : Span) (ss : List Sym) (x : Con) (rest : List Sym) → symbol_con a ss ≡ taken x rest → Taken con_print (at k.Open a ∷ ss) x rest
unfolding symbol_con
symbol_con_sound a ss x rest e =
    let h = bound (plain_con_sym ss) _ x rest e in
    let i = bound (expect is_close h.mid) _ x rest h.then in
    let name = con_sym_sound ss h.x h.mid h.first in
    let last = close_sound h.mid i.x i.mid i.first in
    built con_print (con_print (n_Con.Symbol a h.x i.x)) _ i.mid _ x rest refl i.then (ap (λ us. at k.Open a ∷ us) (name.flat ∙ ap (λ us. printed.con_sym h.x ∷ us) last)) name.good

con_by_sound : (kind : Kind) (span : Span) (ss : List Sym) (x : Con) (rest : List Sym) → con_by (Some kind) (at kind span ∷ ss) ≡ taken x rest → Taken con_print (at kind span ∷ ss) x rest
con_by_sound (k.ConId None n) a ss x rest e = built con_print (con_print (n_Con.Word (record { span = a; qualifier = None; id = n }))) _ ss _ x rest refl e refl refl
con_by_sound k.Open a ss x rest e = symbol_con_sound a ss x rest e
con_by_sound _ a ss x rest e = absurd (cc)

pub con_sound : SoundAt con_print con
unfolding con
con_sound [] x rest e = absurd (cc)
con_sound (s ∷ ss) x rest e = con_by_sound s.kind s.span ss x rest e

name_by_sound : (kind : Kind) (span : Span) (ss : List Sym) (x : Name) (rest : List Sym) → module_name_by (Some kind) (at kind span ∷ ss) ≡ taken x rest → Taken name_print (at kind span ∷ ss) x rest
name_by_sound (k.ConId None n) a ss x rest e = built name_print (name_print (record { span = a; qualifier = None; id = n })) _ ss _ x rest refl e refl refl
name_by_sound _ a ss x rest e = absurd (cc)

pub module_name_sound : SoundAt name_print module_name
unfolding module_name
module_name_sound [] x rest e = absurd (cc)
module_name_sound (s ∷ ss) x rest e = name_by_sound s.kind s.span ss x rest e

next_con_sound : (ss : List Sym) (x : NextCon) (rest : List Sym) → comma_next ss ≡ true → next_con ss ≡ taken x rest → Taken printed.next_con ss x rest
unfolding next_con
next_con_sound [] x rest b e = absurd (cc)
next_con_sound (s ∷ ss) x rest b e =
    let h = bound (con ss) _ x rest e in
    let one = con_sound ss h.x h.mid h.first in
    built printed.next_con (printed.next_con (record { mark = s.span; con = h.x })) (s ∷ ss) h.mid _ x rest refl h.then (comma_first s ss b ∙ ap (λ us. at k.Comma s.span ∷ us) one.flat) one.good

next_cons_sound : (ss : List Sym) (xs : List NextCon) (rest : List Sym) → next_cons ss ≡ taken xs rest → AllTaken printed.next_con ss xs rest
unfolding next_cons
next_cons_sound ss xs rest e = many_sound printed.next_con comma_next next_con next_con_sound (length ss) ss xs rest e

-- ---- the constructors of a type

abbrev parts_print : Parts → Print
parts_print p = printed.parts (Some p)

all_parts_sound : (a m : Span) (ss : List Sym) (x : Parts) (rest : List Sym) → all_parts (at k.Open a ∷ at k.DotDot m ∷ ss) a (at k.DotDot m ∷ ss) ≡ taken x rest → Taken parts_print (at k.Open a ∷ at k.DotDot m ∷ ss) x rest
unfolding all_parts
all_parts_sound a m ss x rest e =
    let start : List Sym = at k.Open a ∷ at k.DotDot m ∷ ss in
    let h = bound (expect is_close ss) _ x rest e in
    let last = close_sound ss h.x h.mid h.first in
    let flat : start ≡ at k.Open a ∷ at k.DotDot m ∷ at k.Close h.x ∷ h.mid = ap (λ us. at k.Open a ∷ at k.DotDot m ∷ us) last in
    built parts_print (parts_print (v_Parts.All (covered start h.mid) a m h.x)) start h.mid _ x rest refl h.then flat (spanned_taken start h.mid (at k.Open a ∷ at k.DotDot m ∷ at k.Close h.x ∷ []) true flat refl)

empty_parts_sound : (a b : Span) (ss : List Sym) (x : Parts) (rest : List Sym) → empty_parts (at k.Open a ∷ at k.Close b ∷ ss) a (at k.Close b ∷ ss) ≡ taken x rest → Taken parts_print (at k.Open a ∷ at k.Close b ∷ ss) x rest
unfolding empty_parts
empty_parts_sound a b ss x rest e =
    let start : List Sym = at k.Open a ∷ at k.Close b ∷ ss in
    built parts_print (parts_print (v_Parts.Empty (covered start ss) a b)) start ss _ x rest refl e refl (spanned_taken start ss (at k.Open a ∷ at k.Close b ∷ []) true refl refl)

listed_parts_sound : (a : Span) (ss : List Sym) (x : Parts) (rest : List Sym) → listed_parts (at k.Open a ∷ ss) a ss ≡ taken x rest → Taken parts_print (at k.Open a ∷ ss) x rest
unfolding listed_parts
listed_parts_sound a ss x rest e =
    let start : List Sym = at k.Open a ∷ ss in
    let g = bound (con ss) _ x rest e in
    let h = bound (next_cons g.mid) _ x rest g.then in
    let i = bound (expect is_close h.mid) _ x rest h.then in
    let first = con_sound ss g.x g.mid g.first in
    let others = next_cons_sound g.mid h.x h.mid h.first in
    let last = close_sound h.mid i.x i.mid i.first in
    let more : List Sym = flat_all (map printed.next_con h.x) ++ at k.Close i.x ∷ [] in
    let flat : start ≡ at k.Open a ∷ ((printed.con g.x ++ more) ++ i.mid) =
    ap (λ us. at k.Open a ∷ us) (between3 ss g.mid (printed.con g.x) more i.mid first.flat (between g.mid h.mid (flat_all (map printed.next_con h.x)) k.Close i.x i.mid others.flat last)) in
    built parts_print (parts_print (v_Parts.Listed (covered start i.mid) a g.x h.x i.x)) start i.mid _ x rest refl i.then flat (spanned_taken start i.mid _ _ flat (and_is first.good others.good))

parts_by_sound : (kind : Kind) (a span : Span) (ss : List Sym) (x : Parts) (rest : List Sym) → parts_by (Some kind) (at k.Open a ∷ at kind span ∷ ss) a (at kind span ∷ ss) ≡ taken x rest → Taken parts_print (at k.Open a ∷ at kind span ∷ ss) x rest
parts_by_sound k.DotDot a m ss x rest e = all_parts_sound a m ss x rest e
parts_by_sound k.Close a b ss x rest e = empty_parts_sound a b ss x rest e
parts_by_sound kind a m ss x rest e = listed_parts_sound a (at kind m ∷ ss) x rest e

parts_opened_sound : (a : Span) (ss : List Sym) (x : Parts) (rest : List Sym) → parts_opened (at k.Open a ∷ ss) a ss ≡ taken x rest → Taken parts_print (at k.Open a ∷ ss) x rest
unfolding parts_opened
parts_opened_sound a [] x rest e = listed_parts_sound a [] x rest e
parts_opened_sound a (s ∷ ss) x rest e = parts_by_sound s.kind a s.span ss x rest e

some_parts_sound : (a : Span) (ss : List Sym) (x : Option Parts) (rest : List Sym) → some_parts (at k.Open a ∷ ss) ≡ taken x rest → Taken printed.parts (at k.Open a ∷ ss) x rest
unfolding some_parts
some_parts_sound a ss x rest e =
    let h = bound (parts_opened (at k.Open a ∷ ss) a ss) _ x rest e in
    let p = parts_opened_sound a ss h.x h.mid h.first in
    built printed.parts (parts_print h.x) _ h.mid _ x rest refl h.then p.flat p.good

no_parts_sound : (ss : List Sym) (x : Option Parts) (rest : List Sym) → taken None ss ≡ taken x rest → Taken printed.parts ss x rest
no_parts_sound ss x rest e = built printed.parts (printed.parts None) ss ss None x rest refl e refl refl

any_parts_by_sound : (kind : Kind) (span : Span) (ss : List Sym) (x : Option Parts) (rest : List Sym) → any_parts_by (Some kind) (at kind span ∷ ss) ≡ taken x rest → Taken printed.parts (at kind span ∷ ss) x rest
any_parts_by_sound k.Open a ss x rest e = some_parts_sound a ss x rest e
any_parts_by_sound kind a ss x rest e = no_parts_sound (at kind a ∷ ss) x rest e

pub any_parts_sound : SoundAt printed.parts any_parts
unfolding any_parts
any_parts_sound [] x rest e = no_parts_sound [] x rest e
any_parts_sound (s ∷ ss) x rest e = any_parts_by_sound s.kind s.span ss x rest e

-- ---- exports

con_export_sound : (n : Name) (ss : List Sym) (x : Export) (rest : List Sym) → con_export (printed.con_id n ∷ ss) n ss ≡ taken x rest → Taken printed.export (printed.con_id n ∷ ss) x rest
unfolding con_export
con_export_sound n ss x rest e =
    let start : List Sym = printed.con_id n ∷ ss in
    let h = bound (any_parts ss) _ x rest e in
    let p = any_parts_sound ss h.x h.mid h.first in
    let flat : start ≡ printed.con_id n ∷ ((printed.parts h.x).flat ++ h.mid) = ap (λ us. printed.con_id n ∷ us) p.flat in
    built printed.export (printed.export (v_Export.Con (covered start h.mid) n h.x)) start h.mid _ x rest refl h.then flat (spanned_taken start h.mid (printed.con_id n ∷ (printed.parts h.x).flat) (printed.parts h.x).good flat p.good)

module_export_sound : (a : Span) (ss : List Sym) (x : Export) (rest : List Sym) → module_export (at k.Module a ∷ ss) a ss ≡ taken x rest → Taken printed.export (at k.Module a ∷ ss) x rest
unfolding module_export
module_export_sound a ss x rest e =
    let start : List Sym = at k.Module a ∷ ss in
    let h = bound (module_name ss) _ x rest e in
    let n = module_name_sound ss h.x h.mid h.first in
    let flat : start ≡ at k.Module a ∷ printed.con_id h.x ∷ h.mid = ap (λ us. at k.Module a ∷ us) n.flat in
    built printed.export (printed.export (v_Export.Module (covered start h.mid) a h.x)) start h.mid _ x rest refl h.then flat (spanned_taken start h.mid (at k.Module a ∷ printed.con_id h.x ∷ []) (plain h.x) flat n.good)

var_export_sound : (ss : List Sym) (x : Export) (rest : List Sym) → and_then (any_var ss) (λ v rest. taken (v_Export.Var v) rest) ≡ taken x rest → Taken printed.export ss x rest
var_export_sound ss x rest e =
    let h = bound (any_var ss) _ x rest e in
    let v = any_var_sound ss h.x h.mid h.first in
    built printed.export (printed.export (v_Export.Var h.x)) ss h.mid _ x rest refl h.then v.flat refl

export_by_sound : (kind : Kind) (span : Span) (ss : List Sym) (x : Export) (rest : List Sym) → export_by (Some kind) (at kind span ∷ ss) (at kind span ∷ ss) ≡ taken x rest → Taken printed.export (at kind span ∷ ss) x rest
export_by_sound (k.ConId q n) a ss x rest e = con_export_sound (record { span = a; qualifier = q; id = n }) ss x rest e
export_by_sound k.Module a ss x rest e = module_export_sound a ss x rest e
export_by_sound kind a ss x rest e = var_export_sound (at kind a ∷ ss) x rest e

export_sound : SoundAt printed.export export
unfolding export
export_sound [] x rest e = var_export_sound [] x rest e
export_sound (s ∷ ss) x rest e = export_by_sound s.kind s.span ss x rest e

next_export_sound : (ss : List Sym) (x : NextExport) (rest : List Sym) → goes_on ss ≡ true → next_export ss ≡ taken x rest → Taken printed.next_export ss x rest
unfolding next_export
next_export_sound [] x rest b e = absurd (cc)
next_export_sound (s ∷ ss) x rest b e =
    let h = bound (export ss) _ x rest e in
    let one = export_sound ss h.x h.mid h.first in
    let comma = both (is_comma (Some s.kind)) (not (is_close (kind ss))) b in
    built printed.next_export (printed.next_export (record { mark = s.span; export = h.x })) (s ∷ ss) h.mid _ x rest refl h.then (comma_first s ss comma.0 ∙ ap (λ us. at k.Comma s.span ∷ us) one.flat) one.good

next_exports_sound : (ss : List Sym) (xs : List NextExport) (rest : List Sym) → next_exports ss ≡ taken xs rest → AllTaken printed.next_export ss xs rest
unfolding next_exports
next_exports_sound ss xs rest e = many_sound printed.next_export goes_on next_export next_export_sound (length ss) ss xs rest e

some_exports_sound : (ss : List Sym) (x : Option ExportList) (rest : List Sym) → some_exports ss ≡ taken x rest → Taken printed.export_list ss x rest
unfolding some_exports
some_exports_sound ss x rest e =
    let h = bound (export ss) _ x rest e in
    let i = bound (next_exports h.mid) _ x rest h.then in
    let first = export_sound ss h.x h.mid h.first in
    let others = next_exports_sound h.mid i.x i.mid i.first in
    built printed.export_list (printed.export_list (Some (record { first = h.x; others = i.x }))) ss i.mid _ x rest refl i.then
    (between3 ss h.mid (printed.export h.x).flat (flat_all (map printed.next_export i.x)) i.mid first.flat others.flat) (and_is first.good others.good)

no_exports_sound : (ss : List Sym) (x : Option ExportList) (rest : List Sym) → taken None ss ≡ taken x rest → Taken printed.export_list ss x rest
no_exports_sound ss x rest e = built printed.export_list (printed.export_list None) ss ss None x rest refl e refl refl

list_by_sound : (kind : Kind) (span : Span) (ss : List Sym) (x : Option ExportList) (rest : List Sym) → export_list_by (Some kind) (at kind span ∷ ss) ≡ taken x rest → Taken printed.export_list (at kind span ∷ ss) x rest
list_by_sound k.Close a ss x rest e = no_exports_sound (at k.Close a ∷ ss) x rest e
list_by_sound k.Comma a ss x rest e = no_exports_sound (at k.Comma a ∷ ss) x rest e
list_by_sound kind a ss x rest e = some_exports_sound (at kind a ∷ ss) x rest e

export_list_sound : SoundAt printed.export_list export_list
unfolding export_list
export_list_sound [] x rest e = some_exports_sound [] x rest e
export_list_sound (s ∷ ss) x rest e = list_by_sound s.kind s.span ss x rest e

abbrev pub comma_print : Option Span → Print
comma_print c = print (optional c k.Comma) true

no_comma_sound : (ss : List Sym) (x : Option Span) (rest : List Sym) → taken None ss ≡ taken x rest → Taken comma_print ss x rest
no_comma_sound ss x rest e = built comma_print (comma_print None) ss ss None x rest refl e refl refl

comma_by_sound : (kind : Kind) (span : Span) (ss : List Sym) (x : Option Span) (rest : List Sym) → last_comma_by (Some kind) (at kind span ∷ ss) ≡ taken x rest → Taken comma_print (at kind span ∷ ss) x rest
comma_by_sound k.Comma a ss x rest e = built comma_print (comma_print (Some a)) _ ss (Some a) x rest refl e refl refl
comma_by_sound kind a ss x rest e = no_comma_sound (at kind a ∷ ss) x rest e

pub last_comma_sound : SoundAt comma_print last_comma
unfolding last_comma
last_comma_sound [] x rest e = no_comma_sound [] x rest e
last_comma_sound (s ∷ ss) x rest e = comma_by_sound s.kind s.span ss x rest e

pub open_is : (x : Kind) → is_open (Some x) ≡ true → x ≡ k.Open
open_is k.Open e = refl
open_is _ e = absurd (cc)

abbrev exports_print : Exports → Print
exports_print x = printed.exports (Some x)

pub exports_sound : SoundAt exports_print exports
unfolding exports
exports_sound ss x rest e =
    let f = bound (expect is_open ss) _ x rest e in
    let g = bound (export_list f.mid) _ x rest f.then in
    let h = bound (last_comma g.mid) _ x rest g.then in
    let i = bound (expect is_close h.mid) _ x rest h.then in
    let first = expect_sound is_open k.Open refl open_is ss f.x f.mid f.first in
    let list = export_list_sound f.mid g.x g.mid g.first in
    let comma = last_comma_sound g.mid h.x h.mid h.first in
    let last = close_sound h.mid i.x i.mid i.first in
    let end : List Sym = optional h.x k.Comma ++ at k.Close i.x ∷ [] in
    let flat : ss ≡ at k.Open f.x ∷ (((printed.export_list g.x).flat ++ end) ++ i.mid) =
    first ∙ ap (λ us. at k.Open f.x ∷ us) (between3 f.mid g.mid (printed.export_list g.x).flat end i.mid list.flat (between g.mid h.mid (optional h.x k.Comma) k.Close i.x i.mid comma.flat last)) in
    built exports_print (exports_print (record { span = covered ss i.mid; «open» = f.x; list = g.x; comma = h.x; close = i.x })) ss i.mid _ x rest refl i.then flat (spanned_taken ss i.mid _ _ flat list.good)

-- ---- headers

no_list_sound : (ss : List Sym) (x : Option Exports) (rest : List Sym) → taken None ss ≡ taken x rest → Taken printed.exports ss x rest
no_list_sound ss x rest e = built printed.exports (printed.exports None) ss ss None x rest refl e refl refl

some_list_sound : (ss : List Sym) (x : Option Exports) (rest : List Sym) → and_then (exports ss) (λ y rest. taken (Some y) rest) ≡ taken x rest → Taken printed.exports ss x rest
some_list_sound ss x rest e =
    let h = bound (exports ss) _ x rest e in
    let y = exports_sound ss h.x h.mid h.first in
    built printed.exports (exports_print h.x) ss h.mid (Some h.x) x rest refl h.then y.flat y.good

any_exports_by_sound : (kind : Kind) (span : Span) (ss : List Sym) (x : Option Exports) (rest : List Sym) → any_exports_by (Some kind) (at kind span ∷ ss) ≡ taken x rest → Taken printed.exports (at kind span ∷ ss) x rest
any_exports_by_sound k.Open a ss x rest e = some_list_sound (at k.Open a ∷ ss) x rest e
any_exports_by_sound kind a ss x rest e = no_list_sound (at kind a ∷ ss) x rest e

any_exports_sound : SoundAt printed.exports any_exports
unfolding any_exports
any_exports_sound [] x rest e = no_list_sound [] x rest e
any_exports_sound (s ∷ ss) x rest e = any_exports_by_sound s.kind s.span ss x rest e

module_is : (x : Kind) → is_module (Some x) ≡ true → x ≡ k.Module
module_is k.Module e = refl
module_is _ e = absurd (cc)

where_is : (x : Kind) → is_where (Some x) ≡ true → x ≡ k.Where
where_is k.Where e = refl
where_is _ e = absurd (cc)

abbrev header_print : Header → Print
header_print h = printed.header (Some h)

pub header_sound : SoundAt header_print header
unfolding header
header_sound ss x rest e =
    let f = bound (expect is_module ss) _ x rest e in
    let g = bound (module_name f.mid) _ x rest f.then in
    let h = bound (any_exports g.mid) _ x rest g.then in
    let i = bound (expect is_where h.mid) _ x rest h.then in
    let first = expect_sound is_module k.Module refl module_is ss f.x f.mid f.first in
    let name = module_name_sound f.mid g.x g.mid g.first in
    let list = any_exports_sound g.mid h.x h.mid h.first in
    let last = expect_sound is_where k.Where refl where_is h.mid i.x i.mid i.first in
    let inside : List Sym = (printed.exports h.x).flat ++ at k.Where i.x ∷ [] in
    let flat : ss ≡ at k.Module f.x ∷ printed.con_id g.x ∷ (inside ++ i.mid) =
    first ∙ ap (λ us. at k.Module f.x ∷ us) (name.flat ∙ ap (λ us. printed.con_id g.x ∷ us) (between g.mid h.mid (printed.exports h.x).flat k.Where i.x i.mid list.flat last)) in
    built header_print (header_print (record { span = covered ss i.mid; mark = f.x; name = g.x; exports = h.x; begins = i.x })) ss i.mid _ x rest refl i.then flat (spanned_taken ss i.mid _ _ flat (and_is name.good list.good))
