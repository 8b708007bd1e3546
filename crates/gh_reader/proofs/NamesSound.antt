-- What is read as a name, an operator or a constructor is printed so.
use Rattle.std.proofs.Common.{◌≡◌, true, List, [], ◌∷◌, ◌++◌, Some, None, refl, ap, ◌∙◌}
use Rattle.gh_base.specs.declared.place.Span.{Span}
use Rattle.gh_tree.specs.declared.symbol.Kind.{Kind}
use Rattle.gh_tree.specs.declared.symbol.Kind.TheVariants as k
use Rattle.gh_tree.specs.declared.symbol.Sym.{Sym}
use Rattle.gh_tree.specs.declared.names.Name.{Name}
use Rattle.gh_tree.specs.declared.names.Var.{Var}
use Rattle.gh_tree.specs.declared.names.Var.TheVariants as n_Var
use Rattle.gh_tree.specs.declared.names.Con.TheVariants as n_Con
use Rattle.gh_tree.specs.declared.names.ConOp.{ConOp}
use Rattle.gh_tree.specs.declared.names.ConOp.TheVariants as n_ConOp
use Rattle.gh_tree.specs.declared.names.GenCon.{GenCon}
use Rattle.gh_tree.specs.declared.names.GenCon.TheVariants as n_GenCon
use Rattle.gh_tree.specs.Syms.{at}
use Rattle.gh_tree.specs.Print.{Print, print, is_tuple, plain_var, plain, var_sym}
use Rattle.gh_tree.specs.Print as printed
use Rattle.gh_tree.specs.Read.{taken, expect, covered, is_close, is_close_list, is_backquote, commas}
use Rattle.gh_tree.specs.ReadNames.{var, var_read_by, symbol_var, plain_sym, plain_sym_by, gen_con, gen_con_read_by, gen_opened, gen_opened_by, gen_unit, gen_tuple, gen_nil, con_id, con_id_by, con_op, con_op_by, quoted_con}
use Rattle.gh_tree.proofs.Steps.{bound, spanned_taken}
use Rattle.gh_tree.proofs.Many.{Taken}
use Rattle.gh_reader.proofs.Sound.{SoundAt, built, only_if, close_sound, close_list_sound, backquote_sound, commas_sound, between3}

-- a name and the token that it is
abbrev pub var_print : Var → Print
var_print v = print (printed.var v) (plain_var v)

abbrev pub op_print : ConOp → Print
op_print o = print (printed.con_op o) true

abbrev sym_print : Name → Print
sym_print n = print (printed.var_sym n ∷ []) (plain n)

abbrev id_print : Name → Print
id_print n = print (printed.con_id n ∷ []) true

plain_sym_by_sound : (kind : Kind) (span : Span) (ss : List Sym) (x : Name) (rest : List Sym) → plain_sym_by (Some kind) (at kind span ∷ ss) ≡ taken x rest → Taken sym_print (at kind span ∷ ss) x rest
plain_sym_by_sound (k.VarSym None n) a ss x rest e = built sym_print (sym_print (record { span = a; qualifier = None; id = n })) _ ss _ x rest refl e refl refl
plain_sym_by_sound _ a ss x rest e = absurd (cc)

plain_sym_sound : SoundAt sym_print plain_sym
unfolding plain_sym
plain_sym_sound [] x rest e = absurd (cc)
plain_sym_sound (s ∷ ss) x rest e = plain_sym_by_sound s.kind s.span ss x rest e

con_id_by_sound : (kind : Kind) (span : Span) (ss : List Sym) (x : Name) (rest : List Sym) → con_id_by (Some kind) (at kind span ∷ ss) ≡ taken x rest → Taken id_print (at kind span ∷ ss) x rest
con_id_by_sound (k.ConId q n) a ss x rest e = built id_print (id_print (record { span = a; qualifier = q; id = n })) _ ss _ x rest refl e refl refl
con_id_by_sound _ a ss x rest e = absurd (cc)

con_id_sound : SoundAt id_print con_id
unfolding con_id
con_id_sound [] x rest e = absurd (cc)
con_id_sound (s ∷ ss) x rest e = con_id_by_sound s.kind s.span ss x rest e

symbol_var_sound : (a : Span) (ss : List Sym) (x : Var) (rest : List Sym) → symbol_var a ss ≡ taken x rest → Taken var_print (at k.Open a ∷ ss) x rest
unfolding symbol_var
symbol_var_sound a ss x rest e =
    let h = bound (plain_sym ss) _ x rest e in
    let i = bound (expect is_close h.mid) _ x rest h.then in
    let name = plain_sym_sound ss h.x h.mid h.first in
    let last = close_sound h.mid i.x i.mid i.first in
    built var_print (var_print (n_Var.Symbol a h.x i.x)) _ i.mid _ x rest refl i.then
    (ap (λ us. at k.Open a ∷ us) (name.flat ∙ ap (λ us. var_sym h.x ∷ us) last)) name.good

var_by_sound : (kind : Kind) (span : Span) (ss : List Sym) (x : Var) (rest : List Sym) → var_read_by (Some kind) (at kind span ∷ ss) ≡ taken x rest → Taken var_print (at kind span ∷ ss) x rest
var_by_sound (k.VarId None n) a ss x rest e = built var_print (var_print (n_Var.Word (record { span = a; qualifier = None; id = n }))) _ ss _ x rest refl e refl refl
var_by_sound k.Open a ss x rest e = symbol_var_sound a ss x rest e
var_by_sound _ a ss x rest e = absurd (cc)

pub var_sound : SoundAt var_print var
unfolding var
var_sound [] x rest e = absurd (cc)
var_sound (s ∷ ss) x rest e = var_by_sound s.kind s.span ss x rest e

-- ---- constructors as operands

gen_unit_by : (kind : Kind) (a span : Span) (ss : List Sym) (x : GenCon) (rest : List Sym) → gen_opened_by (Some kind) (at k.Open a ∷ at kind span ∷ ss) a (at kind span ∷ ss) ≡ taken x rest
    → Taken printed.gen_con (at k.Open a ∷ at kind span ∷ ss) x rest
unfolding gen_unit gen_tuple
gen_unit_by k.Close a b ss x rest e =
    let flat : List Sym = at k.Open a ∷ at k.Close b ∷ [] in
    let start : List Sym = at k.Open a ∷ at k.Close b ∷ ss in
    built printed.gen_con (printed.gen_con (n_GenCon.Unit (covered start ss) a b)) start ss _ x rest refl e refl (spanned_taken start ss flat true refl refl)
gen_unit_by k.Comma a b ss x rest e =
    let tail : List Sym = at k.Comma b ∷ ss in
    let start : List Sym = at k.Open a ∷ tail in
    let h = bound (commas tail) _ x rest e in
    let i = bound (expect is_close h.mid) _ x rest h.then in
    let marks = commas_sound tail h.x h.mid h.first in
    let last = close_sound h.mid i.x i.mid i.first in
    let j = only_if (is_tuple h.x) (n_GenCon.Tuple (covered start i.mid) a h.x i.x, i.mid) (x, rest) i.then in
    let flat : start ≡ at k.Open a ∷ ((printed.commas h.x ++ at k.Close i.x ∷ []) ++ i.mid) = ap (λ us. at k.Open a ∷ us) (between3 tail h.mid (printed.commas h.x) (at k.Close i.x ∷ []) i.mid marks last) in
    built printed.gen_con (printed.gen_con (n_GenCon.Tuple (covered start i.mid) a h.x i.x)) start i.mid _ x rest refl j.1 flat (spanned_taken start i.mid _ _ flat j.0)
gen_unit_by (k.ConSym q n) a m ss x rest e =
    let h = bound (expect is_close ss) _ x rest e in
    let last = close_sound ss h.x h.mid h.first in
    built printed.gen_con (printed.gen_con (n_GenCon.Con (n_Con.Symbol a (record { span = m; qualifier = q; id = n }) h.x))) _ h.mid _ x rest refl h.then
    (ap (λ us. at k.Open a ∷ at (k.ConSym q n) m ∷ us) last) refl
gen_unit_by _ a b ss x rest e = absurd (cc)

gen_opened_sound : (a : Span) (ss : List Sym) (x : GenCon) (rest : List Sym) → gen_opened (at k.Open a ∷ ss) a ss ≡ taken x rest → Taken printed.gen_con (at k.Open a ∷ ss) x rest
unfolding gen_opened
gen_opened_sound a [] x rest e = absurd (cc)
gen_opened_sound a (s ∷ ss) x rest e = gen_unit_by s.kind a s.span ss x rest e

gen_nil_sound : (a : Span) (ss : List Sym) (x : GenCon) (rest : List Sym) → gen_nil (at k.OpenList a ∷ ss) a ss ≡ taken x rest → Taken printed.gen_con (at k.OpenList a ∷ ss) x rest
unfolding gen_nil
gen_nil_sound a ss x rest e =
    let start : List Sym = at k.OpenList a ∷ ss in
    let h = bound (expect is_close_list ss) _ x rest e in
    let last = close_list_sound ss h.x h.mid h.first in
    let flat : start ≡ at k.OpenList a ∷ at k.CloseList h.x ∷ h.mid = ap (λ us. at k.OpenList a ∷ us) last in
    built printed.gen_con (printed.gen_con (n_GenCon.Nil (covered start h.mid) a h.x)) start h.mid _ x rest refl h.then flat (spanned_taken start h.mid (at k.OpenList a ∷ at k.CloseList h.x ∷ []) true flat refl)

gen_con_by_sound : (kind : Kind) (span : Span) (ss : List Sym) (x : GenCon) (rest : List Sym) → gen_con_read_by (Some kind) (at kind span ∷ ss) (at kind span ∷ ss) ≡ taken x rest → Taken printed.gen_con (at kind span ∷ ss) x rest
gen_con_by_sound (k.ConId q n) a ss x rest e = built printed.gen_con (printed.gen_con (n_GenCon.Con (n_Con.Word (record { span = a; qualifier = q; id = n })))) _ ss _ x rest refl e refl refl
gen_con_by_sound k.Open a ss x rest e = gen_opened_sound a ss x rest e
gen_con_by_sound k.OpenList a ss x rest e = gen_nil_sound a ss x rest e
gen_con_by_sound _ a ss x rest e = absurd (cc)

pub gen_con_sound : SoundAt printed.gen_con gen_con
unfolding gen_con
gen_con_sound [] x rest e = absurd (cc)
gen_con_sound (s ∷ ss) x rest e = gen_con_by_sound s.kind s.span ss x rest e

-- ---- constructor operators

quoted_sound : (a : Span) (ss : List Sym) (x : ConOp) (rest : List Sym) → quoted_con a ss ≡ taken x rest → Taken op_print (at k.Backquote a ∷ ss) x rest
unfolding quoted_con
quoted_sound a ss x rest e =
    let h = bound (con_id ss) _ x rest e in
    let i = bound (expect is_backquote h.mid) _ x rest h.then in
    let name = con_id_sound ss h.x h.mid h.first in
    let last = backquote_sound h.mid i.x i.mid i.first in
    built op_print (op_print (n_ConOp.Quoted a h.x i.x)) _ i.mid _ x rest refl i.then
    (ap (λ us. at k.Backquote a ∷ us) (name.flat ∙ ap (λ us. printed.con_id h.x ∷ us) last)) refl

con_op_by_sound : (kind : Kind) (span : Span) (ss : List Sym) (x : ConOp) (rest : List Sym) → con_op_by (Some kind) (at kind span ∷ ss) ≡ taken x rest → Taken op_print (at kind span ∷ ss) x rest
con_op_by_sound (k.ConSym q n) a ss x rest e = built op_print (op_print (n_ConOp.Symbol (record { span = a; qualifier = q; id = n }))) _ ss _ x rest refl e refl refl
con_op_by_sound k.Colon a ss x rest e = built op_print (op_print (n_ConOp.Colon a)) _ ss _ x rest refl e refl refl
con_op_by_sound k.Backquote a ss x rest e = quoted_sound a ss x rest e
con_op_by_sound _ a ss x rest e = absurd (cc)

pub con_op_sound : SoundAt op_print con_op
unfolding con_op
con_op_sound [] x rest e = absurd (cc)
con_op_sound (s ∷ ss) x rest e = con_op_by_sound s.kind s.span ss x rest e
