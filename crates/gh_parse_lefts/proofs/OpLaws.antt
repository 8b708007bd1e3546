-- Laws of the reader of variable operators.
use Rattle.std.proofs.Common.{◌≡◌, true, List, [], ◌∷◌, ◌++◌, Option, Some, None, refl, ap, ◌∙◌}
use Rattle.gh_base.specs.declared.names.NameId.{NameId}
use Rattle.gh_base.specs.declared.place.Span.{Span}
use Rattle.gh_tree.specs.declared.symbol.Kind.{Kind}
use Rattle.gh_tree.specs.declared.symbol.Kind.TheVariants as k
use Rattle.gh_tree.specs.declared.symbol.Sym.{Sym}
use Rattle.gh_tree.specs.declared.names.Name.{Name}
use Rattle.gh_tree.specs.declared.names.VarOp.{VarOp}
use Rattle.gh_tree.specs.declared.names.VarOp.TheVariants as n_VarOp
use Rattle.gh_tree.specs.Syms.{at}
use Rattle.gh_tree.specs.Print.{Print, print, is_none, plain, plain_var_op}
use Rattle.gh_tree.specs.Print as printed
use Rattle.gh_tree.specs.Read.{taken, expect, is_backquote}
use Rattle.gh_tree.specs.ReadNames.{con_op_next}
use Rattle.gh_tree.specs.ReadPatterns.{ends_pattern}
use Rattle.gh_tree.proofs.Steps.{bound}
use Rattle.gh_tree.proofs.Many.{Taken}
use Rattle.gh_reader.proofs.Sound.{SoundAt, built, backquote_sound}
use Rattle.gh_parse_lefts.specs.Operators.{var_op_next, var_op_next_by, var_op, var_op_by, var_id, var_id_by, quoted_var}

-- ---- what is printed is read

symbol_complete : (a : Span) (q : Option NameId) (n : NameId) (rest : List Sym) → is_none q ≡ true
    → var_op (at (k.VarSym q n) a ∷ rest) ≡ taken (n_VarOp.Symbol (record { span = a; qualifier = q; id = n })) rest
unfolding var_op
symbol_complete a None n rest e = refl
symbol_complete a (Some m) n rest e = absurd (cc)

quoted_complete : (a : Span) (s : Span) (q : Option NameId) (n : NameId) (b : Span) (rest : List Sym) → is_none q ≡ true
    → var_op (at k.Backquote a ∷ at (k.VarId q n) s ∷ at k.Backquote b ∷ rest) ≡ taken (n_VarOp.Quoted a (record { span = s; qualifier = q; id = n }) b) rest
unfolding var_op quoted_var var_id
quoted_complete a s None n b rest e = refl
quoted_complete a s (Some m) n b rest e = absurd (cc)

pub var_op_complete : (o : VarOp) (rest : List Sym) → plain_var_op o ≡ true → var_op (printed.var_op o ++ rest) ≡ taken o rest
var_op_complete (n_VarOp.Symbol n) rest good = symbol_complete n.span n.qualifier n.id rest good
var_op_complete (n_VarOp.Quoted a n b) rest good = quoted_complete a n.span n.qualifier n.id b rest good

symbol_looks : (q : Option NameId) (n : NameId) (second : Option Kind) → is_none q ≡ true → var_op_next_by (Some (k.VarSym q n)) second ≡ true
symbol_looks None n second e = refl
symbol_looks (Some m) n second e = absurd (cc)

quoted_looks : (q : Option NameId) (n : NameId) → is_none q ≡ true → var_op_next_by (Some k.Backquote) (Some (k.VarId q n)) ≡ true
quoted_looks None n e = refl
quoted_looks (Some m) n e = absurd (cc)

pub var_op_looks : (o : VarOp) (rest : List Sym) → plain_var_op o ≡ true → var_op_next (printed.var_op o ++ rest) ≡ true
unfolding var_op_next
var_op_looks (n_VarOp.Symbol n) rest good = symbol_looks n.qualifier n.id _ good
var_op_looks (n_VarOp.Quoted a n b) rest good = quoted_looks n.qualifier n.id good

-- a variable operator ends the operands before it
pub var_op_ends : (o : VarOp) (rest : List Sym) → ends_pattern (printed.var_op o ++ rest) ≡ true
unfolding con_op_next
var_op_ends (n_VarOp.Symbol n) rest = refl
var_op_ends (n_VarOp.Quoted a n b) rest = refl

-- ---- what is read is printed so

abbrev pub var_op_print : VarOp → Print
var_op_print o = print (printed.var_op o) (plain_var_op o)

abbrev id_print : Name → Print
id_print n = print (printed.var_id n ∷ []) (plain n)

var_id_by_sound : (kind : Kind) (span : Span) (ss : List Sym) (x : Name) (rest : List Sym) → var_id_by (Some kind) (at kind span ∷ ss) ≡ taken x rest → Taken id_print (at kind span ∷ ss) x rest
var_id_by_sound (k.VarId None n) a ss x rest e = built id_print (id_print (record { span = a; qualifier = None; id = n })) _ ss _ x rest refl e refl refl
var_id_by_sound _ a ss x rest e = absurd (cc)

var_id_sound : SoundAt id_print var_id
unfolding var_id
var_id_sound [] x rest e = absurd (cc)
var_id_sound (s ∷ ss) x rest e = var_id_by_sound s.kind s.span ss x rest e

quoted_sound : (a : Span) (ss : List Sym) (x : VarOp) (rest : List Sym) → quoted_var a ss ≡ taken x rest → Taken var_op_print (at k.Backquote a ∷ ss) x rest
unfolding quoted_var
quoted_sound a ss x rest e =
    let h = bound (var_id ss) _ x rest e in
    let i = bound (expect is_backquote h.mid) _ x rest h.then in
    let name = var_id_sound ss h.x h.mid h.first in
    let last = backquote_sound h.mid i.x i.mid i.first in
    built var_op_print (var_op_print (n_VarOp.Quoted a h.x i.x)) _ i.mid _ x rest refl i.then
    (ap (λ us. at k.Backquote a ∷ us) (name.flat ∙ ap (λ us. printed.var_id h.x ∷ us) last)) name.good

var_op_by_sound : (kind : Kind) (span : Span) (ss : List Sym) (x : VarOp) (rest : List Sym) → var_op_by (Some kind) (at kind span ∷ ss) ≡ taken x rest → Taken var_op_print (at kind span ∷ ss) x rest
var_op_by_sound (k.VarSym None n) a ss x rest e = built var_op_print (var_op_print (n_VarOp.Symbol (record { span = a; qualifier = None; id = n }))) _ ss _ x rest refl e refl refl
var_op_by_sound k.Backquote a ss x rest e = quoted_sound a ss x rest e
var_op_by_sound _ a ss x rest e = absurd (cc)

pub var_op_sound : SoundAt var_op_print var_op
unfolding var_op
var_op_sound [] x rest e = absurd (cc)
var_op_sound (s ∷ ss) x rest e = var_op_by_sound s.kind s.span ss x rest e
