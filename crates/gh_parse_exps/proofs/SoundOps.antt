-- What is read as an operator or as a minus sign is printed so.
use Rattle.std.proofs.Common.{◌≡◌, true, false, not, List, [], ◌∷◌, Option, Some, None, refl, sym, ap, ◌∙◌}
use Rattle.gh_base.specs.declared.fixed.TheConstants.{MINUS}
use Rattle.gh_base.specs.declared.place.Span.{Span}
use Rattle.gh_tree.specs.declared.symbol.Kind.{Kind}
use Rattle.gh_tree.specs.declared.symbol.Kind.TheVariants as k
use Rattle.gh_tree.specs.declared.symbol.Sym.{Sym}
use Rattle.gh_tree.specs.declared.names.Op.{Op}
use Rattle.gh_tree.specs.declared.names.Op.TheVariants as n_Op
use Rattle.gh_tree.specs.declared.names.VarOp.TheVariants as n_VarOp
use Rattle.gh_tree.specs.declared.names.ConOp.TheVariants as n_ConOp
use Rattle.gh_tree.specs.Syms.{at}
use Rattle.gh_tree.specs.Print.{Print, print, op_flat, plain_op, minus_flat}
use Rattle.gh_tree.specs.Print as printed
use Rattle.gh_tree.specs.Read.{taken, kind, expect, is_backquote}
use Rattle.gh_tree.proofs.Steps.{bound, some_is, both}
use Rattle.gh_tree.proofs.Many.{Taken}
use Rattle.gh_reader.proofs.Sound.{SoundAt, built, only_if, backquote_sound}
use Rattle.gh_parse_patterns.proofs.Sound as patterns
use Rattle.gh_parse_exps.specs.Ops.{is_op, is_minus, right_next, quoted, quoted_by, op, op_by, defined_op, minus_sign}
use Rattle.gh_parse_exps.proofs.SoundMarks.{either}

abbrev pub op_print : Op → Print
op_print o = print (op_flat o) true

abbrev pub plain_op_print : Op → Print
plain_op_print o = print (op_flat o) (plain_op o)

abbrev pub minus_print : Option Span → Print
minus_print m = print (minus_flat m) true

-- ---- operators

quoted_by_sound : (a : Span) (kind : Kind) (span : Span) (ss : List Sym) (x : Op) (rest : List Sym) → quoted_by (Some kind) a (at kind span ∷ ss) ≡ taken x rest → Taken op_print (at k.Backquote a ∷ at kind span ∷ ss) x rest
quoted_by_sound a (k.VarId q n) m ss x rest e =
    let h = bound (expect is_backquote ss) _ x rest e in
    let last = backquote_sound ss h.x h.mid h.first in
    built op_print (op_print (n_Op.Var (n_VarOp.Quoted a (record { span = m; qualifier = q; id = n }) h.x))) _ h.mid _ x rest refl h.then
    (ap (λ us. at k.Backquote a ∷ at (k.VarId q n) m ∷ us) last) refl
quoted_by_sound a (k.ConId q n) m ss x rest e =
    let h = bound (expect is_backquote ss) _ x rest e in
    let last = backquote_sound ss h.x h.mid h.first in
    built op_print (op_print (n_Op.Con (n_ConOp.Quoted a (record { span = m; qualifier = q; id = n }) h.x))) _ h.mid _ x rest refl h.then
    (ap (λ us. at k.Backquote a ∷ at (k.ConId q n) m ∷ us) last) refl
quoted_by_sound a _ m ss x rest e = absurd (cc)

quoted_sound : (a : Span) (ss : List Sym) (x : Op) (rest : List Sym) → quoted a ss ≡ taken x rest → Taken op_print (at k.Backquote a ∷ ss) x rest
unfolding quoted
quoted_sound a [] x rest e = absurd (cc)
quoted_sound a (s ∷ ss) x rest e = quoted_by_sound a s.kind s.span ss x rest e

op_by_sound : (kind : Kind) (span : Span) (ss : List Sym) (x : Op) (rest : List Sym) → op_by (Some kind) (at kind span ∷ ss) ≡ taken x rest → Taken op_print (at kind span ∷ ss) x rest
op_by_sound (k.VarSym q n) a ss x rest e = built op_print (op_print (n_Op.Var (n_VarOp.Symbol (record { span = a; qualifier = q; id = n })))) _ ss _ x rest refl e refl refl
op_by_sound (k.ConSym q n) a ss x rest e = built op_print (op_print (n_Op.Con (n_ConOp.Symbol (record { span = a; qualifier = q; id = n })))) _ ss _ x rest refl e refl refl
op_by_sound k.Colon a ss x rest e = built op_print (op_print (n_Op.Con (n_ConOp.Colon a))) _ ss _ x rest refl e refl refl
op_by_sound k.Backquote a ss x rest e = quoted_sound a ss x rest e
op_by_sound _ a ss x rest e = absurd (cc)

pub op_sound : SoundAt op_print op
unfolding op
op_sound [] x rest e = absurd (cc)
op_sound (s ∷ ss) x rest e = op_by_sound s.kind s.span ss x rest e

pub defined_op_sound : SoundAt plain_op_print defined_op
unfolding defined_op
defined_op_sound ss x rest e =
    let h = bound (op ss) _ x rest e in
    let o = op_sound ss h.x h.mid h.first in
    let j = only_if (plain_op h.x) (h.x, h.mid) (x, rest) h.then in
    built plain_op_print (plain_op_print h.x) ss h.mid h.x x rest refl j.1 o.flat j.0

-- ---- the minus sign

quoted_no_minus : (a : Span) (kind : Kind) (span : Span) (ss : List Sym) (x : Op) (rest : List Sym) → quoted_by (Some kind) a (at kind span ∷ ss) ≡ taken x rest → printed.is_minus x ≡ false
quoted_no_minus a (k.VarId q n) m ss x rest e =
    let h = bound (expect is_backquote ss) _ x rest e in
    ap printed.is_minus (sym (some_is (n_Op.Var (n_VarOp.Quoted a (record { span = m; qualifier = q; id = n }) h.x)) x h.mid rest h.then).0)
quoted_no_minus a (k.ConId q n) m ss x rest e =
    let h = bound (expect is_backquote ss) _ x rest e in
    ap printed.is_minus (sym (some_is (n_Op.Con (n_ConOp.Quoted a (record { span = m; qualifier = q; id = n }) h.x)) x h.mid rest h.then).0)
quoted_no_minus a _ m ss x rest e = absurd (cc)

behind_quote : (a : Span) (ss : List Sym) (x : Op) (rest : List Sym) → quoted a ss ≡ taken x rest → printed.is_minus x ≡ false
unfolding quoted
behind_quote a [] x rest e = absurd (cc)
behind_quote a (s ∷ ss) x rest e = quoted_no_minus a s.kind s.span ss x rest e

op_by_minus : (kind : Kind) (span : Span) (ss : List Sym) (x : Op) (rest : List Sym) → op_by (Some kind) (at kind span ∷ ss) ≡ taken x rest → printed.is_minus x ≡ is_minus (Some kind)
op_by_minus (k.VarSym None n) a ss x rest e = ap printed.is_minus (sym (some_is (n_Op.Var (n_VarOp.Symbol (record { span = a; qualifier = None; id = n }))) x ss rest e).0)
op_by_minus (k.VarSym (Some q) n) a ss x rest e = ap printed.is_minus (sym (some_is (n_Op.Var (n_VarOp.Symbol (record { span = a; qualifier = Some q; id = n }))) x ss rest e).0)
op_by_minus (k.ConSym q n) a ss x rest e = ap printed.is_minus (sym (some_is (n_Op.Con (n_ConOp.Symbol (record { span = a; qualifier = q; id = n }))) x ss rest e).0)
op_by_minus k.Colon a ss x rest e = ap printed.is_minus (sym (some_is (n_Op.Con (n_ConOp.Colon a)) x ss rest e).0)
op_by_minus k.Backquote a ss x rest e = behind_quote a ss x rest e
op_by_minus _ a ss x rest e = absurd (cc)

-- an operator that was read is the minus sign where the first token is it
pub op_minus : (ss : List Sym) (x : Op) (rest : List Sym) → op ss ≡ taken x rest → printed.is_minus x ≡ is_minus (kind ss)
unfolding op
op_minus [] x rest e = absurd (cc)
op_minus (s ∷ ss) x rest e = op_by_minus s.kind s.span ss x rest e

-- the operator of a section to the right is no minus sign
pub right_op : (ss : List Sym) (x : Op) (rest : List Sym) → right_next ss ≡ true → op ss ≡ taken x rest → not (printed.is_minus x) ≡ true
right_op ss x rest b e = ap not (op_minus ss x rest e) ∙ (both (is_op (kind ss)) (not (is_minus (kind ss))) b).1

minus_is : (kind : Kind) → is_minus (Some kind) ≡ true → kind ≡ k.VarSym None MINUS
minus_is (k.VarSym None n) e = ap (k.VarSym None) (patterns.is_minus n e)
minus_is _ e = absurd (cc)

minus_there : (s : Sym) (ss : List Sym) (x : Option Span) (rest : List Sym) → is_minus (Some s.kind) ≡ true → taken (Some s.span) ss ≡ taken x rest → Taken minus_print (s ∷ ss) x rest
minus_there s ss x rest b e = built minus_print (minus_print (Some s.span)) (s ∷ ss) ss (Some s.span) x rest refl e (ap (λ kind. at kind s.span ∷ ss) (minus_is s.kind b)) refl

no_minus : (ss : List Sym) (x : Option Span) (rest : List Sym) → taken None ss ≡ taken x rest → Taken minus_print ss x rest
no_minus ss x rest e = built minus_print (minus_print None) ss ss None x rest refl e refl refl

pub minus_sign_sound : SoundAt minus_print minus_sign
unfolding minus_sign
minus_sign_sound [] x rest e = no_minus [] x rest e
minus_sign_sound (s ∷ ss) x rest e = either minus_print (s ∷ ss) x rest (is_minus (Some s.kind)) (taken (Some s.span) ss) (taken None (s ∷ ss)) (minus_there s ss x rest) (λ b. no_minus (s ∷ ss) x rest) e
