-- What is read as an expression is the print of a well-formed one, and so is all that nests.
use Rattle.std.proofs.Common.{◌≡◌, ℕ, zero, suc, not, List, [], ◌∷◌, ◌++◌, length, map, Option, Some, ap, ◌∙◌}
use Rattle.gh_base.specs.declared.place.Span.{Span}
use Rattle.gh_tree.specs.declared.symbol.Kind.{Kind}
use Rattle.gh_tree.specs.declared.symbol.Kind.TheVariants as k
use Rattle.gh_tree.specs.declared.symbol.Sym.{Sym}
use Rattle.gh_tree.specs.declared.expressions.Exp.{Exp}
use Rattle.gh_tree.specs.declared.expressions.Exp.TheVariants as v_Exp
use Rattle.gh_tree.specs.declared.expressions.NextOperand.{NextOperand}
use Rattle.gh_tree.specs.declared.expressions.Open.{Open}
use Rattle.gh_tree.specs.declared.expressions.Operand.{Operand}
use Rattle.gh_tree.specs.declared.expressions.Operand.TheVariants as v_Operand
use Rattle.gh_tree.specs.declared.expressions.OperandList.{OperandList, roll-OperandList}
use Rattle.gh_tree.specs.Syms.{at}
use Rattle.gh_tree.specs.Print.{Print, print, flat_all, op_flat, minus_flat, closed_before}
use Rattle.gh_tree.specs.Print as printed
use Rattle.gh_tree.specs.Read.{and_then, taken, kind, expect, covered, is_arrow}
use Rattle.gh_tree.specs.ReadPatterns.{args}
use Rattle.gh_tree.proofs.Steps.{bound, and_is, spanned_taken}
use Rattle.gh_tree.proofs.Many.{Taken, AllTaken, many_sound}
use Rattle.gh_tree.proofs.Printed.{printed_exp_plain, printed_exp_typed, printed_open_lambda, printed_open_let, printed_open_if, printed_operand_apply, printed_operand_case, printed_operand_open, printed_next_operand, printed_operands}
use Rattle.gh_reader.proofs.Sound.{SoundAt, built, only_if, between3}
use Rattle.gh_parse_types.proofs.Sound.{type_sound}
use Rattle.gh_parse_patterns.proofs.Sound.{args_sound, arg_sound}
use Rattle.gh_parse_lefts.specs.Lefts.{left, left_print}
use Rattle.gh_parse_exps.specs.Knot.{Knot}
use Rattle.gh_parse_exps.specs.Ops.{goes_on, op, minus_sign}
use Rattle.gh_parse_exps.specs.Marks.{is_of, is_in, is_then, is_else}
use Rattle.gh_parse_exps.specs.Exps.{alts, locals, lambda, let_in, conditional, aexp, aexps, apply, case_of, operand_by, operand, next_operand, next_operands, operands, typed, whole_by, behind_operands, whole_exp, twins, knot}
use Rattle.gh_parse_exps.proofs.SoundMarks.{arrow_sound, of_sound, in_sound, then_sound, else_sound}
use Rattle.gh_parse_exps.proofs.SoundOps.{op_sound, minus_sign_sound}
use Rattle.gh_parse_exps.proofs.SoundKnot.{KnotSound}
use Rattle.gh_parse_exps.proofs.SoundDecls.{whole_decls_sound}
use Rattle.gh_parse_exps.proofs.SoundAlts.{alts_sound, locals_sound}
use Rattle.gh_parse_exps.proofs.SoundAexps.{aexp_sound, aexps_sound}

plain_exp_sound : (us : List Sym) (xs : OperandList) (ss : List Sym) (x : Exp) (rest : List Sym) → Taken printed.operands us xs ss → taken (v_Exp.Plain xs) ss ≡ taken x rest → Taken printed.exp us x rest
plain_exp_sound us xs ss x rest before e = built printed.exp (printed.operands xs) us ss _ x rest (printed_exp_plain xs) e before.flat before.good

open_operand_sound : (us : List Sym) (r : Option (Open × List Sym)) (x : Operand) (rest : List Sym) → ((y : Open) (mid : List Sym) → r ≡ taken y mid → Taken printed.open_operand us y mid)
    → and_then r (λ y rest. taken (v_Operand.Open y) rest) ≡ taken x rest → Taken printed.operand us x rest
open_operand_sound us r x rest sound e =
    let h = bound r _ x rest e in
    let y = sound h.x h.mid h.first in
    built printed.operand _ us h.mid _ x rest (printed_operand_open h.x) h.then y.flat y.good

module _ (K : Knot) (sound : KnotSound K) where
  -- ---- operands that go on to the right

  lambda_sound : (a : Span) (ss : List Sym) (x : Open) (rest : List Sym) → lambda K (at k.Backslash a ∷ ss) (at k.Backslash a ∷ ss) ≡ taken x rest → Taken printed.open_operand (at k.Backslash a ∷ ss) x rest
  unfolding lambda
  lambda_sound a ss x rest e =
      let start : List Sym = at k.Backslash a ∷ ss in
      let f = bound (K.arg ss) _ x rest e in
      let g = bound (args K.arg f.mid) _ x rest f.then in
      let h = bound (expect is_arrow g.mid) _ x rest g.then in
      let i = bound (K.exp h.mid) _ x rest h.then in
      let first = sound.arg ss f.x f.mid f.first in
      let others = args_sound K.arg sound.arg f.mid g.x g.mid g.first in
      let mark = arrow_sound g.mid h.x h.mid h.first in
      let body = sound.exp h.mid i.x i.mid i.first in
      let end : List Sym = at k.Arrow h.x ∷ (printed.exp i.x).flat in
      let more : List Sym = flat_all (map printed.arg_pattern g.x) in
      let last : g.mid ≡ end ++ i.mid = mark ∙ ap (λ us. at k.Arrow h.x ∷ us) body.flat in
      let inside : f.mid ≡ (more ++ end) ++ i.mid = between3 f.mid g.mid more end i.mid others.flat last in
      let flat : start ≡ at k.Backslash a ∷ (((printed.arg_pattern f.x).flat ++ (more ++ end)) ++ i.mid) =
      ap (λ us. at k.Backslash a ∷ us) (between3 ss f.mid (printed.arg_pattern f.x).flat (more ++ end) i.mid first.flat inside) in
      built printed.open_operand _ start i.mid _ x rest (printed_open_lambda (covered start i.mid) a f.x g.x h.x i.x) i.then flat (spanned_taken start i.mid _ _ flat (and_is first.good (and_is others.good body.good)))

  let_sound : (a : Span) (ss : List Sym) (x : Open) (rest : List Sym) → let_in K (at k.Let a ∷ ss) (at k.Let a ∷ ss) ≡ taken x rest → Taken printed.open_operand (at k.Let a ∷ ss) x rest
  unfolding let_in
  let_sound a ss x rest e =
      let start : List Sym = at k.Let a ∷ ss in
      let g = bound (locals K ss) _ x rest e in
      let h = bound (expect is_in g.mid) _ x rest g.then in
      let i = bound (K.exp h.mid) _ x rest h.then in
      let first = locals_sound K sound ss g.x g.mid g.first in
      let mark = in_sound g.mid h.x h.mid h.first in
      let body = sound.exp h.mid i.x i.mid i.first in
      let end : List Sym = at k.In h.x ∷ (printed.exp i.x).flat in
      let last : g.mid ≡ end ++ i.mid = mark ∙ ap (λ us. at k.In h.x ∷ us) body.flat in
      let flat : start ≡ at k.Let a ∷ (((printed.locals g.x).flat ++ end) ++ i.mid) = ap (λ us. at k.Let a ∷ us) (between3 ss g.mid (printed.locals g.x).flat end i.mid first.flat last) in
      built printed.open_operand _ start i.mid _ x rest (printed_open_let (covered start i.mid) a g.x h.x i.x) i.then flat (spanned_taken start i.mid _ _ flat (and_is first.good body.good))

  conditional_sound : (a : Span) (ss : List Sym) (x : Open) (rest : List Sym) → conditional K (at k.If a ∷ ss) (at k.If a ∷ ss) ≡ taken x rest → Taken printed.open_operand (at k.If a ∷ ss) x rest
  unfolding conditional
  conditional_sound a ss x rest e =
      let start : List Sym = at k.If a ∷ ss in
      let c = bound (K.exp ss) _ x rest e in
      let f = bound (expect is_then c.mid) _ x rest c.then in
      let g = bound (K.exp f.mid) _ x rest f.then in
      let h = bound (expect is_else g.mid) _ x rest g.then in
      let i = bound (K.exp h.mid) _ x rest h.then in
      let test = sound.exp ss c.x c.mid c.first in
      let mark = then_sound c.mid f.x f.mid f.first in
      let one = sound.exp f.mid g.x g.mid g.first in
      let other_mark = else_sound g.mid h.x h.mid h.first in
      let other = sound.exp h.mid i.x i.mid i.first in
      let end : List Sym = at k.Else h.x ∷ (printed.exp i.x).flat in
      let last : g.mid ≡ end ++ i.mid = other_mark ∙ ap (λ us. at k.Else h.x ∷ us) other.flat in
      let middle : List Sym = at k.Then f.x ∷ ((printed.exp g.x).flat ++ end) in
      let inside : c.mid ≡ middle ++ i.mid = mark ∙ ap (λ us. at k.Then f.x ∷ us) (between3 f.mid g.mid (printed.exp g.x).flat end i.mid one.flat last) in
      let flat : start ≡ at k.If a ∷ (((printed.exp c.x).flat ++ middle) ++ i.mid) = ap (λ us. at k.If a ∷ us) (between3 ss c.mid (printed.exp c.x).flat middle i.mid test.flat inside) in
      built printed.open_operand _ start i.mid _ x rest (printed_open_if (covered start i.mid) a c.x f.x g.x h.x i.x) i.then flat (spanned_taken start i.mid _ _ flat (and_is test.good (and_is one.good other.good)))

  -- ---- operands

  apply_sound : (ss : List Sym) (x : Operand) (rest : List Sym) → apply K ss ss ≡ taken x rest → Taken printed.operand ss x rest
  unfolding apply
  apply_sound ss x rest e =
      let h = bound (aexp K ss) _ x rest e in
      let i = bound (aexps K h.mid) _ x rest h.then in
      let first = aexp_sound K sound ss h.x h.mid h.first in
      let others = aexps_sound K sound h.mid i.x i.mid i.first in
      let flat = between3 ss h.mid (printed.aexp h.x).flat (flat_all (map printed.aexp i.x)) i.mid first.flat others.flat in
      built printed.operand _ ss i.mid _ x rest (printed_operand_apply (covered ss i.mid) h.x i.x) i.then flat (spanned_taken ss i.mid _ _ flat (and_is first.good others.good))

  case_sound : (a : Span) (ss : List Sym) (x : Operand) (rest : List Sym) → case_of K (at k.Case a ∷ ss) (at k.Case a ∷ ss) ≡ taken x rest → Taken printed.operand (at k.Case a ∷ ss) x rest
  unfolding case_of
  case_sound a ss x rest e =
      let start : List Sym = at k.Case a ∷ ss in
      let g = bound (K.exp ss) _ x rest e in
      let h = bound (expect is_of g.mid) _ x rest g.then in
      let i = bound (alts K h.mid) _ x rest h.then in
      let first = sound.exp ss g.x g.mid g.first in
      let mark = of_sound g.mid h.x h.mid h.first in
      let body = alts_sound K sound h.mid i.x i.mid i.first in
      let end : List Sym = at k.Of h.x ∷ (printed.alts i.x).flat in
      let last : g.mid ≡ end ++ i.mid = mark ∙ ap (λ us. at k.Of h.x ∷ us) body.flat in
      let flat : start ≡ at k.Case a ∷ (((printed.exp g.x).flat ++ end) ++ i.mid) = ap (λ us. at k.Case a ∷ us) (between3 ss g.mid (printed.exp g.x).flat end i.mid first.flat last) in
      built printed.operand _ start i.mid _ x rest (printed_operand_case (covered start i.mid) a g.x h.x i.x) i.then flat (spanned_taken start i.mid _ _ flat (and_is first.good body.good))

  operand_by_sound : (kind : Kind) (span : Span) (ss : List Sym) (x : Operand) (rest : List Sym) → operand_by K (Some kind) (at kind span ∷ ss) (at kind span ∷ ss) ≡ taken x rest → Taken printed.operand (at kind span ∷ ss) x rest
  operand_by_sound k.Case a ss x rest e = case_sound a ss x rest e
  operand_by_sound k.Backslash a ss x rest e = open_operand_sound (at k.Backslash a ∷ ss) (lambda K (at k.Backslash a ∷ ss) (at k.Backslash a ∷ ss)) x rest (lambda_sound a ss) e
  operand_by_sound k.Let a ss x rest e = open_operand_sound (at k.Let a ∷ ss) (let_in K (at k.Let a ∷ ss) (at k.Let a ∷ ss)) x rest (let_sound a ss) e
  operand_by_sound k.If a ss x rest e = open_operand_sound (at k.If a ∷ ss) (conditional K (at k.If a ∷ ss) (at k.If a ∷ ss)) x rest (conditional_sound a ss) e
  operand_by_sound kind a ss x rest e = apply_sound (at kind a ∷ ss) x rest e

  operand_sound : SoundAt printed.operand (operand K)
  unfolding operand
  operand_sound [] x rest e = apply_sound [] x rest e
  operand_sound (s ∷ ss) x rest e = operand_by_sound s.kind s.span ss x rest e

  next_operand_sound : SoundAt printed.next_operand (next_operand K)
  unfolding next_operand
  next_operand_sound ss x rest e =
      let g = bound (op ss) _ x rest e in
      let h = bound (minus_sign g.mid) _ x rest g.then in
      let i = bound (operand K h.mid) _ x rest h.then in
      let o = op_sound ss g.x g.mid g.first in
      let minus = minus_sign_sound g.mid h.x h.mid h.first in
      let one = operand_sound h.mid i.x i.mid i.first in
      let signed : List Sym = minus_flat h.x ++ (printed.operand i.x).flat in
      let inside : g.mid ≡ signed ++ i.mid = between3 g.mid h.mid (minus_flat h.x) (printed.operand i.x).flat i.mid minus.flat one.flat in
      built printed.next_operand _ ss i.mid _ x rest (printed_next_operand g.x h.x i.x) i.then (between3 ss g.mid (op_flat g.x) signed i.mid o.flat inside) one.good

  next_operands_sound : (ss : List Sym) (xs : List NextOperand) (rest : List Sym) → next_operands K ss ≡ taken xs rest → AllTaken printed.next_operand ss xs rest
  unfolding next_operands
  next_operands_sound ss xs rest e = many_sound printed.next_operand goes_on (next_operand K) (λ ss x rest b e. next_operand_sound ss x rest e) (length ss) ss xs rest e

  operands_sound : SoundAt printed.operands (operands K)
  unfolding operands
  operands_sound ss x rest e =
      let g = bound (minus_sign ss) _ x rest e in
      let h = bound (operand K g.mid) _ x rest g.then in
      let i = bound (next_operands K h.mid) _ x rest h.then in
      let minus = minus_sign_sound ss g.x g.mid g.first in
      let first = operand_sound g.mid h.x h.mid h.first in
      let others = next_operands_sound h.mid i.x i.mid i.first in
      let j = only_if (closed_before (printed.operand h.x).is_open (map printed.next_operand i.x)) (roll-OperandList (record { span = covered ss i.mid; minus = g.x; first = h.x; others = i.x }), i.mid) (x, rest) i.then in
      let all : List Sym = (printed.operand h.x).flat ++ flat_all (map printed.next_operand i.x) in
      let inside : g.mid ≡ all ++ i.mid = between3 g.mid h.mid (printed.operand h.x).flat (flat_all (map printed.next_operand i.x)) i.mid first.flat others.flat in
      let flat : ss ≡ (minus_flat g.x ++ all) ++ i.mid = between3 ss g.mid (minus_flat g.x) all i.mid minus.flat inside in
      built printed.operands _ ss i.mid _ x rest (printed_operands (covered ss i.mid) g.x h.x i.x) j.1 flat (spanned_taken ss i.mid _ _ flat (and_is first.good (and_is others.good j.0)))

  -- ---- expressions

  typed_sound : (us : List Sym) (xs : OperandList) (a : Span) (ss : List Sym) (x : Exp) (rest : List Sym) → Taken printed.operands us xs (at k.Colons a ∷ ss) → typed K us xs (at k.Colons a ∷ ss) ≡ taken x rest → Taken printed.exp us x rest
  unfolding typed
  typed_sound us xs a ss x rest before e =
      let h = bound (K.typ ss) _ x rest e in
      let typ = sound.typ ss h.x h.mid h.first in
      let j = only_if (not (printed.operands xs).is_open) (v_Exp.Typed (covered us h.mid) xs a h.x, h.mid) (x, rest) h.then in
      let end : List Sym = at k.Colons a ∷ (printed.type_expr h.x).flat in
      let flat : us ≡ ((printed.operands xs).flat ++ end) ++ h.mid = between3 us (at k.Colons a ∷ ss) (printed.operands xs).flat end h.mid before.flat (ap (λ ts. at k.Colons a ∷ ts) typ.flat) in
      built printed.exp _ us h.mid _ x rest (printed_exp_typed (covered us h.mid) xs a h.x) j.1 flat (spanned_taken us h.mid _ _ flat (and_is before.good (and_is j.0 typ.good)))

  whole_by_sound : (us : List Sym) (xs : OperandList) (kind : Kind) (span : Span) (ss : List Sym) (x : Exp) (rest : List Sym) → Taken printed.operands us xs (at kind span ∷ ss) → whole_by K (Some kind) us xs (at kind span ∷ ss) ≡ taken x rest
      → Taken printed.exp us x rest
  whole_by_sound us xs k.Colons a ss x rest before e = typed_sound us xs a ss x rest before e
  whole_by_sound us xs kind a ss x rest before e = plain_exp_sound us xs (at kind a ∷ ss) x rest before e

  behind_operands_sound : (us : List Sym) (xs : OperandList) (ss : List Sym) (x : Exp) (rest : List Sym) → Taken printed.operands us xs ss → behind_operands K us xs ss ≡ taken x rest → Taken printed.exp us x rest
  unfolding behind_operands
  behind_operands_sound us xs [] x rest before e = plain_exp_sound us xs [] x rest before e
  behind_operands_sound us xs (s ∷ ss) x rest before e = whole_by_sound us xs s.kind s.span ss x rest before e

  pub whole_exp_sound : SoundAt printed.exp (whole_exp K)
  unfolding whole_exp
  whole_exp_sound ss x rest e =
      let h = bound (operands K ss) _ x rest e in
      behind_operands_sound ss h.x h.mid x rest (operands_sound ss h.x h.mid h.first) h.then

-- ---- all that nests

pub knot_sound : ((n : ℕ) → SoundAt left_print (left n)) → (n : ℕ) → KnotSound (knot n)
unfolding twins
knot_sound lefts zero = record {
  exp = λ ss x rest e. absurd (cc);
  decls = λ ss x rest e. absurd (cc);
  typ = type_sound zero;
  arg = arg_sound zero;
  left = lefts zero;
}
knot_sound lefts (suc n) =
    let below = knot_sound lefts n in
    record {
      exp = whole_exp_sound (knot n) below;
      decls = whole_decls_sound (knot n) below;
      typ = type_sound (suc n);
      arg = arg_sound (suc n);
      left = lefts (suc n);
    }
