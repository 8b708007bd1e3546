-- What is read as an argument of an expression is the print of a well-formed one.
use Rattle.std.proofs.Common.{◌≡◌, true, List, [], ◌∷◌, ◌++◌, length, map, Option, Some, refl, ap, ◌∙◌, cond}
use Rattle.gh_base.specs.declared.place.Span.{Span}
use Rattle.gh_tree.specs.declared.symbol.Kind.{Kind}
use Rattle.gh_tree.specs.declared.symbol.Kind.TheVariants as k
use Rattle.gh_tree.specs.declared.symbol.Sym.{Sym}
use Rattle.gh_tree.specs.declared.names.Var.{Var}
use Rattle.gh_tree.specs.declared.expressions.Aexp.{Aexp}
use Rattle.gh_tree.specs.declared.expressions.Aexp.TheVariants as v_Aexp
use Rattle.gh_tree.specs.declared.expressions.Exp.{Exp}
use Rattle.gh_tree.specs.declared.expressions.Part.{Part}
use Rattle.gh_tree.specs.Syms.{at}
use Rattle.gh_tree.specs.Print.{Print, print, flat_all, op_flat, is_tuple}
use Rattle.gh_tree.specs.Print as printed
use Rattle.gh_tree.specs.Read.{and_then, taken, kind, expect, covered, is_close, is_close_list, comma_next}
use Rattle.gh_tree.specs.ReadNames.{gen_con}
use Rattle.gh_tree.specs.ReadExports.{any_var}
use Rattle.gh_tree.proofs.Steps.{bound, and_is, spanned_taken}
use Rattle.gh_tree.proofs.Many.{Taken, AllTaken, many_sound}
use Rattle.gh_tree.proofs.Printed.{printed_aexp_var, printed_aexp_generic, printed_aexp_con, printed_aexp_int, printed_aexp_char, printed_aexp_str, printed_aexp_paren, printed_aexp_tuple, printed_aexp_list, printed_aexp_left, printed_aexp_right, printed_part}
use Rattle.gh_reader.proofs.Sound.{SoundAt, built, only_if, close_sound, close_list_sound, comma_first, between, between3, tuple_parts}
use Rattle.gh_reader.proofs.NamesSound.{gen_con_sound}
use Rattle.gh_parse_heads.proofs.Sound.{any_print, any_var_sound}
use Rattle.gh_parse_exps.specs.Knot.{Knot}
use Rattle.gh_parse_exps.specs.Ops.{con_next, any_var_next, right_next, op}
use Rattle.gh_parse_exps.specs.Marks.{is_close_banana}
use Rattle.gh_parse_exps.specs.Decls.{plain_of, closed_or, plain}
use Rattle.gh_parse_exps.specs.Exps.{begins_aexp, paren, left_section, part, parts, tuple, behind_by, behind, right_section, enclosed, opened, listed, generic, after_var_by, after_var, var_aexp, other_aexp_by, other_aexp, aexp, aexps}
use Rattle.gh_parse_exps.proofs.SoundMarks.{either, close_banana_sound}
use Rattle.gh_parse_exps.proofs.SoundOps.{op_sound, right_op}
use Rattle.gh_parse_exps.proofs.SoundKnot.{KnotSound, closed_or_sound, plain_sound}

paren_sound : (a : Span) (us ss : List Sym) (first : Exp) (x : Aexp) (rest : List Sym) → Taken printed.exp us first ss → paren (at k.Open a ∷ us) a first ss ≡ taken x rest → Taken printed.aexp (at k.Open a ∷ us) x rest
unfolding paren
paren_sound a us ss first x rest before e =
    let start : List Sym = at k.Open a ∷ us in
    let h = bound (expect is_close ss) _ x rest e in
    let last = close_sound ss h.x h.mid h.first in
    let inside = (printed.exp first).flat in
    let flat : start ≡ at k.Open a ∷ ((inside ++ at k.Close h.x ∷ []) ++ h.mid) = ap (λ vs. at k.Open a ∷ vs) (between us ss inside k.Close h.x h.mid before.flat last) in
    built printed.aexp _ start h.mid _ x rest (printed_aexp_paren (covered start h.mid) a first h.x) h.then flat (spanned_taken start h.mid _ _ flat before.good)

left_section_sound : (a : Span) (us ss : List Sym) (first : Exp) (x : Aexp) (rest : List Sym) → Taken printed.exp us first ss → left_section (at k.Open a ∷ us) a first ss ≡ taken x rest → Taken printed.aexp (at k.Open a ∷ us) x rest
unfolding left_section
left_section_sound a us ss first x rest before e =
    let start : List Sym = at k.Open a ∷ us in
    let g = bound (closed_or (plain_of first) ss) _ x rest e in
    let h = bound (op g.mid) _ x rest g.then in
    let i = bound (expect is_close h.mid) _ x rest h.then in
    let operands = closed_or_sound us ss first g.x g.mid before g.first in
    let o = op_sound g.mid h.x h.mid h.first in
    let last = close_sound h.mid i.x i.mid i.first in
    let inside = (printed.operands g.x).flat in
    let more : List Sym = op_flat h.x ++ at k.Close i.x ∷ [] in
    let flat : start ≡ at k.Open a ∷ ((inside ++ more) ++ i.mid) = ap (λ vs. at k.Open a ∷ vs) (between3 us g.mid inside more i.mid operands.flat (between g.mid h.mid (op_flat h.x) k.Close i.x i.mid o.flat last)) in
    built printed.aexp _ start i.mid _ x rest (printed_aexp_left (covered start i.mid) a g.x h.x i.x) i.then flat (spanned_taken start i.mid _ _ flat operands.good)

var_alone_sound : (us : List Sym) (v : Var) (ss : List Sym) (x : Aexp) (rest : List Sym) → Taken any_print us v ss → taken (v_Aexp.Var v) ss ≡ taken x rest → Taken printed.aexp us x rest
var_alone_sound us v ss x rest before e = built printed.aexp _ us ss _ x rest (printed_aexp_var v) e before.flat before.good

con_aexp_sound : (ss : List Sym) (x : Aexp) (rest : List Sym) → and_then (gen_con ss) (λ c rest. taken (v_Aexp.Con c) rest) ≡ taken x rest → Taken printed.aexp ss x rest
con_aexp_sound ss x rest e =
    let h = bound (gen_con ss) _ x rest e in
    let c = gen_con_sound ss h.x h.mid h.first in
    built printed.aexp (printed.gen_con h.x) ss h.mid _ x rest (printed_aexp_con h.x) h.then c.flat c.good

module _ (K : Knot) (sound : KnotSound K) where
  part_sound : (ss : List Sym) (x : Part) (rest : List Sym) → comma_next ss ≡ true → part K ss ≡ taken x rest → Taken printed.part ss x rest
  unfolding part
  part_sound [] x rest b e = absurd (cc)
  part_sound (s ∷ ss) x rest b e =
      let h = bound (K.exp ss) _ x rest e in
      let inside = sound.exp ss h.x h.mid h.first in
      built printed.part _ (s ∷ ss) h.mid _ x rest (printed_part s.span h.x) h.then (comma_first s ss b ∙ ap (λ m. at k.Comma s.span ∷ m) inside.flat) inside.good

  parts_sound : (ss : List Sym) (xs : List Part) (rest : List Sym) → parts K ss ≡ taken xs rest → AllTaken printed.part ss xs rest
  unfolding parts
  parts_sound ss xs rest e = many_sound printed.part comma_next (part K) part_sound (length ss) ss xs rest e

  tuple_sound : (a : Span) (us ss : List Sym) (first : Exp) (x : Aexp) (rest : List Sym) → Taken printed.exp us first ss → tuple K (at k.Open a ∷ us) a first ss ≡ taken x rest → Taken printed.aexp (at k.Open a ∷ us) x rest
  unfolding tuple
  tuple_sound a us ss first x rest before e =
      let start : List Sym = at k.Open a ∷ us in
      let h = bound (parts K ss) _ x rest e in
      let i = bound (expect is_close h.mid) _ x rest h.then in
      let others = parts_sound ss h.x h.mid h.first in
      let last = close_sound h.mid i.x i.mid i.first in
      let j = only_if (is_tuple h.x) (v_Aexp.Tuple (covered start i.mid) a first h.x i.x, i.mid) (x, rest) i.then in
      let inside = (printed.exp first).flat in
      let more : List Sym = flat_all (map printed.part h.x) ++ at k.Close i.x ∷ [] in
      let flat : start ≡ at k.Open a ∷ ((inside ++ more) ++ i.mid) =
      ap (λ m. at k.Open a ∷ m) (between3 us ss inside more i.mid before.flat (between ss h.mid (flat_all (map printed.part h.x)) k.Close i.x i.mid others.flat last)) in
      built printed.aexp _ start i.mid _ x rest (printed_aexp_tuple (covered start i.mid) a first h.x i.x) j.1 flat
      (spanned_taken start i.mid _ _ flat (and_is before.good (and_is others.good (tuple_parts printed.part h.x j.0))))

  behind_by_sound : (kind : Option Kind) (a : Span) (us ss : List Sym) (first : Exp) (x : Aexp) (rest : List Sym) → Taken printed.exp us first ss → behind_by K kind (at k.Open a ∷ us) a first ss ≡ taken x rest
      → Taken printed.aexp (at k.Open a ∷ us) x rest
  behind_by_sound (Some k.Close) a us ss first x rest before e = paren_sound a us ss first x rest before e
  behind_by_sound (Some k.Comma) a us ss first x rest before e = tuple_sound a us ss first x rest before e
  behind_by_sound _ a us ss first x rest before e = left_section_sound a us ss first x rest before e

  right_section_sound : (a : Span) (ss : List Sym) (x : Aexp) (rest : List Sym) → right_next ss ≡ true → right_section K (at k.Open a ∷ ss) a ss ≡ taken x rest → Taken printed.aexp (at k.Open a ∷ ss) x rest
  unfolding right_section
  right_section_sound a ss x rest b e =
      let start : List Sym = at k.Open a ∷ ss in
      let g = bound (op ss) _ x rest e in
      let h = bound (plain K g.mid) _ x rest g.then in
      let i = bound (expect is_close h.mid) _ x rest h.then in
      let o = op_sound ss g.x g.mid g.first in
      let operands = plain_sound K sound g.mid h.x h.mid h.first in
      let last = close_sound h.mid i.x i.mid i.first in
      let more : List Sym = (printed.operands h.x).flat ++ at k.Close i.x ∷ [] in
      let flat : start ≡ at k.Open a ∷ ((op_flat g.x ++ more) ++ i.mid) =
      ap (λ vs. at k.Open a ∷ vs) (between3 ss g.mid (op_flat g.x) more i.mid o.flat (between g.mid h.mid (printed.operands h.x).flat k.Close i.x i.mid operands.flat last)) in
      built printed.aexp _ start i.mid _ x rest (printed_aexp_right (covered start i.mid) a g.x h.x i.x) i.then flat (spanned_taken start i.mid _ _ flat (and_is operands.good (right_op ss g.x g.mid b g.first)))

  enclosed_sound : (a : Span) (ss : List Sym) (x : Aexp) (rest : List Sym) → enclosed K (at k.Open a ∷ ss) a ss ≡ taken x rest → Taken printed.aexp (at k.Open a ∷ ss) x rest
  unfolding enclosed behind
  enclosed_sound a ss x rest e =
      let h = bound (K.exp ss) _ x rest e in
      behind_by_sound (kind h.mid) a ss h.mid h.x x rest (sound.exp ss h.x h.mid h.first) h.then

  opened_sound : (a : Span) (ss : List Sym) (x : Aexp) (rest : List Sym) → opened K (at k.Open a ∷ ss) a ss ≡ taken x rest → Taken printed.aexp (at k.Open a ∷ ss) x rest
  unfolding opened
  opened_sound a ss x rest e =
      either printed.aexp (at k.Open a ∷ ss) x rest (right_next ss) (right_section K (at k.Open a ∷ ss) a ss) (enclosed K (at k.Open a ∷ ss) a ss)
      (right_section_sound a ss x rest) (λ b. enclosed_sound a ss x rest) e

  listed_sound : (a : Span) (ss : List Sym) (x : Aexp) (rest : List Sym) → listed K (at k.OpenList a ∷ ss) a ss ≡ taken x rest → Taken printed.aexp (at k.OpenList a ∷ ss) x rest
  unfolding listed
  listed_sound a ss x rest e =
      let start : List Sym = at k.OpenList a ∷ ss in
      let g = bound (K.exp ss) _ x rest e in
      let h = bound (parts K g.mid) _ x rest g.then in
      let i = bound (expect is_close_list h.mid) _ x rest h.then in
      let first = sound.exp ss g.x g.mid g.first in
      let others = parts_sound g.mid h.x h.mid h.first in
      let last = close_list_sound h.mid i.x i.mid i.first in
      let inside = (printed.exp g.x).flat in
      let more : List Sym = flat_all (map printed.part h.x) ++ at k.CloseList i.x ∷ [] in
      let flat : start ≡ at k.OpenList a ∷ ((inside ++ more) ++ i.mid) =
      ap (λ m. at k.OpenList a ∷ m) (between3 ss g.mid inside more i.mid first.flat (between g.mid h.mid (flat_all (map printed.part h.x)) k.CloseList i.x i.mid others.flat last)) in
      built printed.aexp _ start i.mid _ x rest (printed_aexp_list (covered start i.mid) a g.x h.x i.x) i.then flat (spanned_taken start i.mid _ _ flat (and_is first.good others.good))

  generic_sound : (us : List Sym) (v : Var) (a : Span) (ss : List Sym) (x : Aexp) (rest : List Sym) → Taken any_print us v (at k.OpenBanana a ∷ ss) → generic K us v (at k.OpenBanana a ∷ ss) ≡ taken x rest → Taken printed.aexp us x rest
  unfolding generic
  generic_sound us v a ss x rest before e =
      let h = bound (K.typ ss) _ x rest e in
      let i = bound (expect is_close_banana h.mid) _ x rest h.then in
      let typ = sound.typ ss h.x h.mid h.first in
      let last = close_banana_sound h.mid i.x i.mid i.first in
      let inside : List Sym = at k.OpenBanana a ∷ ((printed.type_expr h.x).flat ++ at k.CloseBanana i.x ∷ []) in
      let right : at k.OpenBanana a ∷ ss ≡ inside ++ i.mid = ap (λ ts. at k.OpenBanana a ∷ ts) (between ss h.mid (printed.type_expr h.x).flat k.CloseBanana i.x i.mid typ.flat last) in
      let flat : us ≡ (printed.var v ++ inside) ++ i.mid = between3 us (at k.OpenBanana a ∷ ss) (printed.var v) inside i.mid before.flat right in
      built printed.aexp _ us i.mid _ x rest (printed_aexp_generic (covered us i.mid) v a h.x i.x) i.then flat (spanned_taken us i.mid _ _ flat typ.good)

  after_by_sound : (us : List Sym) (v : Var) (kind : Kind) (span : Span) (ss : List Sym) (x : Aexp) (rest : List Sym) → Taken any_print us v (at kind span ∷ ss) → after_var_by K (Some kind) us v (at kind span ∷ ss) ≡ taken x rest
      → Taken printed.aexp us x rest
  after_by_sound us v k.OpenBanana a ss x rest before e = generic_sound us v a ss x rest before e
  after_by_sound us v kind a ss x rest before e = var_alone_sound us v (at kind a ∷ ss) x rest before e

  after_sound : (us : List Sym) (v : Var) (ss : List Sym) (x : Aexp) (rest : List Sym) → Taken any_print us v ss → after_var K us v ss ≡ taken x rest → Taken printed.aexp us x rest
  unfolding after_var
  after_sound us v [] x rest before e = var_alone_sound us v [] x rest before e
  after_sound us v (s ∷ ss) x rest before e = after_by_sound us v s.kind s.span ss x rest before e

  var_aexp_sound : (ss : List Sym) (x : Aexp) (rest : List Sym) → var_aexp K ss ss ≡ taken x rest → Taken printed.aexp ss x rest
  unfolding var_aexp
  var_aexp_sound ss x rest e =
      let h = bound (any_var ss) _ x rest e in
      after_sound ss h.x h.mid x rest (any_var_sound ss h.x h.mid h.first) h.then

  other_by_sound : (kind : Kind) (span : Span) (ss : List Sym) (x : Aexp) (rest : List Sym) → other_aexp_by K (Some kind) (at kind span ∷ ss) (at kind span ∷ ss) ≡ taken x rest → Taken printed.aexp (at kind span ∷ ss) x rest
  other_by_sound (k.Int n) a ss x rest e = built printed.aexp _ _ ss _ x rest (printed_aexp_int a n) e refl refl
  other_by_sound (k.Char c) a ss x rest e = built printed.aexp _ _ ss _ x rest (printed_aexp_char a c) e refl refl
  other_by_sound (k.Str cs) a ss x rest e = built printed.aexp _ _ ss _ x rest (printed_aexp_str a cs) e refl refl
  other_by_sound k.Open a ss x rest e = opened_sound a ss x rest e
  other_by_sound k.OpenList a ss x rest e = listed_sound a ss x rest e
  other_by_sound _ a ss x rest e = absurd (cc)

  other_sound : (ss : List Sym) (x : Aexp) (rest : List Sym) → other_aexp K ss ss ≡ taken x rest → Taken printed.aexp ss x rest
  unfolding other_aexp
  other_sound [] x rest e = absurd (cc)
  other_sound (s ∷ ss) x rest e = other_by_sound s.kind s.span ss x rest e

  pub aexp_sound : SoundAt printed.aexp (aexp K)
  unfolding aexp
  aexp_sound ss x rest e =
      either printed.aexp ss x rest (con_next ss) (and_then (gen_con ss) (λ c rest. taken (v_Aexp.Con c) rest)) (cond (any_var_next ss) (var_aexp K ss ss) (other_aexp K ss ss)) (λ b. con_aexp_sound ss x rest)
      (λ b. either printed.aexp ss x rest (any_var_next ss) (var_aexp K ss ss) (other_aexp K ss ss) (λ c. var_aexp_sound ss x rest) (λ c. other_sound ss x rest)) e

  pub aexps_sound : (ss : List Sym) (xs : List Aexp) (rest : List Sym) → aexps K ss ≡ taken xs rest → AllTaken printed.aexp ss xs rest
  unfolding aexps
  aexps_sound ss xs rest e = many_sound printed.aexp begins_aexp (aexp K) (λ ss x rest b e. aexp_sound ss x rest e) (length ss) ss xs rest e
