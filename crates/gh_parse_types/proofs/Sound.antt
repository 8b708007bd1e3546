-- What is read as a type is the print of a well-formed type.
use Rattle.std.proofs.Common.{◌≡◌, ℕ, zero, suc, true, List, [], ◌∷◌, ◌++◌, length, map, Option, Some, None, refl, ap, ◌∙◌}
use Rattle.gh_base.specs.declared.place.Span.{Span}
use Rattle.gh_tree.specs.declared.symbol.Kind.{Kind}
use Rattle.gh_tree.specs.declared.symbol.Kind.TheVariants as k
use Rattle.gh_tree.specs.declared.symbol.Sym.{Sym}
use Rattle.gh_tree.specs.declared.types.ArgType.{ArgType}
use Rattle.gh_tree.specs.declared.types.ArgType.TheVariants as v_ArgType
use Rattle.gh_tree.specs.declared.types.Arrow.{Arrow}
use Rattle.gh_tree.specs.declared.types.TypeExpr.{TypeExpr}
use Rattle.gh_tree.specs.declared.types.TypePart.{TypePart}
use Rattle.gh_tree.specs.Syms.{at}
use Rattle.gh_tree.specs.Print.{Print, print, spanned, flat_all, good_all, is_tuple}
use Rattle.gh_tree.specs.Print as printed
use Rattle.gh_tree.specs.Read.{Read, and_then, taken, kind, expect, covered, is_close, is_close_list, is_arrow, comma_next, commas}
use Rattle.gh_tree.specs.ReadTypes.{begins_arg, arrow_next, no_tuple, type_part, type_parts, enclosed, paren, behind_by, behind, unit, no_arrow, opened_by, opened, no_list, list_end, listed_by, listed, arg_type_by, arg_type, arg_types, btype, arrow, arrows, whole, type_expr}
use Rattle.gh_tree.proofs.Steps.{bound, and_is, spanned_taken}
use Rattle.gh_tree.proofs.Many.{Taken, AllTaken, many_sound}
use Rattle.gh_tree.proofs.Printed.{printed_arg_type_con, printed_arg_type_var, printed_arg_type_unit, printed_arg_type_no_list, printed_arg_type_no_arrow, printed_arg_type_no_tuple, printed_arg_type_paren, printed_arg_type_tuple, printed_arg_type_list, printed_arrow, printed_btype, printed_type_expr, printed_type_part}
use Rattle.gh_reader.proofs.Sound.{SoundAt, built, only_if, close_sound, close_list_sound, comma_first, commas_sound, between, between3, tuple_parts}

arrow_is : (x : Kind) → is_arrow (Some x) ≡ true → x ≡ k.Arrow
arrow_is k.Arrow e = refl
arrow_is _ e = absurd (cc)

arrow_first : (s : Sym) (ss : List Sym) → arrow_next (s ∷ ss) ≡ true → s ∷ ss ≡ at k.Arrow s.span ∷ ss
arrow_first s ss e = let j = arrow_is s.kind e in λ t. at (j t) s.span ∷ ss

no_tuple_sound : (a : Span) (ss : List Sym) (x : ArgType) (rest : List Sym) → no_tuple (at k.Open a ∷ ss) a ss ≡ taken x rest → Taken printed.arg_type (at k.Open a ∷ ss) x rest
unfolding no_tuple
no_tuple_sound a ss x rest e =
    let start : List Sym = at k.Open a ∷ ss in
    let h = bound (commas ss) _ x rest e in
    let i = bound (expect is_close h.mid) _ x rest h.then in
    let marks = commas_sound ss h.x h.mid h.first in
    let last = close_sound h.mid i.x i.mid i.first in
    let j = only_if (is_tuple h.x) (v_ArgType.NoTuple (covered start i.mid) a h.x i.x, i.mid) (x, rest) i.then in
    let flat : start ≡ at k.Open a ∷ ((printed.commas h.x ++ at k.Close i.x ∷ []) ++ i.mid) = ap (λ us. at k.Open a ∷ us) (between ss h.mid (printed.commas h.x) k.Close i.x i.mid marks last) in
    built printed.arg_type _ start i.mid _ x rest (printed_arg_type_no_tuple (covered start i.mid) a h.x i.x) j.1 flat (spanned_taken start i.mid _ _ flat j.0)

unit_sound : (a b : Span) (ss : List Sym) (x : ArgType) (rest : List Sym) → unit (at k.Open a ∷ at k.Close b ∷ ss) a (at k.Close b ∷ ss) ≡ taken x rest → Taken printed.arg_type (at k.Open a ∷ at k.Close b ∷ ss) x rest
unfolding unit
unit_sound a b ss x rest e =
    let start : List Sym = at k.Open a ∷ at k.Close b ∷ ss in
    built printed.arg_type _ start ss _ x rest (printed_arg_type_unit (covered start ss) a b) e refl (spanned_taken start ss (at k.Open a ∷ at k.Close b ∷ []) true refl refl)

no_list_sound : (a b : Span) (ss : List Sym) (x : ArgType) (rest : List Sym) → no_list (at k.OpenList a ∷ at k.CloseList b ∷ ss) a (at k.CloseList b ∷ ss) ≡ taken x rest → Taken printed.arg_type (at k.OpenList a ∷ at k.CloseList b ∷ ss) x rest
unfolding no_list
no_list_sound a b ss x rest e =
    let start : List Sym = at k.OpenList a ∷ at k.CloseList b ∷ ss in
    built printed.arg_type _ start ss _ x rest (printed_arg_type_no_list (covered start ss) a b) e refl (spanned_taken start ss (at k.OpenList a ∷ at k.CloseList b ∷ []) true refl refl)

no_arrow_sound : (a m : Span) (ss : List Sym) (x : ArgType) (rest : List Sym) → no_arrow (at k.Open a ∷ at k.Arrow m ∷ ss) a (at k.Arrow m ∷ ss) ≡ taken x rest → Taken printed.arg_type (at k.Open a ∷ at k.Arrow m ∷ ss) x rest
unfolding no_arrow
no_arrow_sound a m ss x rest e =
    let start : List Sym = at k.Open a ∷ at k.Arrow m ∷ ss in
    let h = bound (expect is_close ss) _ x rest e in
    let last = close_sound ss h.x h.mid h.first in
    let flat : start ≡ at k.Open a ∷ at k.Arrow m ∷ at k.Close h.x ∷ h.mid = ap (λ us. at k.Open a ∷ at k.Arrow m ∷ us) last in
    built printed.arg_type _ start h.mid _ x rest (printed_arg_type_no_arrow (covered start h.mid) a m h.x) h.then flat (spanned_taken start h.mid (at k.Open a ∷ at k.Arrow m ∷ at k.Close h.x ∷ []) true flat refl)

paren_sound : (a : Span) (us ss : List Sym) (first : TypeExpr) (x : ArgType) (rest : List Sym) → Taken printed.type_expr us first ss → paren (at k.Open a ∷ us) a first ss ≡ taken x rest
    → Taken printed.arg_type (at k.Open a ∷ us) x rest
unfolding paren
paren_sound a us ss first x rest before e =
    let start : List Sym = at k.Open a ∷ us in
    let h = bound (expect is_close ss) _ x rest e in
    let last = close_sound ss h.x h.mid h.first in
    let inside = (printed.type_expr first).flat in
    let flat : start ≡ at k.Open a ∷ ((inside ++ at k.Close h.x ∷ []) ++ h.mid) = ap (λ vs. at k.Open a ∷ vs) (between us ss inside k.Close h.x h.mid before.flat last) in
    built printed.arg_type _ start h.mid _ x rest (printed_arg_type_paren (covered start h.mid) a first h.x) h.then flat (spanned_taken start h.mid _ _ flat before.good)

list_end_sound : (a : Span) (us ss : List Sym) (first : TypeExpr) (x : ArgType) (rest : List Sym) → Taken printed.type_expr us first ss → list_end (at k.OpenList a ∷ us) a first ss ≡ taken x rest
    → Taken printed.arg_type (at k.OpenList a ∷ us) x rest
unfolding list_end
list_end_sound a us ss first x rest before e =
    let start : List Sym = at k.OpenList a ∷ us in
    let h = bound (expect is_close_list ss) _ x rest e in
    let last = close_list_sound ss h.x h.mid h.first in
    let inside = (printed.type_expr first).flat in
    let flat : start ≡ at k.OpenList a ∷ ((inside ++ at k.CloseList h.x ∷ []) ++ h.mid) = ap (λ vs. at k.OpenList a ∷ vs) (between us ss inside k.CloseList h.x h.mid before.flat last) in
    built printed.arg_type _ start h.mid _ x rest (printed_arg_type_list (covered start h.mid) a first h.x) h.then flat (spanned_taken start h.mid _ _ flat before.good)

module _ (T : Read TypeExpr) (sound : SoundAt printed.type_expr T) where
  part_sound : (ss : List Sym) (x : TypePart) (rest : List Sym) → comma_next ss ≡ true → type_part T ss ≡ taken x rest → Taken printed.type_part ss x rest
  unfolding type_part
  part_sound [] x rest b e = absurd (cc)
  part_sound (s ∷ ss) x rest b e =
      let h = bound (T ss) _ x rest e in
      let part = sound ss h.x h.mid h.first in
      built printed.type_part _ (s ∷ ss) h.mid _ x rest (printed_type_part s.span h.x) h.then (comma_first s ss b ∙ ap (λ m. at k.Comma s.span ∷ m) part.flat) part.good

  parts_sound : (ss : List Sym) (xs : List TypePart) (rest : List Sym) → type_parts T ss ≡ taken xs rest → AllTaken printed.type_part ss xs rest
  unfolding type_parts
  parts_sound ss xs rest e = many_sound printed.type_part comma_next (type_part T) part_sound (length ss) ss xs rest e

  enclosed_sound : (a : Span) (us ss : List Sym) (first : TypeExpr) (x : ArgType) (rest : List Sym) → Taken printed.type_expr us first ss → enclosed T (at k.Open a ∷ us) a first ss ≡ taken x rest
      → Taken printed.arg_type (at k.Open a ∷ us) x rest
  unfolding enclosed
  enclosed_sound a us ss first x rest before e =
      let start : List Sym = at k.Open a ∷ us in
      let h = bound (type_parts T ss) _ x rest e in
      let i = bound (expect is_close h.mid) _ x rest h.then in
      let others = parts_sound ss h.x h.mid h.first in
      let last = close_sound h.mid i.x i.mid i.first in
      let j = only_if (is_tuple h.x) (v_ArgType.Tuple (covered start i.mid) a first h.x i.x, i.mid) (x, rest) i.then in
      let inside = (printed.type_expr first).flat in
      let more : List Sym = flat_all (map printed.type_part h.x) ++ at k.Close i.x ∷ [] in
      let flat : start ≡ at k.Open a ∷ ((inside ++ more) ++ i.mid) =
      ap (λ m. at k.Open a ∷ m) (between3 us ss inside more i.mid before.flat (between ss h.mid (flat_all (map printed.type_part h.x)) k.Close i.x i.mid others.flat last)) in
      built printed.arg_type _ start i.mid _ x rest (printed_arg_type_tuple (covered start i.mid) a first h.x i.x) j.1 flat
      (spanned_taken start i.mid _ _ flat (and_is before.good (and_is others.good (tuple_parts printed.type_part h.x j.0))))

  behind_by_sound : (kind : Option Kind) (a : Span) (us ss : List Sym) (first : TypeExpr) (x : ArgType) (rest : List Sym) → Taken printed.type_expr us first ss → behind_by T kind (at k.Open a ∷ us) a first ss ≡ taken x rest
      → Taken printed.arg_type (at k.Open a ∷ us) x rest
  behind_by_sound (Some k.Comma) a us ss first x rest before e = enclosed_sound a us ss first x rest before e
  behind_by_sound _ a us ss first x rest before e = paren_sound a us ss first x rest before e

  open_type_sound : (a : Span) (ss : List Sym) (x : ArgType) (rest : List Sym) → and_then (T ss) (behind T (at k.Open a ∷ ss) a) ≡ taken x rest → Taken printed.arg_type (at k.Open a ∷ ss) x rest
  unfolding behind
  open_type_sound a ss x rest e =
      let h = bound (T ss) _ x rest e in
      behind_by_sound (kind h.mid) a ss h.mid h.x x rest (sound ss h.x h.mid h.first) h.then

  list_type_sound : (a : Span) (ss : List Sym) (x : ArgType) (rest : List Sym) → and_then (T ss) (list_end (at k.OpenList a ∷ ss) a) ≡ taken x rest → Taken printed.arg_type (at k.OpenList a ∷ ss) x rest
  list_type_sound a ss x rest e =
      let h = bound (T ss) _ x rest e in
      list_end_sound a ss h.mid h.x x rest (sound ss h.x h.mid h.first) h.then

  opened_by_sound : (kind : Kind) (a span : Span) (ss : List Sym) (x : ArgType) (rest : List Sym) → opened_by T (Some kind) (at k.Open a ∷ at kind span ∷ ss) a (at kind span ∷ ss) ≡ taken x rest
      → Taken printed.arg_type (at k.Open a ∷ at kind span ∷ ss) x rest
  opened_by_sound k.Close a b ss x rest e = unit_sound a b ss x rest e
  opened_by_sound k.Arrow a m ss x rest e = no_arrow_sound a m ss x rest e
  opened_by_sound k.Comma a b ss x rest e = no_tuple_sound a (at k.Comma b ∷ ss) x rest e
  opened_by_sound kind a b ss x rest e = open_type_sound a (at kind b ∷ ss) x rest e

  opened_sound : (a : Span) (ss : List Sym) (x : ArgType) (rest : List Sym) → opened T (at k.Open a ∷ ss) a ss ≡ taken x rest → Taken printed.arg_type (at k.Open a ∷ ss) x rest
  unfolding opened
  opened_sound a [] x rest e = open_type_sound a [] x rest e
  opened_sound a (s ∷ ss) x rest e = opened_by_sound s.kind a s.span ss x rest e

  listed_by_sound : (kind : Kind) (a span : Span) (ss : List Sym) (x : ArgType) (rest : List Sym) → listed_by T (Some kind) (at k.OpenList a ∷ at kind span ∷ ss) a (at kind span ∷ ss) ≡ taken x rest
      → Taken printed.arg_type (at k.OpenList a ∷ at kind span ∷ ss) x rest
  listed_by_sound k.CloseList a b ss x rest e = no_list_sound a b ss x rest e
  listed_by_sound kind a b ss x rest e = list_type_sound a (at kind b ∷ ss) x rest e

  listed_sound : (a : Span) (ss : List Sym) (x : ArgType) (rest : List Sym) → listed T (at k.OpenList a ∷ ss) a ss ≡ taken x rest → Taken printed.arg_type (at k.OpenList a ∷ ss) x rest
  unfolding listed
  listed_sound a [] x rest e = list_type_sound a [] x rest e
  listed_sound a (s ∷ ss) x rest e = listed_by_sound s.kind a s.span ss x rest e

  arg_by_sound : (kind : Kind) (span : Span) (ss : List Sym) (x : ArgType) (rest : List Sym) → arg_type_by T (Some kind) (at kind span ∷ ss) (at kind span ∷ ss) ≡ taken x rest → Taken printed.arg_type (at kind span ∷ ss) x rest
  arg_by_sound (k.ConId q n) a ss x rest e = built printed.arg_type _ _ ss _ x rest (printed_arg_type_con (record { span = a; qualifier = q; id = n })) e refl refl
  arg_by_sound (k.VarId None n) a ss x rest e = built printed.arg_type _ _ ss _ x rest (printed_arg_type_var (record { span = a; qualifier = None; id = n })) e refl refl
  arg_by_sound k.Open a ss x rest e = opened_sound a ss x rest e
  arg_by_sound k.OpenList a ss x rest e = listed_sound a ss x rest e
  arg_by_sound _ a ss x rest e = absurd (cc)

  pub arg_sound : SoundAt printed.arg_type (arg_type T)
  unfolding arg_type
  arg_sound [] x rest e = absurd (cc)
  arg_sound (s ∷ ss) x rest e = arg_by_sound s.kind s.span ss x rest e

  pub args_sound : (ss : List Sym) (xs : List ArgType) (rest : List Sym) → arg_types T ss ≡ taken xs rest → AllTaken printed.arg_type ss xs rest
  unfolding arg_types
  args_sound ss xs rest e = many_sound printed.arg_type begins_arg (arg_type T) (λ ss x rest b e. arg_sound ss x rest e) (length ss) ss xs rest e

  pub btype_sound : SoundAt printed.btype (btype T)
  unfolding btype
  btype_sound ss x rest e =
      let h = bound (arg_type T ss) _ x rest e in
      let i = bound (arg_types T h.mid) _ x rest h.then in
      let head = arg_sound ss h.x h.mid h.first in
      let args = args_sound h.mid i.x i.mid i.first in
      let flat = between3 ss h.mid (printed.arg_type h.x).flat (flat_all (map printed.arg_type i.x)) i.mid head.flat args.flat in
      built printed.btype _ ss i.mid _ x rest (printed_btype (covered ss i.mid) h.x i.x) i.then flat (spanned_taken ss i.mid _ _ flat (and_is head.good args.good))

  arrow_sound : (ss : List Sym) (x : Arrow) (rest : List Sym) → arrow_next ss ≡ true → arrow T ss ≡ taken x rest → Taken printed.arrow ss x rest
  unfolding arrow
  arrow_sound [] x rest b e = absurd (cc)
  arrow_sound (s ∷ ss) x rest b e =
      let h = bound (btype T ss) _ x rest e in
      let to = btype_sound ss h.x h.mid h.first in
      built printed.arrow _ (s ∷ ss) h.mid _ x rest (printed_arrow s.span h.x) h.then (arrow_first s ss b ∙ ap (λ m. at k.Arrow s.span ∷ m) to.flat) to.good

  arrows_sound : (ss : List Sym) (xs : List Arrow) (rest : List Sym) → arrows T ss ≡ taken xs rest → AllTaken printed.arrow ss xs rest
  unfolding arrows
  arrows_sound ss xs rest e = many_sound printed.arrow arrow_next (arrow T) arrow_sound (length ss) ss xs rest e

  pub whole_sound : SoundAt printed.type_expr (whole T)
  unfolding whole
  whole_sound ss x rest e =
      let h = bound (btype T ss) _ x rest e in
      let i = bound (arrows T h.mid) _ x rest h.then in
      let first = btype_sound ss h.x h.mid h.first in
      let others = arrows_sound h.mid i.x i.mid i.first in
      let flat = between3 ss h.mid (printed.btype h.x).flat (flat_all (map printed.arrow i.x)) i.mid first.flat others.flat in
      built printed.type_expr _ ss i.mid _ x rest (printed_type_expr (covered ss i.mid) h.x i.x) i.then flat (spanned_taken ss i.mid _ _ flat (and_is first.good others.good))

pub type_sound : (n : ℕ) → SoundAt printed.type_expr (type_expr n)
unfolding type_expr
type_sound zero ss x rest e = absurd (cc)
type_sound (suc n) ss x rest e = whole_sound (type_expr n) (type_sound n) ss x rest e
