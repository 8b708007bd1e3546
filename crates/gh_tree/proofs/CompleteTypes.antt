-- What is printed of a well-formed type is read, whatever follows that does not go on with it. So a list of tokens has one type.
use Rattle.std.proofs.Common.{◌≡◌, ℕ, zero, suc, ◌≤◌, Bool, true, false, not, ◌&&◌, cond, List, [], ◌∷◌, ◌++◌, length, map, Option, Some, None, refl, sym, ap, ◌∙◌, subst, append_assoc, arith, length-append, nat_lt}
use Rattle.std.proofs.lemmas.List.{length-map}
use Rattle.gh_base.specs.declared.names.NameId.{NameId}
use Rattle.gh_base.specs.declared.place.Span.{Span}
use Rattle.gh_tree.specs.declared.symbol.Kind.{Kind}
use Rattle.gh_tree.specs.declared.symbol.Kind.TheVariants as k
use Rattle.gh_tree.specs.declared.symbol.Sym.{Sym}
use Rattle.gh_tree.specs.declared.names.Name.{Name}
use Rattle.gh_tree.specs.declared.types.ArgType.{ArgType, roll-ArgType, out-ArgType, roll-out-ArgType}
use Rattle.gh_tree.specs.declared.types.ArgType.TheVariants as v_ArgType
use Rattle.gh_tree.specs.declared.types.ArgType.TheOpen.{ArgType-F}
use Rattle.gh_tree.specs.declared.types.Arrow.{Arrow, out-Arrow, roll-out-Arrow}
use Rattle.gh_tree.specs.declared.types.BType.{BType, roll-BType, out-BType, roll-out-BType}
use Rattle.gh_tree.specs.declared.types.TypeExpr.{TypeExpr, roll-TypeExpr, out-TypeExpr, roll-out-TypeExpr}
use Rattle.gh_tree.specs.declared.types.TypePart.{TypePart, out-TypePart, roll-out-TypePart}
use Rattle.gh_tree.specs.Syms.{at}
use Rattle.gh_tree.specs.Print.{Print, print, spanned, flat_all, good_all, is_tuple, is_none, var_id, con_id, plain, HaveOneType}
use Rattle.gh_tree.specs.Print as printed
use Rattle.gh_tree.specs.Read.{Read, and_then, taken, kind, covered, is_comma, is_arrow, comma_next}
use Rattle.gh_tree.specs.ReadTypes.{begins_arg, begins_arg_by, arrow_next, no_tuple, type_part, type_parts, enclosed, paren, behind_by, behind, unit, no_arrow, opened_by, opened, no_list, list_end, listed_by, listed, arg_type, arg_types, btype, arrow, arrows, whole, type_expr, ends_btype, ends_type}
use Rattle.gh_tree.proofs.Steps.{chain, both, and_is, not_is, spanned_span, some_is}
use Rattle.gh_tree.proofs.Many.{some_token, items_complete, Complete, CompleteAll, anything}
use Rattle.gh_tree.proofs.CompleteNames.{commas_complete}
use Rattle.gh_tree.proofs.Printed.{printed_arg_type_con, printed_arg_type_var, printed_arg_type_unit, printed_arg_type_no_list, printed_arg_type_no_arrow, printed_arg_type_no_tuple, printed_arg_type_paren, printed_arg_type_tuple, printed_arg_type_list, printed_arrow, printed_btype, printed_type_expr, printed_type_part}

abbrev pub Layer : Type 0
Layer = ArgType-F ArgType Arrow BType TypeExpr TypePart

-- one level of a type that may be an argument
unfoldable pub layer : Layer → Print
layer (ArgType-F.Con x0) = print (con_id x0 ∷ []) true
layer (ArgType-F.Var x0) = print (var_id x0 ∷ []) (plain x0)
layer (ArgType-F.Unit x0 x1 x2) = spanned x0 (at k.Open x1 ∷ at k.Close x2 ∷ []) true
layer (ArgType-F.NoList x0 x1 x2) = spanned x0 (at k.OpenList x1 ∷ at k.CloseList x2 ∷ []) true
layer (ArgType-F.NoArrow x0 x1 x2 x3) = spanned x0 (at k.Open x1 ∷ at k.Arrow x2 ∷ at k.Close x3 ∷ []) true
layer (ArgType-F.NoTuple x0 x1 x2 x3) = spanned x0 (at k.Open x1 ∷ (printed.commas x2 ++ at k.Close x3 ∷ [])) (is_tuple x2)
layer (ArgType-F.Paren x0 x1 x2 x3) = spanned x0 (at k.Open x1 ∷ ((printed.type_expr x2).flat ++ at k.Close x3 ∷ [])) (printed.type_expr x2).good
layer (ArgType-F.Tuple x0 x1 x2 x3 x4) = spanned x0 (at k.Open x1 ∷ ((printed.type_expr x2).flat ++ (flat_all (map printed.type_part x3) ++ at k.Close x4 ∷ []))) ((printed.type_expr x2).good && (good_all (map printed.type_part x3) && is_tuple (map printed.type_part x3)))
layer (ArgType-F.List x0 x1 x2 x3) = spanned x0 (at k.OpenList x1 ∷ ((printed.type_expr x2).flat ++ at k.CloseList x3 ∷ [])) (printed.type_expr x2).good

layer_printed : (y : Layer) → printed.arg_type (roll-ArgType y) ≡ layer y
unfolding layer
layer_printed (ArgType-F.Con x0) = ap printed.arg_type (v_ArgType.rolls-Con x0) ∙ printed_arg_type_con x0
layer_printed (ArgType-F.Var x0) = ap printed.arg_type (v_ArgType.rolls-Var x0) ∙ printed_arg_type_var x0
layer_printed (ArgType-F.Unit x0 x1 x2) = ap printed.arg_type (v_ArgType.rolls-Unit x0 x1 x2) ∙ printed_arg_type_unit x0 x1 x2
layer_printed (ArgType-F.NoList x0 x1 x2) = ap printed.arg_type (v_ArgType.rolls-NoList x0 x1 x2) ∙ printed_arg_type_no_list x0 x1 x2
layer_printed (ArgType-F.NoArrow x0 x1 x2 x3) = ap printed.arg_type (v_ArgType.rolls-NoArrow x0 x1 x2 x3) ∙ printed_arg_type_no_arrow x0 x1 x2 x3
layer_printed (ArgType-F.NoTuple x0 x1 x2 x3) = ap printed.arg_type (v_ArgType.rolls-NoTuple x0 x1 x2 x3) ∙ printed_arg_type_no_tuple x0 x1 x2 x3
layer_printed (ArgType-F.Paren x0 x1 x2 x3) = ap printed.arg_type (v_ArgType.rolls-Paren x0 x1 x2 x3) ∙ printed_arg_type_paren x0 x1 x2 x3
layer_printed (ArgType-F.Tuple x0 x1 x2 x3 x4) = ap printed.arg_type (v_ArgType.rolls-Tuple x0 x1 x2 x3 x4) ∙ printed_arg_type_tuple x0 x1 x2 x3 x4
layer_printed (ArgType-F.List x0 x1 x2 x3) = ap printed.arg_type (v_ArgType.rolls-List x0 x1 x2 x3) ∙ printed_arg_type_list x0 x1 x2 x3

arg_at : (x : ArgType) → printed.arg_type x ≡ layer (out-ArgType x)
arg_at x = ap printed.arg_type (sym (roll-out-ArgType x)) ∙ layer_printed (out-ArgType x)

btype_at : (x : BType) → printed.btype x ≡ spanned (out-BType x).span ((printed.arg_type (out-BType x).head).flat ++ flat_all (map printed.arg_type (out-BType x).args)) ((printed.arg_type (out-BType x).head).good && good_all (map printed.arg_type (out-BType x).args))
btype_at x = ap printed.btype (sym (roll-out-BType x)) ∙ printed_btype (out-BType x).span (out-BType x).head (out-BType x).args

type_at : (x : TypeExpr) → printed.type_expr x ≡ spanned (out-TypeExpr x).span ((printed.btype (out-TypeExpr x).first).flat ++ flat_all (map printed.arrow (out-TypeExpr x).arrows)) ((printed.btype (out-TypeExpr x).first).good && good_all (map printed.arrow (out-TypeExpr x).arrows))
type_at x = ap printed.type_expr (sym (roll-out-TypeExpr x)) ∙ printed_type_expr (out-TypeExpr x).span (out-TypeExpr x).first (out-TypeExpr x).arrows

arrow_at : (x : Arrow) → printed.arrow x ≡ print (at k.Arrow (out-Arrow x).mark ∷ (printed.btype (out-Arrow x).to).flat) (printed.btype (out-Arrow x).to).good
arrow_at x = ap printed.arrow (sym (roll-out-Arrow x)) ∙ printed_arrow (out-Arrow x).mark (out-Arrow x).to

part_at : (x : TypePart) → printed.type_part x ≡ print (at k.Comma (out-TypePart x).mark ∷ (printed.type_expr (out-TypePart x).part).flat) (printed.type_expr (out-TypePart x).part).good
part_at x = ap printed.type_part (sym (roll-out-TypePart x)) ∙ printed_type_part (out-TypePart x).mark (out-TypePart x).part

-- ---- what each begins with

var_starts : (q : Option NameId) (n : NameId) → is_none q ≡ true → begins_arg_by (Some (k.VarId q n)) ≡ true
var_starts None n e = refl
var_starts (Some m) n e = absurd (cc)

layer_starts : (y : Layer) (rest : List Sym) → (layer y).good ≡ true → begins_arg ((layer y).flat ++ rest) ≡ true
unfolding layer
layer_starts (ArgType-F.Con x0) rest good = refl
layer_starts (ArgType-F.Var x0) rest good = var_starts x0.qualifier x0.id good
layer_starts (ArgType-F.Unit x0 x1 x2) rest good = refl
layer_starts (ArgType-F.NoList x0 x1 x2) rest good = refl
layer_starts (ArgType-F.NoArrow x0 x1 x2 x3) rest good = refl
layer_starts (ArgType-F.NoTuple x0 x1 x2 x3) rest good = refl
layer_starts (ArgType-F.Paren x0 x1 x2 x3) rest good = refl
layer_starts (ArgType-F.Tuple x0 x1 x2 x3 x4) rest good = refl
layer_starts (ArgType-F.List x0 x1 x2 x3) rest good = refl

pub arg_starts : (x : ArgType) (rest : List Sym) → (printed.arg_type x).good ≡ true → begins_arg ((printed.arg_type x).flat ++ rest) ≡ true
arg_starts x rest good =
    ap (λ (p : Print). begins_arg (p.flat ++ rest)) (arg_at x)
    ∙ layer_starts (out-ArgType x) rest (sym (ap (λ (p : Print). p.good) (arg_at x)) ∙ good)

pub btype_starts : (x : BType) (rest : List Sym) → (printed.btype x).good ≡ true → begins_arg ((printed.btype x).flat ++ rest) ≡ true
btype_starts x rest good =
    let y = out-BType x in
    let head = printed.arg_type y.head in
    let args = map printed.arg_type y.args in
    let g = both (head.good && good_all args) _ (sym (ap (λ (p : Print). p.good) (btype_at x)) ∙ good) in
    let gs = both head.good (good_all args) g.0 in
    ap (λ (p : Print). begins_arg (p.flat ++ rest)) (btype_at x)
    ∙ ap begins_arg (append_assoc head.flat (flat_all args) rest)
    ∙ arg_starts y.head (flat_all args ++ rest) gs.0

pub type_starts : (x : TypeExpr) (rest : List Sym) → (printed.type_expr x).good ≡ true → begins_arg ((printed.type_expr x).flat ++ rest) ≡ true
type_starts x rest good =
    let y = out-TypeExpr x in
    let head = printed.btype y.first in
    let args = map printed.arrow y.arrows in
    let g = both (head.good && good_all args) _ (sym (ap (λ (p : Print). p.good) (type_at x)) ∙ good) in
    let gs = both head.good (good_all args) g.0 in
    ap (λ (p : Print). begins_arg (p.flat ++ rest)) (type_at x)
    ∙ ap begins_arg (append_assoc head.flat (flat_all args) rest)
    ∙ btype_starts y.first (flat_all args ++ rest) gs.0

arrow_starts : (x : Arrow) (rest : List Sym) → (printed.arrow x).good ≡ true → arrow_next ((printed.arrow x).flat ++ rest) ≡ true
arrow_starts x rest good = ap (λ (p : Print). arrow_next (p.flat ++ rest)) (arrow_at x)

part_starts : (x : TypePart) (rest : List Sym) → (printed.type_part x).good ≡ true → comma_next ((printed.type_part x).flat ++ rest) ≡ true
part_starts x rest good = ap (λ (p : Print). comma_next (p.flat ++ rest)) (part_at x)

-- ---- what cannot go on

comma_ends_type_by : (k : Option Kind) → is_comma k ≡ true → (begins_arg_by k ≡ false) × (is_arrow k ≡ false)
comma_ends_type_by (Some k.Comma) e = (refl, refl)
comma_ends_type_by _ e = absurd (cc)

ends_type_is : (ss : List Sym) → begins_arg ss ≡ false → arrow_next ss ≡ false → ends_type ss ≡ true
ends_type_is ss a b = and_is (ap not a) (ap not b)

pub comma_ends_type : (ss : List Sym) → comma_next ss ≡ true → ends_type ss ≡ true
comma_ends_type ss e = let h = comma_ends_type_by (kind ss) e in ends_type_is ss h.0 h.1

arrow_ends_btype_by : (k : Option Kind) → is_arrow k ≡ true → begins_arg_by k ≡ false
arrow_ends_btype_by (Some k.Arrow) e = refl
arrow_ends_btype_by _ e = absurd (cc)

arrow_ends_btype : (ss : List Sym) → arrow_next ss ≡ true → ends_btype ss ≡ true
arrow_ends_btype ss e = ap not (arrow_ends_btype_by (kind ss) e)

-- a tuple goes on with a comma
next_comma : (xs : List TypePart) (rest : List Sym) → is_tuple xs ≡ true → good_all (map printed.type_part xs) ≡ true → comma_next (flat_all (map printed.type_part xs) ++ rest) ≡ true
next_comma [] rest e good = absurd (cc)
next_comma (x ∷ xs) rest e good =
    ap comma_next (append_assoc (printed.type_part x).flat (flat_all (map printed.type_part xs)) rest)
    ∙ part_starts x (flat_all (map printed.type_part xs) ++ rest) (both (printed.type_part x).good (good_all (map printed.type_part xs)) good).0

arrows_end_btype : (xs : List Arrow) (rest : List Sym) → good_all (map printed.arrow xs) ≡ true → ends_type rest ≡ true → ends_btype (flat_all (map printed.arrow xs) ++ rest) ≡ true
arrows_end_btype [] rest good ends = (both (not (begins_arg rest)) (not (arrow_next rest)) ends).0
arrows_end_btype (x ∷ xs) rest good ends =
    ap ends_btype (append_assoc (printed.arrow x).flat (flat_all (map printed.arrow xs)) rest)
    ∙ arrow_ends_btype _ (arrow_starts x (flat_all (map printed.arrow xs) ++ rest) (both (printed.arrow x).good (good_all (map printed.arrow xs)) good).0)

module _ (m : ℕ) (T : Read TypeExpr) (complete : Complete printed.type_expr ends_type m T) where
  part_complete : Complete printed.type_part ends_type (suc m) (type_part T)
  unfolding type_part
  part_complete x rest good fits ends =
      let y = out-TypePart x in
      let g : (printed.type_expr y.part).good ≡ true = sym (ap (λ (p : Print). p.good) (part_at x)) ∙ good in
      let n : length (printed.type_part x).flat ≡ suc (length (printed.type_expr y.part).flat) = ap (λ (p : Print). length p.flat) (part_at x) in
      ap (λ (p : Print). type_part T (p.flat ++ rest)) (part_at x)
      ∙ chain _ (complete y.part rest g (omega (arith, n, fits)) ends) (ap (λ (c : TypePart). taken c rest) (roll-out-TypePart x))

  parts_complete : (xs : List TypePart) (rest : List Sym) → good_all (map printed.type_part xs) ≡ true → length (flat_all (map printed.type_part xs)) ≤ suc m → ends_type rest ≡ true → comma_next rest ≡ false
      → type_parts T (flat_all (map printed.type_part xs) ++ rest) ≡ taken xs rest
  unfolding type_parts
  parts_complete = items_complete printed.type_part comma_next (type_part T) refl ends_type (suc m) part_starts part_complete comma_ends_type

  opened_type : (start : List Sym) (a : Span) (ss : List Sym) → begins_arg ss ≡ true → opened T start a ss ≡ and_then (T ss) (behind T start a)
  unfolding opened
  opened_type start a ss e = at_kind (kind ss) ss e
    where
      at_kind : (kind : Option Kind) (ss : List Sym) → begins_arg_by kind ≡ true → opened_by T kind start a ss ≡ and_then (T ss) (behind T start a)
      at_kind (Some (k.VarId q n)) ss e = refl
      at_kind (Some (k.ConId q n)) ss e = refl
      at_kind (Some k.Open) ss e = refl
      at_kind (Some k.OpenList) ss e = refl
      at_kind _ ss e = absurd (cc)

  listed_type : (start : List Sym) (a : Span) (ss : List Sym) → begins_arg ss ≡ true → listed T start a ss ≡ and_then (T ss) (list_end start a)
  unfolding listed
  listed_type start a ss e = at_kind (kind ss) ss e
    where
      at_kind : (kind : Option Kind) (ss : List Sym) → begins_arg_by kind ≡ true → listed_by T kind start a ss ≡ and_then (T ss) (list_end start a)
      at_kind (Some (k.VarId q n)) ss e = refl
      at_kind (Some (k.ConId q n)) ss e = refl
      at_kind (Some k.Open) ss e = refl
      at_kind (Some k.OpenList) ss e = refl
      at_kind _ ss e = absurd (cc)

  behind_comma : (start : List Sym) (a : Span) (first : TypeExpr) (ss : List Sym) → comma_next ss ≡ true → behind T start a first ss ≡ enclosed T start a first ss
  unfolding behind
  behind_comma start a first ss e = at_kind (kind ss) e
    where
      at_kind : (kind : Option Kind) → is_comma kind ≡ true → behind_by T kind start a first ss ≡ enclosed T start a first ss
      at_kind (Some k.Comma) e = refl
      at_kind _ e = absurd (cc)

  con_complete : (n : Name) (rest : List Sym) → arg_type T (con_id n ∷ rest) ≡ taken (roll-ArgType (ArgType-F.Con n)) rest
  unfolding arg_type
  con_complete n rest = ap (λ (x : ArgType). taken x rest) (sym (v_ArgType.rolls-Con n))

  var_complete : (span : Span) (q : Option NameId) (n : NameId) (rest : List Sym) → is_none q ≡ true
      → arg_type T (at (k.VarId q n) span ∷ rest) ≡ taken (v_ArgType.Var (record { span = span; qualifier = q; id = n })) rest
  unfolding arg_type
  var_complete span None n rest e = refl
  var_complete span (Some m) n rest e = absurd (cc)

  unit_complete : (s a b : Span) (rest : List Sym) → (layer (ArgType-F.Unit s a b)).good ≡ true → arg_type T ((layer (ArgType-F.Unit s a b)).flat ++ rest) ≡ taken (v_ArgType.Unit s a b) rest
  unfolding arg_type opened unit layer
  unit_complete s a b rest good = ap (λ z. taken (v_ArgType.Unit z a b) rest) (spanned_span s rest (at k.Open a ∷ at k.Close b ∷ []) true good)

  no_list_complete : (s a b : Span) (rest : List Sym) → (layer (ArgType-F.NoList s a b)).good ≡ true → arg_type T ((layer (ArgType-F.NoList s a b)).flat ++ rest) ≡ taken (v_ArgType.NoList s a b) rest
  unfolding arg_type listed no_list layer
  no_list_complete s a b rest good = ap (λ z. taken (v_ArgType.NoList z a b) rest) (spanned_span s rest (at k.OpenList a ∷ at k.CloseList b ∷ []) true good)

  no_arrow_complete : (s a m b : Span) (rest : List Sym) → (layer (ArgType-F.NoArrow s a m b)).good ≡ true → arg_type T ((layer (ArgType-F.NoArrow s a m b)).flat ++ rest) ≡ taken (v_ArgType.NoArrow s a m b) rest
  unfolding arg_type opened no_arrow layer
  no_arrow_complete s a m b rest good = ap (λ z. taken (v_ArgType.NoArrow z a m b) rest) (spanned_span s rest (at k.Open a ∷ at k.Arrow m ∷ at k.Close b ∷ []) true good)

  no_tuple_complete : (s a : Span) (cs : List Span) (b : Span) (rest : List Sym) → (layer (ArgType-F.NoTuple s a cs b)).good ≡ true
      → arg_type T ((layer (ArgType-F.NoTuple s a cs b)).flat ++ rest) ≡ taken (v_ArgType.NoTuple s a cs b) rest
  unfolding arg_type opened no_tuple layer
  no_tuple_complete s a [] b rest good = absurd (cc)
  no_tuple_complete s a (c ∷ cs) b rest good =
      let flat : List Sym = at k.Open a ∷ (printed.commas (c ∷ cs) ++ at k.Close b ∷ []) in
      let g = both (is_tuple (c ∷ cs)) _ good in
      ap (no_tuple (flat ++ rest) a) (append_assoc (printed.commas (c ∷ cs)) (at k.Close b ∷ []) rest)
      ∙ chain _ (commas_complete (c ∷ cs) (at k.Close b ∷ rest) refl)
      (ap (λ z. cond (is_tuple (c ∷ cs)) (taken (v_ArgType.NoTuple z a (c ∷ cs) b) rest) None) (spanned_span s rest flat (is_tuple (c ∷ cs)) good)
      ∙ ap (λ t. cond t (taken (v_ArgType.NoTuple s a (c ∷ cs) b) rest) None) g.0)

  paren_complete : (s a : Span) (x : TypeExpr) (b : Span) (rest : List Sym) → (layer (ArgType-F.Paren s a x b)).good ≡ true → length (layer (ArgType-F.Paren s a x b)).flat ≤ suc m
      → arg_type T ((layer (ArgType-F.Paren s a x b)).flat ++ rest) ≡ taken (v_ArgType.Paren s a x b) rest
  unfolding arg_type behind paren layer
  paren_complete s a x b rest good fits =
      let inside = (printed.type_expr x).flat in
      let flat : List Sym = at k.Open a ∷ (inside ++ at k.Close b ∷ []) in
      let g = both (printed.type_expr x).good _ good in
      let size = length-append inside (at k.Close b ∷ []) in
      ap (opened T (flat ++ rest) a) (append_assoc inside (at k.Close b ∷ []) rest)
      ∙ opened_type (flat ++ rest) a (inside ++ (at k.Close b ∷ rest)) (type_starts x (at k.Close b ∷ rest) g.0)
      ∙ chain (behind T (flat ++ rest) a) (complete x (at k.Close b ∷ rest) g.0 (omega (arith, size, fits)) refl)
      (ap (λ z. taken (v_ArgType.Paren z a x b) rest) (spanned_span s rest flat (printed.type_expr x).good good))

  list_complete : (s a : Span) (x : TypeExpr) (b : Span) (rest : List Sym) → (layer (ArgType-F.List s a x b)).good ≡ true → length (layer (ArgType-F.List s a x b)).flat ≤ suc m
      → arg_type T ((layer (ArgType-F.List s a x b)).flat ++ rest) ≡ taken (v_ArgType.List s a x b) rest
  unfolding arg_type list_end layer
  list_complete s a x b rest good fits =
      let inside = (printed.type_expr x).flat in
      let flat : List Sym = at k.OpenList a ∷ (inside ++ at k.CloseList b ∷ []) in
      let g = both (printed.type_expr x).good _ good in
      let size = length-append inside (at k.CloseList b ∷ []) in
      ap (listed T (flat ++ rest) a) (append_assoc inside (at k.CloseList b ∷ []) rest)
      ∙ listed_type (flat ++ rest) a (inside ++ (at k.CloseList b ∷ rest)) (type_starts x (at k.CloseList b ∷ rest) g.0)
      ∙ chain (list_end (flat ++ rest) a) (complete x (at k.CloseList b ∷ rest) g.0 (omega (arith, size, fits)) refl)
      (ap (λ z. taken (v_ArgType.List z a x b) rest) (spanned_span s rest flat (printed.type_expr x).good good))

  enclosed_all : (start : List Sym) (a : Span) (x : TypeExpr) (xs : List TypePart) (b : Span) (rest : List Sym) → is_tuple xs ≡ true → good_all (map printed.type_part xs) ≡ true
      → length (flat_all (map printed.type_part xs)) ≤ suc m → enclosed T start a x (flat_all (map printed.type_part xs) ++ (at k.Close b ∷ rest)) ≡ taken (v_ArgType.Tuple (covered start rest) a x xs b) rest
  unfolding enclosed
  enclosed_all start a x xs b rest tuple good fits =
      chain _ (parts_complete xs (at k.Close b ∷ rest) good fits refl refl) (ap (λ c. cond c (taken (v_ArgType.Tuple (covered start rest) a x xs b) rest) None) tuple)

  tuple_complete : (s a : Span) (x : TypeExpr) (xs : List TypePart) (b : Span) (rest : List Sym) → (layer (ArgType-F.Tuple s a x xs b)).good ≡ true → length (layer (ArgType-F.Tuple s a x xs b)).flat ≤ suc m
      → arg_type T ((layer (ArgType-F.Tuple s a x xs b)).flat ++ rest) ≡ taken (v_ArgType.Tuple s a x xs b) rest
  unfolding arg_type layer
  tuple_complete s a x xs b rest good fits =
      let inside = (printed.type_expr x).flat in
      let others = flat_all (map printed.type_part xs) in
      let flat : List Sym = at k.Open a ∷ (inside ++ (others ++ at k.Close b ∷ [])) in
      let whole_good : Bool = (printed.type_expr x).good && (good_all (map printed.type_part xs) && is_tuple (map printed.type_part xs)) in
      let h = both whole_good _ good in
      let g = both (printed.type_expr x).good (good_all (map printed.type_part xs) && is_tuple (map printed.type_part xs)) h.0 in
      let gs = both (good_all (map printed.type_part xs)) (is_tuple (map printed.type_part xs)) g.1 in
      let tuple : is_tuple xs ≡ true = ap (λ n. nat_lt 0 n && nat_lt n 7) (sym (length-map xs printed.type_part)) ∙ gs.1 in
      let size = length-append inside (others ++ at k.Close b ∷ []) in
      let size2 = length-append others (at k.Close b ∷ []) in
      let tail : List Sym = others ++ (at k.Close b ∷ rest) in
      let comma = next_comma xs (at k.Close b ∷ rest) tuple gs.0 in
      ap (opened T (flat ++ rest) a) (append_assoc inside (others ++ at k.Close b ∷ []) rest ∙ ap (λ us. inside ++ us) (append_assoc others (at k.Close b ∷ []) rest))
      ∙ opened_type (flat ++ rest) a (inside ++ tail) (type_starts x tail g.0)
      ∙ chain (behind T (flat ++ rest) a) (complete x tail g.0 (omega (arith, size, fits)) (comma_ends_type tail comma))
      (behind_comma (flat ++ rest) a x tail comma ∙ enclosed_all (flat ++ rest) a x xs b rest tuple gs.0 (omega (arith, size, size2, fits)))
      ∙ ap (λ z. taken (v_ArgType.Tuple z a x xs b) rest) (spanned_span s rest flat whole_good good)

  layer_complete : (y : Layer) (rest : List Sym) → (layer y).good ≡ true → length (layer y).flat ≤ suc m → arg_type T ((layer y).flat ++ rest) ≡ taken (roll-ArgType y) rest
  unfolding layer
  layer_complete (ArgType-F.Con n) rest good fits = con_complete n rest
  layer_complete (ArgType-F.Var n) rest good fits = var_complete n.span n.qualifier n.id rest good ∙ ap (λ (x : ArgType). taken x rest) (sym (v_ArgType.rolls-Var n))
  layer_complete (ArgType-F.Unit s a b) rest good fits = unit_complete s a b rest good ∙ ap (λ (x : ArgType). taken x rest) (sym (v_ArgType.rolls-Unit s a b))
  layer_complete (ArgType-F.NoList s a b) rest good fits = no_list_complete s a b rest good ∙ ap (λ (x : ArgType). taken x rest) (sym (v_ArgType.rolls-NoList s a b))
  layer_complete (ArgType-F.NoArrow s a m b) rest good fits = no_arrow_complete s a m b rest good ∙ ap (λ (x : ArgType). taken x rest) (sym (v_ArgType.rolls-NoArrow s a m b))
  layer_complete (ArgType-F.NoTuple s a cs b) rest good fits = no_tuple_complete s a cs b rest good ∙ ap (λ (x : ArgType). taken x rest) (sym (v_ArgType.rolls-NoTuple s a cs b))
  layer_complete (ArgType-F.Paren s a x b) rest good fits = paren_complete s a x b rest good fits ∙ ap (λ (z : ArgType). taken z rest) (sym (v_ArgType.rolls-Paren s a x b))
  layer_complete (ArgType-F.Tuple s a x xs b) rest good fits = tuple_complete s a x xs b rest good fits ∙ ap (λ (z : ArgType). taken z rest) (sym (v_ArgType.rolls-Tuple s a x xs b))
  layer_complete (ArgType-F.List s a x b) rest good fits = list_complete s a x b rest good fits ∙ ap (λ (z : ArgType). taken z rest) (sym (v_ArgType.rolls-List s a x b))

  pub arg_complete : Complete printed.arg_type anything (suc m) (arg_type T)
  arg_complete x rest good fits _ =
      let y = out-ArgType x in
      ap (λ (p : Print). arg_type T (p.flat ++ rest)) (arg_at x)
      ∙ layer_complete y rest (ap (λ (p : Print). p.good) (sym (arg_at x)) ∙ good) (subst (λ (p : Print). length p.flat ≤ suc m) (arg_at x) fits)
      ∙ ap (λ (z : ArgType). taken z rest) (roll-out-ArgType x)

  pub args_complete : CompleteAll printed.arg_type ends_btype (suc m) (arg_types T)
  unfolding arg_types
  args_complete xs rest good fits ends = items_complete printed.arg_type begins_arg (arg_type T) refl anything (suc m) arg_starts arg_complete (λ ss e. refl) xs rest good fits refl (not_is (begins_arg rest) ends)

  pub btype_complete : Complete printed.btype ends_btype (suc m) (btype T)
  unfolding btype
  btype_complete x rest good fits ends =
      let y = out-BType x in
      let head = printed.arg_type y.head in
      let args = map printed.arg_type y.args in
      let good' = ap (λ (p : Print). p.good) (sym (btype_at x)) ∙ good in
      let g = both (head.good && good_all args) _ good' in
      let gs = both head.good (good_all args) g.0 in
      let fits' : length (head.flat ++ flat_all args) ≤ suc m = subst (λ (p : Print). length p.flat ≤ suc m) (btype_at x) fits in
      let size = length-append head.flat (flat_all args) in
      let assoc = append_assoc head.flat (flat_all args) rest in
      let span : covered (head.flat ++ (flat_all args ++ rest)) rest ≡ y.span = ap (λ us. covered us rest) (sym assoc) ∙ spanned_span y.span rest (head.flat ++ flat_all args) (head.good && good_all args) good' in
      ap (λ (p : Print). btype T (p.flat ++ rest)) (btype_at x)
      ∙ ap (btype T) assoc
      ∙ chain _ (arg_complete y.head (flat_all args ++ rest) gs.0 (omega (arith, size, fits')) refl)
      (chain _ (args_complete y.args rest gs.1 (omega (arith, size, fits')) ends)
      (ap (λ (s : Span). taken (roll-BType (record { span = s; head = y.head; args = y.args })) rest) span))
      ∙ ap (λ (z : BType). taken z rest) (roll-out-BType x)

  arrow_complete : Complete printed.arrow ends_btype (suc m) (arrow T)
  unfolding arrow
  arrow_complete x rest good fits ends =
      let y = out-Arrow x in
      let g : (printed.btype y.to).good ≡ true = sym (ap (λ (p : Print). p.good) (arrow_at x)) ∙ good in
      let n : length (printed.arrow x).flat ≡ suc (length (printed.btype y.to).flat) = ap (λ (p : Print). length p.flat) (arrow_at x) in
      ap (λ (p : Print). arrow T (p.flat ++ rest)) (arrow_at x)
      ∙ chain _ (btype_complete y.to rest g (omega (arith, n, fits)) ends) (ap (λ (c : Arrow). taken c rest) (roll-out-Arrow x))

  arrows_complete : CompleteAll printed.arrow ends_type (suc m) (arrows T)
  unfolding arrows
  arrows_complete xs rest good fits ends =
      let h = both (not (begins_arg rest)) (not (arrow_next rest)) ends in
      items_complete printed.arrow arrow_next (arrow T) refl ends_btype (suc m) arrow_starts arrow_complete arrow_ends_btype xs rest good fits h.0 (not_is (arrow_next rest) h.1)

  pub whole_complete : Complete printed.type_expr ends_type (suc m) (whole T)
  unfolding whole
  whole_complete x rest good fits ends =
      let y = out-TypeExpr x in
      let head = printed.btype y.first in
      let args = map printed.arrow y.arrows in
      let good' = ap (λ (p : Print). p.good) (sym (type_at x)) ∙ good in
      let g = both (head.good && good_all args) _ good' in
      let gs = both head.good (good_all args) g.0 in
      let fits' : length (head.flat ++ flat_all args) ≤ suc m = subst (λ (p : Print). length p.flat ≤ suc m) (type_at x) fits in
      let size = length-append head.flat (flat_all args) in
      let assoc = append_assoc head.flat (flat_all args) rest in
      let span : covered (head.flat ++ (flat_all args ++ rest)) rest ≡ y.span = ap (λ us. covered us rest) (sym assoc) ∙ spanned_span y.span rest (head.flat ++ flat_all args) (head.good && good_all args) good' in
      ap (λ (p : Print). whole T (p.flat ++ rest)) (type_at x)
      ∙ ap (whole T) assoc
      ∙ chain _ (btype_complete y.first (flat_all args ++ rest) gs.0 (omega (arith, size, fits')) (arrows_end_btype y.arrows rest gs.1 ends))
      (chain _ (arrows_complete y.arrows rest gs.1 (omega (arith, size, fits')) ends)
      (ap (λ (s : Span). taken (roll-TypeExpr (record { span = s; first = y.first; arrows = y.arrows })) rest) span))
      ∙ ap (λ (z : TypeExpr). taken z rest) (roll-out-TypeExpr x)

pub type_some : (x : TypeExpr) → (printed.type_expr x).good ≡ true → 1 ≤ length (printed.type_expr x).flat
type_some x good = some_token printed.type_expr begins_arg (type_expr 0) (printed.type_expr x).flat refl _ (type_starts x [] good) refl

pub type_complete : (n : ℕ) → Complete printed.type_expr ends_type n (type_expr n)
unfolding type_expr
type_complete zero x rest good fits ends = absurd (let h = type_some x good in omega arith)
type_complete (suc n) x rest good fits ends = whole_complete n (type_expr n) (type_complete n) x rest good fits ends

-- ---- a list of tokens has one type
pub one_type_is : (x y : TypeExpr) → (printed.type_expr x).good ≡ true → (printed.type_expr y).good ≡ true → (printed.type_expr x).flat ≡ (printed.type_expr y).flat → x ≡ y
one_type_is x y gx gy same =
    let n = length (printed.type_expr x).flat in
    let at_x : type_expr n ((printed.type_expr x).flat ++ []) ≡ taken x [] = type_complete n x [] gx (omega arith) refl in
    let fits : length (printed.type_expr y).flat ≤ n = omega (arith, ap length same) in
    let at_y : type_expr n ((printed.type_expr y).flat ++ []) ≡ taken y [] = type_complete n y [] gy fits refl in
    (some_is x y [] [] (sym at_x ∙ ap (λ us. type_expr n (us ++ [])) same ∙ at_y)).0
