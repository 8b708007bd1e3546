-- Generic calls whose runs are worked out by hand, and the step in which each is over.
use Rattle.std.specs.Prelude.{false, [], ◌∷◌, codes}
use Rattle.gh_base.specs.declared.fixed.TheConstants.{UNIT, SUM, INL, INR, LIST, CON_DESCR}
use Rattle.gh_base.specs.declared.place.Origin.{Origin}
use Rattle.gh_base.specs.declared.place.Span.{Span}
use Rattle.gh_base.specs.declared.place.TyCon.TheVariants as head
use Rattle.gh_core.specs.Primitives.{prelude_value, nil, cons, no_match}
use Rattle.gh_core.specs.Reduce.{ended, failed}
use Rattle.gh_kernel.specs.declared.names.Head.TheVariants.{Of, Layer}
use Rattle.gh_kernel.specs.Conversions.{applied, nowhere, one_pattern}
use Rattle.gh_kernel.specs.PlainRuns.{n, number, own, own_type, prelude_type, named, empty_program, IsOverIn, text, character, plain_row, anything, con_type}
use Rattle.gh_kernel.specs.Programs.{Exp, Datatype, Function, Case, Program}
use Rattle.gh_kernel.specs.Terms.{Pat, pvar, pcon, pat, from_data, TypeTerm, tycon, tyvar, tyapp, tyname, var, con, lam, app, cases, call, redef, convert, no_expr, expr, Rows, no_row, no_entry, entry}

-- `g` has itself as dependency and the base type a -> Char
abbrev pub g : Origin
g = own 0

abbrev pub base : TypeTerm Span
base = tyapp (tyapp (tycon head.Arrow) (tyvar 0)) (tycon head.Char)

abbrev pub g_function : Function
g_function = record { name = g; generic = 1; base = base; dependencies = g ∷ [] }

abbrev pub at_type : TypeTerm Span → Exp → Exp
at_type t e = app n (call n g t) e

-- a character in a list alone: the demand comes to it in two steps, along the two applications
abbrev pub one_character : Exp → Exp
one_character e = applied n (con n cons) (e ∷ con n nil ∷ [])

-- a function whose argument is matched by one pattern, and the rows after it
abbrev pub one_clause : Pat Span → Exp → Rows Span → Exp
one_clause p e rest = lam n 0 (cases n (expr (var n 0) no_expr) (plain_row (one_pattern p) e rest))

abbrev pub for_type : Origin → Exp → Case
for_type t e = record { function = g; head = Of (head.Named t); body = e }

-- g{|Unit|} u = 'u'
abbrev pub for_unit : Case
for_unit = for_type (prelude_type UNIT) (lam n 0 (character 117))

-- g{|Sum a b|} (Inl x) = g{|a|} x, g{|Sum a b|} (Inr y) = g{|b|} y
abbrev pub for_sum : Case
for_sum = for_type (prelude_type SUM) (one_clause (pcon n (prelude_value INL) (one_pattern (pvar n 1))) (at_type (tyname 0) (var n 1))
    (plain_row (one_pattern (pcon n (prelude_value INR) (one_pattern (pvar n 2)))) (at_type (tyname 1) (var n 2)) no_row))

abbrev pub layer : Origin → TypeTerm Span → TypeTerm Span
layer c t = tyapp (tycon (head.ConOf c)) t

-- data T = A | B, without a case
abbrev pub two : Datatype
two = record {
  name = own_type 1;
  is_newtype = false;
  constructors = record { name = own 2; fields = [] } ∷ record { name = own 3; fields = [] } ∷ [];
  representation = tyapp (tyapp (named (prelude_type SUM)) (layer (own 2) (named (prelude_type UNIT)))) (layer (own 3) (named (prelude_type UNIT)));
}

abbrev pub without_case : Program
without_case = record empty_program { datatypes = two ∷ con_type ∷ []; functions = g_function ∷ []; cases = for_unit ∷ for_sum ∷ [] }

-- A call at a datatype without a case, g{|T|} A. To the character (2). The demand passes to the call (3), which goes to the
-- conversion applied to the call at the representation (4); to the conversion (5), which goes round the function (6), which takes A
-- (7); to the conversion of its answer (8), which is the answer (9); to the call (10), which goes to the case for sums (11), which
-- takes the converted argument (12). It is demanded (13): to the conversion (14), to its case (15), to A (16), which matches (17), and
-- the groups of that row are entered (18); to `Inl` (19), which matches (20), its variable is bound (21), and the groups are entered
-- (22). To the call at the layer (23), which has no case (24): to the conversion (25), round the function (26), the argument (27), to
-- the conversion of the answer (28), the answer (29), to the call (30), to the case for `Unit` (31), which takes its argument (32);
-- and a character is printed (33)
abbrev pub DatatypeWithoutCase : Type 0
DatatypeWithoutCase = IsOverIn 33 without_case (one_character (at_type (named (own_type 1)) (con n (own 2)))) (codes "u") ended

-- A conversion of a literal, which no typed program has, fails at the place that all conversions have: to the conversion (1), to its
-- case (2), to the literal (3), which is no A (4), so the row falls (5); to the literal (6), which is no B (7), and no row is left (8)
abbrev pub ConversionFails : Type 0
ConversionFails = IsOverIn 8 without_case (app n (convert n from_data (head.Named (own_type 1)) 1 (tyvar 0)) (character 120)) [] (failed no_match nowhere)

-- a nested type: data N a = Z a | S (N (P a)), data P a = P a
abbrev pub nested : TypeTerm Span → TypeTerm Span
nested t = tyapp (named (own_type 4)) t

abbrev pub wrapped : TypeTerm Span → TypeTerm Span
wrapped t = tyapp (named (own_type 5)) t

abbrev pub for_wrapped : Case
for_wrapped = for_type (own_type 5) (one_clause (pcon n (own 8) (one_pattern (pvar n 1))) (at_type (tyname 0) (var n 1)) no_row)

abbrev pub for_character : Case
for_character = record { function = g; head = Of head.Char; body = lam n 0 (var n 0) }

abbrev pub for_nested : Case
for_nested = for_type (own_type 4) (one_clause (pcon n (own 6) (one_pattern (pvar n 1))) (at_type (tyname 0) (var n 1))
    (plain_row (one_pattern (pcon n (own 7) (one_pattern (pvar n 2)))) (at_type (nested (wrapped (tyname 0))) (var n 2)) no_row))

abbrev pub with_nested : Program
with_nested = record empty_program { functions = g_function ∷ []; cases = for_nested ∷ for_wrapped ∷ for_character ∷ [] }

-- g{|N Char|} (S (Z (P 'x'))). To the character (2), to the call (3), its case (4), which takes its argument (5); to that (6), to its
-- constructor (7), which is no `Z` (8), and the row falls to the next (9); to the argument (10), its constructor (11), `S` matches (12),
-- y is bound (13), the groups (14). To the call at N (P Char) (15), its case (16), its argument (17), to that (18), its constructor
-- (19), `Z` (20), x (21), the groups (22). To the call at P Char (23), its case (24), its argument (25), to that (26), its constructor
-- (27), `P` (28), x (29), the groups (30). To the call at Char (31), its case (32), its argument (33), and a character is printed (34)
abbrev pub NestedType : Type 0
NestedType = IsOverIn 34 with_nested (one_character (at_type (nested (tycon head.Char)) (app n (con n (own 7)) (app n (con n (own 6)) (app n (con n (own 8)) (character 120)))))) (codes "x") ended

-- g{|[a]|} (x : _) = g{|a|} x
abbrev pub for_list : Case
for_list = for_type (prelude_type LIST) (one_clause (pcon n cons (pat (pvar n 1) anything)) (at_type (tyname 0) (var n 1)) no_row)

abbrev pub with_list : Program
with_list = record empty_program { functions = g_function ∷ []; cases = for_list ∷ [] }

-- A local redefinition at a list: let g{|e|} = \c -> c in g{|[e]|} "ab". To the character (2); the redefinition (3); to the call (4),
-- its case (5), its argument (6), to that (7), the cell (8), x (9), `_` (10), the groups (11); to the call at the local name (12), which
-- goes to the term in the table (13), which takes x (14), and a character is printed (15)
abbrev pub RedefinitionAtList : Type 0
RedefinitionAtList =
    IsOverIn 15 with_list
    (one_character (redef n 9 (number 0) (entry g n (lam n 5 (var n 5)) no_entry) (at_type (tyapp (named (prelude_type LIST)) (tyname 9)) (text (codes "ab")))))
    (codes "a") ended

-- a case for the layer: g{|Con c a|} v = the name in c, at the layer of a constructor whose name is number 0
abbrev pub for_layer : Case
for_layer = record {
  function = g;
  head = Layer;
  body = lam n 0 (lam n 1 (cases n (expr (var n 0) no_expr)
      (plain_row (one_pattern (pcon n (prelude_value CON_DESCR) (pat (pvar n 2) anything))) (var n 2) no_row)));
}

abbrev pub described : Program
described = record empty_program {
  texts = codes "Node" ∷ [];
  datatypes = record { name = own_type 1; is_newtype = false; constructors = record { name = own 0; fields = tyvar 0 ∷ tyvar 0 ∷ [] } ∷ []; representation = tyvar 0 } ∷ [];
  functions = g_function ∷ [];
  cases = for_layer ∷ [];
}

-- To the call (1), its case with the description (2), its argument (3); to the description (4), along two applications to its
-- constructor (6), which matches (7), the name is bound (8), `_` (9), the groups (10), and four characters are printed (14)
abbrev pub NameDescribed : Type 0
NameDescribed = IsOverIn 14 described (at_type (layer (own 0) (named (prelude_type UNIT))) (con n (prelude_value UNIT))) (codes "Node") ended

-- a case that is taken: h extends g, h{|Char|} c = 'n'. At P Char the case of g is taken, with its call renamed
abbrev pub h : Origin
h = own 10

abbrev pub extended : Program
extended = record empty_program {
  functions = g_function ∷ record { name = h; generic = 1; base = base; dependencies = h ∷ [] } ∷ [];
  cases = for_wrapped ∷ for_character ∷ record { function = h; head = Of head.Char; body = lam n 0 (character 110) } ∷ [];
  extensions = record { taker = h; giver = g; span = n } ∷ [];
}

-- To the character (2), to the call (3), the case of g with its calls renamed (4), its argument (5), to that (6), its constructor (7), `P`
-- (8), x (9), the groups (10); to the call at Char (11), the case of h (12), its argument (13), and a character is printed (14)
abbrev pub CaseTaken : Type 0
CaseTaken = IsOverIn 14 extended (one_character (app n (call n h (wrapped (tycon head.Char))) (app n (con n (own 8)) (character 120)))) (codes "n") ended
