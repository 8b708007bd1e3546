-- Longer runs, to their ends: conversions both ways.
use Rattle.std.specs.Prelude.{◌≡◌, false, [], ◌∷◌, codes}
use Rattle.gh_base.specs.declared.fixed.TheConstants.{UNIT, SUM, PROD, PRODUCT, INL, INR, LIST, TRUE, FALSE, BOOL}
use Rattle.gh_base.specs.declared.names.NameId.{NameId}
use Rattle.gh_base.specs.declared.place.Span.{Span}
use Rattle.gh_base.specs.declared.place.TyCon.TheVariants as head
use Rattle.gh_core.specs.Primitives.{prelude_value, nil, cons}
use Rattle.gh_core.specs.Reduce.{ended}
use Rattle.gh_core.specs.Terms.{char}
use Rattle.gh_kernel.specs.Conversions.{applied, one_pattern}
use Rattle.gh_kernel.specs.GenericRuns.{g, at_type, one_clause, for_type, layer}
use Rattle.gh_kernel.specs.Meaning.{meaning}
use Rattle.gh_kernel.specs.PlainRuns.{n, number, prelude_type, named, empty_program, shows, text, plain_row, anything, con_type}
use Rattle.gh_kernel.specs.Programs.{Exp, Datatype, Function, Case, Program}
use Rattle.gh_kernel.specs.Terms.{pvar, pcon, no_pat, pat, TypeTerm, tycon, tyvar, tyapp, tyname, var, con, lit, lam, cases, call, redef, no_expr, expr, no_row, no_entry, entry}

abbrev pub unit_type : TypeTerm Span
unit_type = named (prelude_type UNIT)

abbrev pub two_of : NameId → TypeTerm Span → TypeTerm Span → TypeTerm Span
two_of c s t = tyapp (tyapp (named (prelude_type c)) s) t

abbrev pub sum_type : Datatype
sum_type = record { name = prelude_type SUM; is_newtype = false; constructors = record { name = prelude_value INL; fields = tyvar 0 ∷ [] } ∷ record { name = prelude_value INR; fields = tyvar 1 ∷ [] } ∷ []; representation = unit_type }

-- `[a]`, with its representation
abbrev pub list_type : Datatype
list_type = record {
  name = prelude_type LIST;
  is_newtype = false;
  constructors = record { name = nil; fields = [] } ∷ record { name = cons; fields = tyvar 0 ∷ tyapp (named (prelude_type LIST)) (tyvar 0) ∷ [] } ∷ [];
  representation = two_of SUM (layer nil unit_type) (layer cons (two_of PROD (tyvar 0) (tyapp (named (prelude_type LIST)) (tyvar 0))));
}

-- the generic map: g{|a, b|} :: a -> b, which goes through units, sums and products
abbrev pub map_function : Function
map_function = record { name = g; generic = 2; base = tyapp (tyapp (tycon head.Arrow) (tyvar 0)) (tyvar 1); dependencies = g ∷ [] }

abbrev pub map_unit : Case
map_unit = for_type (prelude_type UNIT) (lam n 0 (var n 0))

abbrev pub map_sum : Case
map_sum = for_type (prelude_type SUM) (one_clause (pcon n (prelude_value INL) (one_pattern (pvar n 1))) (applied n (con n (prelude_value INL)) (at_type (tyname 0) (var n 1) ∷ []))
    (plain_row (one_pattern (pcon n (prelude_value INR) (one_pattern (pvar n 2)))) (applied n (con n (prelude_value INR)) (at_type (tyname 1) (var n 2) ∷ [])) no_row))

abbrev pub map_product : Case
map_product = for_type (prelude_type PROD) (one_clause (pcon n (prelude_value PRODUCT) (pat (pvar n 1) (one_pattern (pvar n 2))))
    (applied n (con n (prelude_value PRODUCT)) (at_type (tyname 0) (var n 1) ∷ at_type (tyname 1) (var n 2) ∷ [])) no_row)

abbrev pub mapping : Program
mapping = record empty_program { datatypes = list_type ∷ con_type ∷ sum_type ∷ []; functions = map_function ∷ []; cases = map_unit ∷ map_sum ∷ map_product ∷ [] }

-- let g{|e|} = \c -> 'z' in g{|[e]|} "ab", where lists have no case: two generic variables, a local name at a nested type, and
-- conversions both ways through sums, layers and products
abbrev pub MapAtList : Type 0
MapAtList =
    meaning mapping (redef n 9 (number 0) (entry g n (lam n 5 (lit n (char 122))) no_entry) (at_type (tyapp (named (prelude_type LIST)) (tyname 9)) (text (codes "ab")))) 400
    ≡ shows (codes "zz") ended

-- a base type that is no function: g{|a|} :: [a], all values of a type. At truth values without a case it is the list at their
-- representation, rebuilt with each element converted
abbrev pub values_function : Function
values_function = record { name = g; generic = 1; base = tyapp (named (prelude_type LIST)) (tyvar 0); dependencies = g ∷ [] }

abbrev pub one_element : Exp → Exp
one_element e = applied n (con n cons) (e ∷ con n nil ∷ [])

-- the first value of the right side alone
abbrev pub values_sum : Case
values_sum = for_type (prelude_type SUM) (cases n (expr (call n g (tyname 1)) no_expr)
    (plain_row (one_pattern (pcon n cons (pat (pvar n 1) anything))) (one_element (applied n (con n (prelude_value INR)) (var n 1 ∷ []))) no_row))

abbrev pub values_unit : Case
values_unit = for_type (prelude_type UNIT) (one_element (con n (prelude_value UNIT)))

abbrev pub truth_type : Datatype
truth_type = record {
  name = prelude_type BOOL;
  is_newtype = false;
  constructors = record { name = prelude_value FALSE; fields = [] } ∷ record { name = prelude_value TRUE; fields = [] } ∷ [];
  representation = two_of SUM (layer (prelude_value FALSE) unit_type) (layer (prelude_value TRUE) unit_type);
}

abbrev pub listing : Program
listing = record empty_program { datatypes = truth_type ∷ list_type ∷ con_type ∷ []; functions = values_function ∷ []; cases = values_unit ∷ values_sum ∷ [] }

-- case g{|Bool|} of { False : _ -> "f"; True : [] -> "t" }
abbrev pub ValuesAtTruths : Type 0
ValuesAtTruths =
    meaning listing (cases n (expr (call n g (named (prelude_type BOOL))) no_expr)
    (plain_row (one_pattern (pcon n cons (pat (pcon n (prelude_value FALSE) no_pat) anything))) (text (codes "f"))
    (plain_row (one_pattern (pcon n cons (pat (pcon n (prelude_value TRUE) no_pat) (one_pattern (pcon n nil no_pat))))) (text (codes "t")) no_row))) 200
    ≡ shows (codes "t") ended
