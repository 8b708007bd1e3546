-- Plain terms whose runs are worked out by hand, and the step in which each is over.
use Rattle.std.specs.Prelude.{◌≡◌, ℕ, ◌-◌, pos, true, List, [], ◌∷◌, None, codes}
use Rattle.gh_base.specs.declared.fixed.TheConstants.{MAIN_MODULE, PRELUDE, PLUS, ERROR, CON, FALSE}
use Rattle.gh_base.specs.declared.names.NameId.{NameId}
use Rattle.gh_base.specs.declared.place.Origin.{Origin}
use Rattle.gh_base.specs.declared.place.Span.{Span}
use Rattle.gh_base.specs.declared.place.Space.TheVariants.{Values, Types}
use Rattle.gh_base.specs.declared.place.TyCon.TheVariants as head
use Rattle.gh_core.specs.Primitives.{prelude_value, nil, cons, error_called, no_match}
use Rattle.gh_core.specs.Reduce.{Status, running, ended, failed}
use Rattle.gh_core.specs.Run.{Seen}
use Rattle.gh_core.specs.Terms.{int, char}
use Rattle.gh_kernel.specs.declared.names.TopName.TheVariants.{Named}
use Rattle.gh_kernel.specs.Conversions.{applied, one_pattern}
use Rattle.gh_kernel.specs.Meaning.{meaning}
use Rattle.gh_kernel.specs.Programs.{Exp, Datatype, Program}
use Rattle.gh_kernel.specs.Terms.{pvar, pwild, pcon, plit, pas, Pats, pat, TypeTerm, tycon, tyvar, var, top, con, lit, string, lam, app, lets, cases, no_expr, expr, no_group, group, bind, no_bind, Rows, no_row, row, no_body, always, guarded}

abbrev pub n : Span
n = record { file = 1; from = 0; to = 1 }

-- the place of the cases, and of `error`
abbrev pub here : Span
here = record { file = 1; from = 4; to = 9 }

abbrev pub number : ℕ → NameId
number k = record { 0 = k }

abbrev pub own : ℕ → Origin
own k = record { «module» = MAIN_MODULE; space = Values; name = number k }

abbrev pub own_type : ℕ → Origin
own_type k = record { «module» = MAIN_MODULE; space = Types; name = number k }

abbrev pub prelude_type : NameId → Origin
prelude_type k = record { «module» = PRELUDE; space = Types; name = k }

abbrev pub named : Origin → TypeTerm Span
named c = tycon (head.Named c)

abbrev pub empty_program : Program
empty_program = record { texts = []; datatypes = []; bindings = []; functions = []; cases = []; extensions = [] }

abbrev pub shows : List ℕ → Status → Seen
shows out status = record { out = out; status = status }

-- the run is over with step number k, with these bytes and this end or failure, and goes on before it
abbrev pub IsOverIn : ℕ → Program → Exp → List ℕ → Status → Type 0
IsOverIn k p e out status = (meaning p e k ≡ shows out status) × ((meaning p e (k - 1)).status ≡ running)

abbrev pub text : List ℕ → Exp
text cs = string n cs

abbrev pub character : ℕ → Exp
character c = lit n (char c)

abbrev pub case_of : Exp → Rows Span → Exp
case_of e rows = cases here (expr e no_expr) rows

-- a row of so many patterns without groups and guards
abbrev pub plain_row : Pats Span → Exp → Rows Span → Rows Span
plain_row ps e rest = row ps no_group (always e no_body) rest

abbrev pub anything : Pats Span
anything = one_pattern (pwild n)

-- _ : _
abbrev pub a_cell : Pats Span
a_cell = one_pattern (pcon n cons (pat (pwild n) anything))

-- A row whose guards all fail: case 'x' of { y | False -> "a" | False -> "b"; _ -> "c" }. The variable is bound (1), the groups are
-- entered, of which there are none, and the first guard comes (2), two guards are decided (4), the row falls (5), `_` is matched (6),
-- the groups are entered (7), and a character is printed (8)
abbrev pub GuardsAllFail : Type 0
GuardsAllFail =
    let no = con n (prelude_value FALSE) in
    IsOverIn 8 empty_program
    (case_of (character 120)
    (row (one_pattern (pvar n 0)) no_group (guarded no (text (codes "a")) (guarded no (text (codes "b")) no_body)) (plain_row anything (text (codes "c")) no_row)))
    (codes "c") ended

-- An as-pattern: case (\y -> y) "a" of xs@(_ : _) -> xs. xs is bound (1), the demand passes to the argument (2), from there to its
-- function (3), which is entered (4); the cell is tested (5), `_` matches twice (7), the groups are entered (8); then xs is the
-- argument as it was, and is evaluated again: to the function (9), which is entered (10); and a character is printed (11)
abbrev pub AsPatternAgain : Type 0
AsPatternAgain =
    IsOverIn 11 empty_program
    (case_of (app n (lam n 0 (var n 0)) (text (codes "a"))) (plain_row (one_pattern (pas n 1 (pcon n cons (pat (pwild n) anything)))) (var n 1) no_row))
    (codes "a") ended

abbrev pub con_type : Datatype
con_type = record { name = prelude_type CON; is_newtype = true; constructors = record { name = prelude_value CON; fields = tyvar 0 ∷ [] } ∷ []; representation = tyvar 0 }

abbrev pub with_con : Program
with_con = record empty_program { datatypes = con_type ∷ [] }

abbrev pub failing : Exp
failing = app n (top here (Named (prelude_value ERROR))) (text (codes "no"))

-- Con x
abbrev pub con_pattern : Pats Span
con_pattern = one_pattern (pcon n (prelude_value CON) (one_pattern (pvar n 0)))

-- A newtype's pattern over a failing argument: case error "no" of Con x -> "k". The pattern takes the contents (1), x is bound (2), the
-- groups are entered (3), and a character is printed (4)
abbrev pub NewtypeTakes : Type 0
NewtypeTakes = IsOverIn 4 with_con (case_of failing (plain_row con_pattern (text (codes "k")) no_row)) (codes "k") ended

-- Contents that are demanded: case Con "d" of Con x -> x. The pattern (1), x (2), the groups (3), into the contents (4), to the
-- constructor (5), out of it (6), a character (7)
abbrev pub NewtypeContents : Type 0
NewtypeContents = IsOverIn 7 with_con (case_of (app n (con n (prelude_value CON)) (text (codes "d"))) (plain_row con_pattern (var n 0) no_row)) (codes "d") ended

-- And of the failing argument: the pattern (1), x (2), the groups (3), into the contents (4), to the primitive (5), and the failure (6)
abbrev pub NewtypeFails : Type 0
NewtypeFails = IsOverIn 6 with_con (case_of failing (plain_row con_pattern (var n 0) no_row)) [] (failed error_called here)

-- `error` under a constructor that is not demanded: case error "no" : [] of _ : _ -> "k". To the argument (1), along two applications
-- to the constructor (3), the cell (4), `_` twice (6), the groups (7), and a character (8)
abbrev pub ErrorNotDemanded : Type 0
ErrorNotDemanded = IsOverIn 8 empty_program (case_of (applied n (con n cons) (failing ∷ con n nil ∷ [])) (plain_row a_cell (text (codes "k")) no_row)) (codes "k") ended

-- case 'x' of 'y' -> "a": to the argument (1), the test (2), and no row is left (3)
abbrev pub NoRowLeft : Type 0
NoRowLeft = IsOverIn 3 empty_program (case_of (character 120) (plain_row (one_pattern (plit n (char 121))) (text (codes "a")) no_row)) [] (failed no_match here)

-- A literal under the test of a constructor: case 'x' of { _ : _ -> "a"; _ -> "b" }. To the argument (1), the test fails (2), the row
-- falls (3), `_` (4), the groups (5), a character (6)
abbrev pub LiteralForCell : Type 0
LiteralForCell = IsOverIn 6 empty_program (case_of (character 120) (plain_row a_cell (text (codes "a")) (plain_row anything (text (codes "b")) no_row))) (codes "b") ended

-- And a constructor under the test of a literal: case [] of { 'y' -> "a"; _ -> "b" }
abbrev pub CellForLiteral : Type 0
CellForLiteral =
    IsOverIn 6 empty_program (case_of (con n nil) (plain_row (one_pattern (plit n (char 121))) (text (codes "a")) (plain_row anything (text (codes "b")) no_row))) (codes "b") ended

-- case 1 + 2 of 3 -> "t": to the argument (1), along two applications to the primitive (3), to its operands (5), the sum (6), the test
-- (7), the groups (8), and a character (9)
abbrev pub PrimitiveOnce : Type 0
PrimitiveOnce =
    IsOverIn 9 empty_program
    (case_of (applied n (top n (Named (prelude_value PLUS))) (lit n (int (pos 1)) ∷ lit n (int (pos 2)) ∷ [])) (plain_row (one_pattern (plit n (int (pos 3)))) (text (codes "t")) no_row))
    (codes "t") ended

-- let x = "a" in x: the let is entered (1), x unfolds (2), and a character is printed (3)
abbrev pub LetEntered : Type 0
LetEntered = IsOverIn 3 empty_program (lets n (group (bind n 0 None (text (codes "a")) no_bind) no_group) (var n 0)) (codes "a") ended
