-- What a program of bindings means.
use Rattle.std.specs.Prelude.{ℕ, List, [], ◌∷◌, map}
use Rattle.gh_base.specs.declared.fixed.TheConstants.{MAIN_MODULE, MAIN, APPEND}
use Rattle.gh_base.specs.declared.names.NameId.{NameId}
use Rattle.gh_base.specs.declared.place.Origin.{Origin}
use Rattle.gh_base.specs.declared.place.Space.TheVariants.{Values}
use Rattle.gh_base.specs.declared.place.Span.{Span}
use Rattle.gh_core.specs.Primitives.{prelude_value, nil, cons}
use Rattle.gh_core.specs.Run.{Seen}
use Rattle.gh_bindings.specs.declared.binding.Binding.{Binding}
use Rattle.gh_bindings.specs.declared.binding.Operand.{Operand}
use Rattle.gh_bindings.specs.declared.binding.Operand.TheVariants.{Name, Text}
use Rattle.gh_bindings.specs.Source.{pattern_var, pattern_con, no_pattern, and_pattern, Expression, var, top, con, string, lam, app, cases, no_argument, and_argument, Rows, no_row, row}
use Rattle.gh_bindings.specs.Acts.{seen, demand, act}
use Rattle.gh_keeps.specs.Keeps.{runs}

abbrev pub append : Origin
append = prelude_value APPEND

-- a name that the program binds
abbrev pub main_value : NameId → Origin
main_value name = record { «module» = MAIN_MODULE; space = Values; name = name }

-- two expressions joined by `++`
abbrev pub join : Expression → Expression → Expression
join a b = app (app (top append) a) b

abbrev pub cell : Expression → Expression → Expression
cell x xs = app (app (con cons) x) xs

-- the bytes of both clauses of `++` in the text of the Prelude
abbrev pub append_place : Span
append_place = record { file = 0; from = 1159; to = 1204 }

-- [] ++ ys = ys
-- (x : xs) ++ ys = x : (xs ++ ys)
abbrev pub append_rows : Rows
append_rows =
    row (and_pattern (pattern_con nil no_pattern) (and_pattern (pattern_var 2) no_pattern)) (var 2)
    (row (and_pattern (pattern_con cons (and_pattern (pattern_var 3) (and_pattern (pattern_var 4) no_pattern))) (and_pattern (pattern_var 5) no_pattern))
    (cell (var 3) (join (var 4) (var 5))) no_row)

-- clauses of two arguments are a function of two variables, and a case on both
abbrev pub append_clauses : Expression
append_clauses = lam 0 (lam 1 (cases append_place (and_argument (var 0) (and_argument (var 1) no_argument)) append_rows))

abbrev pub operand : Operand → Expression
operand (Name name span) = top (main_value name)
operand (Text cs) = string cs

-- operands, joined from the right
abbrev pub joined : List Operand → Expression
joined [] = string []
joined (o ∷ []) = operand o
joined (o ∷ p ∷ ps) = join (operand o) (joined (p ∷ ps))

abbrev pub definition : Binding → Origin × Expression
definition b = (main_value b.name, joined b.operands)

-- the Prelude's `++`, and the bindings
abbrev pub definitions : List Binding → List (Origin × Expression)
definitions bs = (append, append_clauses) ∷ map definition bs

-- what is seen of `main` after n steps
abbrev pub meaning : List Binding → ℕ → Seen
meaning bs n = seen (runs (act (definitions bs)) n (demand (top (main_value MAIN)) [] []))
